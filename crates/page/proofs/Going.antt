-- What becomes of a reply that is made, by the line of its route: the ruling is the table's, and C is told the octets that go. Assumes nothing.
use Rattle.std.specs.Prelude.{Option, Some, None}
use native.Mathlib.Omega.{arith}
use Prim.Native.Nat.{ℕ, ◌<◌}
use mathlib.Core.Path.{◌≡◌, refl, sym, ap, ap₂, subst, ◌∙◌}
use mathlib.Core.Bool.{Bool, true, false, not, ◌&&◌, and-true, and-false, not-not}
use lib.Bits.{bit_and, and_le_r}
use lib.Dec.{eqb, ltb}
use borrow.Author.Tests.{ne_eqb}
use Rattle.checks.specs.Order.{pick, first_of}
use Rattle.checks.proofs.Bools as bools
use Rattle.sets.specs.Sets.{in_set}
use Rattle.address.specs.declared.Address.{Address}
use Rattle.header.specs.Limits.{length_limit}
use Rattle.networks.specs.Networks.{domain_of}
use Rattle.state.specs.Relay.{Relay, port_in, queue_in, port_set_up}
use Rattle.survey.specs.Survey.{in_domain, fits_port, is_fitting, is_full, survey_within, wanted_of}
use Rattle.survey.specs.declared.Sought.{Sought}
use Rattle.survey.proofs.Bits.{in_none, in_and, in_except}
use Rattle.verdict.specs.Numbers.{onward_number}
use Rattle.verdict.specs.Rule.{except_by, code_of, route_line, large_enough, copies_of, ruling_of}
use Rattle.verdict.specs.declared.Local.TheVariants.{No}
use Rattle.verdict.specs.declared.Obstacle.TheVariants.{TooBig, QueuesFull}
use Rattle.verdict.specs.declared.Onward.TheVariants as onward
use Rattle.verdict.specs.declared.Ruling.{Ruling}
use Rattle.verdict.specs.declared.Survey.{Survey}
use Rattle.verdict.specs.declared.Way.{Way}
use Rattle.verdict.specs.declared.Wish.TheVariants.{Refused, Wanted}
use Rattle.replies.specs.Replied.{wire_length, within_room, sought_for, replied_among, replied_via}
use Rattle.replies.specs.declared.Answering.{Answering}
use Rattle.replies.specs.declared.sending.Replied.{Replied}
use Rattle.page.specs.Table.{Ports, some_port, nobody, Line, not_asked, refused, wanted, lies_far, has_room, with_room, without_room}
use Rattle.page.specs.Replies.{reply_length, of_reply_size, reply_rows, ReplyVerdict, reply_by, RepliesAs, WiredAs}
use Rattle.page.proofs.Sets.{empty_is}
use Rattle.page.proofs.Ports.{gathered, small}
use Rattle.page.proofs.Copies.{Alone, Same, none_passes}
use Rattle.page.proofs.Small.{Small, size_small, ruling_small}

-- ---- the tests
-- the size for a port is that for its domain or that for another
size_case : (near : Bool) (a : Answering) (code room : ℕ)
    → pick near (within_room room (wire_length false a code)) (within_room room (wire_length true a code)) ≡ within_room room (wire_length (not near) a code)
size_case true a code room = refl
size_case false a code room = refl

-- one over the room fits none
room_case : (mtu room n : ℕ) → fits_port mtu (within_room room n) ≡ (not (ltb mtu n) && (ltb n length_limit && not (ltb room n)))
room_case mtu room n = by (ltb room n)
  where
    by : (t : Bool) → fits_port mtu (pick t length_limit n) ≡ (not (ltb mtu n) && (ltb n length_limit && not t))
    by true = and-false (not (ltb mtu length_limit)) ∙ sym (rw (and-false (ltb n length_limit)) (and-false (not (ltb mtu n))))
    by false = ap (λ (u : Bool). not (ltb mtu n) && u) (sym (and-true (ltb n length_limit)))

wanted_twice : (s u t : Bool) → (s && (u && (s && t))) ≡ (s && (u && t))
wanted_twice true u t = refl
wanted_twice false u t = refl

-- a port that is left is wanted and set up
taken_case : (s u t room : Bool) → ((s && (u && t)) && not (u && (s && not room))) ≡ ((s && (u && t)) && room)
taken_case false u t room = refl
taken_case true false t room = refl
taken_case true true false room = refl
taken_case true true true true = refl
taken_case true true true false = refl

dropped_case : (s u t room : Bool) → ((s && (u && t)) && (u && (s && not room))) ≡ ((s && (u && t)) && not room)
dropped_case false u t room = refl
dropped_case true false t room = refl
dropped_case true true t room = refl

far_case : (s u t room near : Bool) → (((s && (u && t)) && room) && not (u && (s && near))) ≡ (((s && (u && t)) && room) && not near)
far_case false u t room near = refl
far_case true false t room near = refl
far_case true true t room near = refl

-- a line wants no two ports
abbrev pub OnePort : Line → Type 0
OnePort not_asked = Unit
OnePort (refused n) = Unit
OnePort (wanted ports c) = Alone ports

module _ (r : Relay) (at : ℕ) (a : Answering) (room : ℕ) (arrived : a.arrival ≡ (port_in r at).address) where
  -- ---- by a set of ports, which the table's test says too
  module _ (set code : ℕ) (ports : Ports) (same : (p : ℕ) → p < 8 → in_set p set ≡ ports p) where
    abbrev sought : Sought
    sought = sought_for a code room

    abbrev found : Survey
    found = wanted_of r set sought

    near_is : (p : ℕ) → in_domain (port_in r p) sought ≡ not (lies_far r at p)
    near_is p = ap (λ (x : Address). eqb (domain_of (port_in r p).address) (domain_of x)) arrived ∙ sym (not-not _)

    abbrev fits_at : Ports
    fits_at p =
        not (ltb (port_in r p).mtu (reply_length r at a code p))
        && (ltb (reply_length r at a code p) length_limit && not (ltb room (reply_length r at a code p)))

    fits_is : (p : ℕ) → is_fitting (port_in r p) sought ≡ fits_at p
    fits_is p =
        ap (fits_port (port_in r p).mtu) (size_case (in_domain (port_in r p) sought) a code room)
        ∙ ap (λ (t : Bool). fits_port (port_in r p).mtu (within_room room (wire_length t a code))) (ap not (near_is p) ∙ not-not (lies_far r at p))
        ∙ room_case (port_in r p).mtu room (reply_length r at a code p)

    abbrev size : Ports
    size = of_reply_size r at a room ports code

    abbrev fits : ℕ
    fits = bit_and set found.fitting

    abbrev took : ℕ
    took = except_by fits found.full

    fits_small : fits < 256
    unfolding survey_within
    fits_small = omega (arith, and_le_r set found.fitting, small r (λ (p : ℕ). in_set p set && is_fitting (port_in r p) sought))

    size_same : (p : ℕ) → p < 8 → in_set p fits ≡ size p
    unfolding survey_within
    size_same p l =
        in_and p set found.fitting
        ∙ ap₂ ◌&&◌ (same p l)
        (gathered r (λ (q : ℕ). in_set q set && is_fitting (port_in r q) sought) p l ∙ ap₂ (λ (s t : Bool). port_set_up r p && (s && t)) (same p l) (fits_is p))
        ∙ wanted_twice (ports p) (port_set_up r p) (fits_at p)

    full_same : (p : ℕ) → p < 8 → in_set p found.full ≡ (port_set_up r p && (ports p && not (has_room r p)))
    unfolding survey_within
    full_same p l =
        gathered r (λ (q : ℕ). in_set q set && is_full (queue_in r q).count) p l ∙ ap (λ (s : Bool). port_set_up r p && (s && not (has_room r p))) (same p l)

    took_same : (p : ℕ) → p < 8 → in_set p took ≡ with_room r size p
    took_same p l =
        in_except p fits found.full ∙ ap₂ (λ (s t : Bool). s && not t) (size_same p l) (full_same p l)
        ∙ taken_case (ports p) (port_set_up r p) (fits_at p) (has_room r p)

    dropped_same : (p : ℕ) → p < 8 → in_set p (bit_and fits found.full) ≡ without_room r size p
    dropped_same p l =
        in_and p fits found.full ∙ ap₂ ◌&&◌ (size_same p l) (full_same p l)
        ∙ dropped_case (ports p) (port_set_up r p) (fits_at p) (has_room r p)

    -- ---- the ruling
    abbrev rows : Bool → Bool → ℕ
    rows z t = pick (not z) 14 (pick (not t) 15 1)

    abbrev number : ℕ
    number = first_of (reply_rows r at a room ports code)

    number_is : number ≡ rows (some_port size) (some_port (with_room r size))
    unfolding reply_rows first_of
    number_is = refl

    abbrev verdict : ReplyVerdict
    verdict = reply_by r at a room (wanted ports code)

    abbrev replied : Ruling → Replied
    replied x =
        record {
          refusal = 0;
          ruling = x;
          precedence = a.precedence;
          code = code;
          far = except_by x.took found.domain;
          octets = pick (eqb x.took 0) 0 (wire_length (not (eqb (except_by x.took found.domain) 0)) a code);
        }

    took_agrees : (t : Bool) → some_port (with_room r size) ≡ t → number ≡ rows true t
        → RepliesAs (replied (ruling_of No (Wanted fits) found.full)) verdict
    unfolding ruling_of copies_of
    took_agrees t e n = record {
      refusal = refl;
      local = refl;
      onward =
          ap (λ (u : Bool). onward_number (pick u (onward.Refused QueuesFull) onward.SentOn))
          (empty_is took (with_room r size) (omega (arith, fits_small)) took_same ∙ ap not e)
          ∙ last t ∙ sym n;
      granted = size_same;
      took = took_same;
      dropped = dropped_same;
      code = refl;
    }
      where
        last : (u : Bool) → onward_number (pick (not u) (onward.Refused QueuesFull) onward.SentOn) ≡ rows true u
        last true = refl
        last false = refl

    big_agrees : some_port size ≡ false → number ≡ 14 → RepliesAs (replied (ruling_of No (Refused TooBig) found.full)) verdict
    unfolding ruling_of
    big_agrees e n = record {
      refusal = refl;
      local = refl;
      onward = sym n;
      granted = λ p l. in_none p ∙ sym (none_passes size e p l);
      took = λ p l. in_none p ∙ sym (rw (none_passes size e p l));
      dropped = λ p l. in_none p ∙ sym (rw (none_passes size e p l));
      code = refl;
    }

    among_agrees : RepliesAs (replied_among a set code found) verdict
    unfolding replied_among
    among_agrees = by (some_port size) refl
      where
        by : (z : Bool) → some_port size ≡ z → RepliesAs (replied (ruling_of No (large_enough set found.fitting) found.full)) verdict
        by true e =
            subst (λ (u : Bool). RepliesAs (replied (ruling_of No (pick u (Refused TooBig) (Wanted fits)) found.full)) verdict)
            (sym (empty_is fits size fits_small size_same ∙ ap not e))
            (took_agrees (some_port (with_room r size)) refl (number_is ∙ ap (λ (z : Bool). rows z (some_port (with_room r size))) e))
        by false e =
            subst (λ (u : Bool). RepliesAs (replied (ruling_of No (pick u (Refused TooBig) (Wanted fits)) found.full)) verdict)
            (sym (empty_is fits size fits_small size_same ∙ ap not e))
            (big_agrees e (number_is ∙ ap (λ (z : Bool). rows z (some_port (with_room r size))) e))

    -- ---- the octets that go
    abbrev ruling : Ruling
    ruling = ruling_of No (large_enough set found.fitting) found.full

    among_small : Small ruling
    unfolding survey_within
    among_small =
        ruling_small No (large_enough set found.fitting) found.full
        (omega (arith, size_small (Wanted set) found.fitting, small r (λ (p : ℕ). in_set p set && is_fitting (port_in r p) sought)))

    abbrev far : ℕ
    far = except_by ruling.took found.domain

    took_in : (p : ℕ) → p < 8 → in_set p ruling.took ≡ with_room r size p
    unfolding replied_among
    took_in p l = among_agrees.took p l

    domain_same : (p : ℕ) → p < 8 → in_set p found.domain ≡ (port_set_up r p && (ports p && not (lies_far r at p)))
    unfolding survey_within
    domain_same p l =
        gathered r (λ (q : ℕ). in_set q set && in_domain (port_in r q) sought) p l ∙ ap₂ (λ (s t : Bool). port_set_up r p && (s && t)) (same p l) (near_is p)

    -- those that took it in another domain
    far_same : (p : ℕ) → p < 8 → in_set p far ≡ (in_set p ruling.took && lies_far r at p)
    far_same p l =
        in_except p ruling.took found.domain
        ∙ ap₂ (λ (s t : Bool). s && not t) (took_in p l) (domain_same p l)
        ∙ far_case (ports p) (port_set_up r p) (fits_at p) (has_room r p) (not (lies_far r at p))
        ∙ ap₂ ◌&&◌ (sym (took_in p l)) (not-not (lies_far r at p))

    wanted_when : (p : ℕ) → p < 8 → in_set p ruling.took ≡ true → ports p ≡ true
    wanted_when p l is = (bools.and_true (ports p) _ (bools.and_true (size p) (has_room r p) (sym (took_in p l) ∙ is)).0).0

    module _ (alone : Alone ports) (p : ℕ) (l : p < 8) (is : in_set p ruling.took ≡ true) where
      far_told : not (eqb far 0) ≡ lies_far r at p
      unfolding some_port
      far_told = by (lies_far r at p) refl
        where
          other : lies_far r at p ≡ false → (q : ℕ) → q < 8 → (in_set q ruling.took && lies_far r at q) ≡ false
          other near q k =
              bools.refuted (in_set q ruling.took && lies_far r at q) λ e.
              let both = bools.and_true (in_set q ruling.took) (lies_far r at q) e in
              bools.true_false (sym both.1 ∙ ap (lies_far r at) (alone q p k l (wanted_when q k both.0) (wanted_when p l is)) ∙ near)

          by : (t : Bool) → lies_far r at p ≡ t → not (eqb far 0) ≡ t
          by true e = ap not (ne_eqb far 0 (λ z. bools.true_false (sym (far_same p l ∙ rw (is, e)) ∙ ap (in_set p) z ∙ in_none p)))
          by false e = ap not (empty_is far nobody (omega (arith, among_small.took)) (λ q k. far_same q k ∙ other e q k))

      octets_told : pick (eqb ruling.took 0) 0 (wire_length (not (eqb far 0)) a code) ≡ reply_length r at a code p
      octets_told =
          ap (λ (t : Bool). pick t 0 (wire_length (not (eqb far 0)) a code))
          (ne_eqb ruling.took 0 (λ z. bools.true_false (sym is ∙ ap (in_set p) z ∙ in_none p)))
          ∙ ap (λ (t : Bool). wire_length t a code) far_told

    among_wired : Alone ports → WiredAs r at a (replied_among a set code found)
    unfolding replied_among
    among_wired alone = record { octets = octets_told alone; far = far_told alone }

  -- ---- by the way that was found, where the table's line says the same
  pub way_agrees : (w : Option Way) (line : Line) → Same (code_of w) (route_line w) line → RepliesAs (replied_via r a w room) (reply_by r at a room line)
  unfolding route_line ruling_of
  way_agrees None not_asked e = absurd e
  way_agrees None (refused n) e = record {
    refusal = refl;
    local = refl;
    onward = e;
    granted = λ p l. in_none p;
    took = λ p l. in_none p;
    dropped = λ p l. in_none p;
    code = refl;
  }
  way_agrees None (wanted ports c) e = absurd e
  way_agrees (Some way) not_asked e = absurd e
  way_agrees (Some way) (refused n) e = absurd e
  way_agrees (Some way) (wanted ports c) e =
      subst (λ (n : ℕ). RepliesAs (replied_via r a (Some way) room) (reply_by r at a room (wanted ports n))) e.0.0 (among_agrees way.port way.code ports e.1)

  pub way_wired : (w : Option Way) (line : Line) → Same (code_of w) (route_line w) line → OnePort line → WiredAs r at a (replied_via r a w room)
  unfolding route_line ruling_of
  way_wired None line e one =
      record { octets = λ p l is. bools.true_false (sym is ∙ in_none p); far = λ p l is. bools.true_false (sym is ∙ in_none p) }
  way_wired (Some way) not_asked e one = absurd e
  way_wired (Some way) (refused n) e one = absurd e
  way_wired (Some way) (wanted ports c) e one = among_wired way.port way.code ports e.1 one

  -- No set has a port over 7.
  pub way_small : (w : Option Way) → Small (replied_via r a w room).ruling
  unfolding ruling_of replied_among
  way_small None = record { granted = omega arith; took = omega arith; dropped = omega arith }
  way_small (Some way) = among_small way.port way.code (λ (p : ℕ). in_set p way.port) (λ p l. refl)
