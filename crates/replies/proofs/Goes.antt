-- What is so of a reply that goes: it fits the room and the port, and has the octets that are told. Assumes nothing.
use Rattle.std.specs.Prelude.{Option, Some, None}
use native.Mathlib.Omega.{arith}
use native.Mathlib.Nat.{div-eq_of_lt}
use Prim.Native.Nat.{ℕ, ◌%◌, ◌≤◌, ◌<◌}
use mathlib.Core.Path.{◌≡◌, refl, sym, ap, subst, subst⁻¹, ◌∙◌}
use mathlib.Core.Logic.{◌≢◌}
use mathlib.Core.Bool.{Bool, true, false, not, ◌&&◌}
use mathlib.Core.List.{List}
use lib.ListN.{length, length-append}
use lib.Bits.{bit_and, and_le_r}
use lib.Pow.{pow_pos}
use lib.Dec.{eqb, ltb}
use borrow.Author.Tests.{ltb-true, ltb-false, eqb-true, eqb-false, ne_eqb, not-true}
use Rattle.checks.specs.Order.{pick}
use Rattle.checks.proofs.Bools.{true_false, and_true, refuted}
use Rattle.sets.specs.Sets.{in_set, any_below}
use Rattle.sets.proofs.Anywhere.{any_is, any_found}
use Rattle.sets.proofs.Loops.{port_set_below}
use Rattle.networks.proofs.Bits.{bit, bit_small, same_bits}
use Rattle.header.specs.Limits.{length_limit}
use Rattle.header.proofs.BuiltLaws.{header_length}
use Rattle.echo.specs.Message.{message_octets}
use Rattle.echo.proofs.Trip.{written_length}
use Rattle.state.specs.Relay.{Relay, port_in}
use Rattle.records.specs.SetUp.{is_set_up}
use Rattle.survey.specs.Survey.{in_domain, fits_port, size_at, is_fitting, wanted_below, survey_within, wanted_of}
use Rattle.survey.specs.declared.Sought.{Sought}
use Rattle.survey.proofs.Bits.{in_and, in_except, in_gathered, in_none}
use Rattle.verdict.specs.Rule.{except_by, copies_of, ruling_of}
use Rattle.verdict.specs.declared.Local.TheVariants.{No}
use Rattle.verdict.specs.declared.Ruling.{Ruling}
use Rattle.verdict.specs.declared.Survey.{Survey}
use Rattle.verdict.specs.declared.Way.{Way}
use Rattle.verdict.specs.declared.Wish.TheVariants.{Refused, Wanted}
use Rattle.verdict.specs.declared.Obstacle.TheVariants.{TooBig}
use Rattle.replies.specs.Replied.{answering_of, wire_fields, message_size, wire_length, within_room, sought_for, no_reply, replied_among, replied_via, replied_to, echoed_of, wire_header, wire_reply, Goes}
use Rattle.replies.specs.declared.Answering.{Answering}
use Rattle.replies.specs.declared.sending.Replied.{Replied}
use Rattle.replies.proofs.Going.{wired_small}
use Rattle.replies.proofs.Written.{echoed_length}
use Rattle.replies.proofs.Made.{made_holds, made_within}

-- ---- a set that is not empty has a port
bit_none : (p n : ℕ) → in_set p n ≡ false → bit p n ≡ bit p 0
bit_none p n h =
    let zero_bit : bit p 0 ≡ 0 = ap (λ (x : ℕ). x % 2) (div-eq_of_lt (pow_pos p)) in
    omega (arith, zero_bit, bit_small p n, eqb-false (bit p n) 1 h)

pub some_port_lem : (n : ℕ) → n < 256 → n ≢ 0 → (p : ℕ) × (p < 8) × (in_set p n ≡ true)
some_port_lem n small some = by (any_below (λ (p : ℕ). in_set p n) 8) refl
  where
    by : (t : Bool) → any_below (λ (p : ℕ). in_set p n) 8 ≡ t → (p : ℕ) × (p < 8) × (in_set p n ≡ true)
    by true e = (any_is (λ (p : ℕ). in_set p n) 8).0 e
    by false e =
        absurd (some (same_bits 8 n 0 small (omega arith) (λ p l.
        bit_none p n (refuted (in_set p n) (λ h. true_false (sym (any_found (λ (q : ℕ). in_set q n) p 8 l h) ∙ e))))))

-- ---- what goes fits
abbrev pub Fits : Relay → ℕ → ℕ → ℕ → Type 0
Fits r room p size = (size ≤ (port_in r p).mtu) × ((size ≤ room) × (size < length_limit))

fits_room : (r : Relay) (room p size : ℕ) → fits_port (port_in r p).mtu (within_room room size) ≡ true → Fits r room p size
fits_room r room p size h = by (ltb room size) refl h
  where
    by : (t : Bool) → ltb room size ≡ t → fits_port (port_in r p).mtu (pick t length_limit size) ≡ true → Fits r room p size
    by true e k = true_false (sym (and_true (not (ltb (port_in r p).mtu length_limit)) (ltb length_limit length_limit) k).1)
    by false e k =
        let b = and_true (not (ltb (port_in r p).mtu size)) (ltb size length_limit) k in
        (ltb-false (port_in r p).mtu size (not-true (ltb (port_in r p).mtu size) b.0), (ltb-false room size e, ltb-true size length_limit b.1))

module _ (r : Relay) (a : Answering) (set code room : ℕ) where
  abbrev sought : Sought
  sought = sought_for a code room

  abbrev found : Survey
  found = wanted_of r set sought

  abbrev sent : Replied
  sent = replied_among a set code found

  -- the ports that the walk gathered
  gathered : (test : ℕ → Bool) (p : ℕ) → p < 8 → in_set p (wanted_below r set test 8) ≡ (is_set_up (port_in r p) && (in_set p set && test p))
  gathered test p l = in_gathered (λ (i : ℕ). is_set_up (port_in r i) && (in_set i set && test i)) p 8 l

  fitting_in : (p : ℕ) → p < 8 → in_set p found.fitting ≡ (is_set_up (port_in r p) && (in_set p set && is_fitting (port_in r p) sought))
  unfolding survey_within
  fitting_in p l = gathered (λ (i : ℕ). is_fitting (port_in r i) sought) p l

  domain_in : (p : ℕ) → p < 8 → in_set p found.domain ≡ (is_set_up (port_in r p) && (in_set p set && in_domain (port_in r p) sought))
  unfolding survey_within
  domain_in p l = gathered (λ (i : ℕ). in_domain (port_in r i) sought) p l

  fitting_small : found.fitting < 256
  unfolding survey_within
  fitting_small = port_set_below (λ (i : ℕ). is_set_up (port_in r i) && (in_set i set && is_fitting (port_in r i) sought)) 8

  -- those that took it are large enough, and their queues not full
  abbrev Took : Ruling → Type 0
  Took x = x.took ≢ 0 → x.took ≡ except_by (bit_and set found.fitting) found.full

  took_by : (t : Bool) → Took (ruling_of No (pick t (Refused TooBig) (Wanted (bit_and set found.fitting))) found.full)
  unfolding ruling_of copies_of
  took_by true some = absurd (some refl)
  took_by false some = refl

  took_is : sent.ruling.took ≢ 0 → sent.ruling.took ≡ except_by (bit_and set found.fitting) found.full
  unfolding replied_among
  took_is some = took_by (eqb (bit_and set found.fitting) 0) some

  took_small : sent.ruling.took < 256
  took_small = by (eqb sent.ruling.took 0) refl
    where
      by : (t : Bool) → eqb sent.ruling.took 0 ≡ t → sent.ruling.took < 256
      by true e = omega (arith, eqb-true sent.ruling.took 0 e)
      by false e = omega (arith, took_is (eqb-false sent.ruling.took 0 e), and_le_r set found.fitting, fitting_small)

  far_is : sent.far ≡ except_by sent.ruling.took found.domain
  unfolding replied_among
  far_is = refl

  octets_are : sent.ruling.took ≢ 0 → sent.octets ≡ wire_length (not (eqb sent.far 0)) a sent.code
  unfolding replied_among
  octets_are some = simp (ne_eqb sent.ruling.took 0 some)

  code_is : sent.code ≡ code
  unfolding replied_among
  code_is = refl

  -- each of them by its own domain
  module _ (p : ℕ) (l : p < 8) (in_took : in_set p sent.ruling.took ≡ true) where
    some_took : sent.ruling.took ≢ 0
    some_took z = true_false (sym in_took ∙ ap (in_set p) z ∙ in_none p)

    in_fitting : (is_set_up (port_in r p) ≡ true) × ((in_set p set ≡ true) × (is_fitting (port_in r p) sought ≡ true))
    in_fitting =
        let left = (and_true (in_set p (bit_and set found.fitting)) (not (in_set p found.full))
        (sym (in_except p (bit_and set found.fitting) found.full) ∙ sym (ap (in_set p) (took_is some_took)) ∙ in_took)).0 in
        let both = and_true (in_set p set) (in_set p found.fitting) (sym (in_and p set found.fitting) ∙ left) in
        let all = and_true (is_set_up (port_in r p)) (in_set p set && is_fitting (port_in r p) sought) (sym (fitting_in p l) ∙ both.1) in
        (all.0, (both.0, (and_true (in_set p set) (is_fitting (port_in r p) sought) all.1).1))

    in_far : in_set p sent.far ≡ not (in_domain (port_in r p) sought)
    in_far =
        let f = in_fitting in
        ap (in_set p) far_is
        ∙ in_except p sent.ruling.took found.domain
        ∙ ap (λ (t : Bool). t && not (in_set p found.domain)) in_took
        ∙ ap not (domain_in p l ∙ ap (λ (t : Bool). t && (in_set p set && in_domain (port_in r p) sought)) f.0
        ∙ ap (λ (t : Bool). t && in_domain (port_in r p) sought) f.1.0)

    pub each_fits : Fits r room p (wire_length (in_set p sent.far) a code)
    each_fits = by (in_domain (port_in r p) sought) refl in_far
      where
        by : (t : Bool) → in_domain (port_in r p) sought ≡ t → in_set p sent.far ≡ not t → Fits r room p (wire_length (in_set p sent.far) a code)
        by true e f =
            subst⁻¹ (λ (u : Bool). Fits r room p (wire_length u a code)) f
            (fits_room r room p (wire_length false a code) (ap (λ (u : Bool). fits_port (port_in r p).mtu (size_at u sought)) (sym e) ∙ in_fitting.1.1))
        by false e f =
            subst⁻¹ (λ (u : Bool). Fits r room p (wire_length u a code)) f
            (fits_room r room p (wire_length true a code) (ap (λ (u : Bool). fits_port (port_in r p).mtu (size_at u sought)) (sym e) ∙ in_fitting.1.1))

  -- the reply as it goes fits one of them
  abbrev pub FitsOne : ℕ → Type 0
  FitsOne size = (p : ℕ) × ((p < 8) × ((in_set p sent.ruling.took ≡ true) × Fits r room p size))

  one_fits : (p : ℕ) → p < 8 → in_set p sent.ruling.took ≡ true → (t : Bool) → in_set p sent.far ≡ t → FitsOne (wire_length t a sent.code)
  one_fits p l in_took t is = (
    p,
    (
      l,
      (
        in_took,
        subst⁻¹ (λ (n : ℕ). Fits r room p (wire_length t a n)) code_is
            (subst (λ (u : Bool). Fits r room p (wire_length u a code)) is (each_fits p l in_took)),
      ),
    ),
  )

  pub wire_fits : sent.ruling.took ≢ 0 → FitsOne (wire_length (not (eqb sent.far 0)) a sent.code)
  wire_fits some = by (eqb sent.far 0) refl
    where
      by : (t : Bool) → eqb sent.far 0 ≡ t → FitsOne (wire_length (not t) a sent.code)
      by true e =
          let q = some_port_lem sent.ruling.took took_small some in
          one_fits q.0 q.1 q.2 false (ap (in_set q.0) (eqb-true sent.far 0 e) ∙ in_none q.0)
      by false e =
          let few : sent.far < 256 = omega (arith, far_is, took_small) in
          let q = some_port_lem sent.far few (eqb-false sent.far 0 e) in
          let both = and_true (in_set q.0 sent.ruling.took) (not (in_set q.0 found.domain))
          (sym (in_except q.0 sent.ruling.took found.domain) ∙ sym (ap (in_set q.0) far_is) ∙ q.2) in
          one_fits q.0 q.1 both.0 true q.2

-- ---- by the way that was found, and by whether there is a reply
module _ (r : Relay) (a : Answering) (room : ℕ) where
  -- of one that goes: it has the octets told, and fits a port that took it, and the room
  pub record Sent (e : Replied) : Type 0 where
    pub octets : e.octets ≡ wire_length (not (eqb e.far 0)) a e.code
    pub port : ℕ
    pub below : port < 8
    pub took : in_set port e.ruling.took ≡ true
    pub fits : Fits r room port (wire_length (not (eqb e.far 0)) a e.code)

  by_way : (w : Option Way) → (replied_via r a w room).ruling.took ≢ 0 → Sent (replied_via r a w room)
  unfolding ruling_of
  by_way None some = absurd (some refl)
  by_way (Some way) some =
      let q = wire_fits r a way.port way.code room some in
      record { octets = octets_are r a way.port way.code room some; port = q.0; below = q.1.0; took = q.1.1.0; fits = q.1.1.1 }

  by_made : (t : Bool) (w : Option Way) → (pick t (no_reply a.refusal) (replied_via r a w room)).ruling.took ≢ 0
      → (t ≡ false) × Sent (pick t (no_reply a.refusal) (replied_via r a w room))
  by_made true w some = absurd (some refl)
  by_made false w some = (refl, by_way w some)

  pub goes_fits : (w : Option Way) → (replied_to r a w room).ruling.took ≢ 0 → (a.made ≢ 0) × Sent (replied_to r a w room)
  unfolding replied_to
  goes_fits w some =
      let g = by_made (eqb a.made 0) w some in
      (eqb-false a.made 0 g.0, g.1)

-- ---- the octets of a reply
module _ (a : Answering) (e : Replied) (octets lent : List ℕ) (g : Goes a e octets lent) where
  pub length_wire : length (wire_reply a e octets) ≡ wire_length (not (eqb e.far 0)) a e.code
  unfolding wire_reply wire_length
  length_wire =
      let far = not (eqb e.far 0) in
      let f = wire_fields far a.arrival.0 e.code a.fields in
      let header = header_length f (message_size a) (wired_small far a e.code g.made refl).1.0 in
      let message = written_length a.message (echoed_of a octets) in
      omega (
        arith,
        length-append (wire_header a e) (message_octets a.message (echoed_of a octets)),
        header,
        message,
        echoed_length a e octets lent g,
        g.made.reply,
      )

-- ---- a reply that was made
module _ (r : Relay) (number dropping port : ℕ) (octets : List ℕ) (room : ℕ) (w : Option Way) where
  abbrev answer : Answering
  answer = answering_of r number dropping port octets room

  abbrev ended : Replied
  ended = replied_to r answer w room

  module _ (some : ended.ruling.took ≢ 0) where
    pub goes_sent : Sent r answer room ended
    goes_sent = (goes_fits r answer room w some).1

    pub goes_holds : (output : List ℕ) → length output ≡ room → Goes answer ended octets output
    goes_holds output e =
        let made = (goes_fits r answer room w some).0 in
        record {
          made = made_holds r number dropping port octets room made;
          within = made_within r number dropping port octets room made;
          fits = omega (arith, e, goes_sent.fits.1.0);
        }

    -- what is told are the octets of the datagram: at most 8,191, and at most the MTU of a port that took it
    pub goes_length : (output : List ℕ) → length output ≡ room → ended.octets ≡ length (wire_reply answer ended octets)
    goes_length output e = goes_sent.octets ∙ sym (length_wire answer ended octets output (goes_holds output e))

    pub goes_short : (output : List ℕ) → length output ≡ room
        → (length (wire_reply answer ended octets) < length_limit) × (length (wire_reply answer ended octets) ≤ (port_in r goes_sent.port).mtu)
    goes_short output e =
        let is = length_wire answer ended octets output (goes_holds output e) in
        (omega (arith, is, goes_sent.fits.1.1), omega (arith, is, goes_sent.fits.0))
