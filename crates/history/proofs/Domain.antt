-- Demand 2, the domain, when a copy goes out and of the octets that go out (page 02, W-214): what each copy that waits on a port goes out as names there, at
-- that moment, the systems that what came named where it came in; and a reply those that it names at the port of its request (W-203). A port that is set up is
-- never written anew: 35 prevents it. The theorem is `waiting_copies_name_the_same`. Assumes nothing.
use native.Mathlib.Omega.{arith}
use Prim.Native.Nat.{ℕ, suc, ◌+◌, ◌/◌, ◌^◌, ◌<◌, ◌≤◌}
use mathlib.Core.Path.{◌≡◌, refl, sym, ap, subst, ◌∙◌}
use mathlib.Core.Bool.{Bool, true, false, not, and-false}
use mathlib.Core.Logic.{◌≢◌, ◌⊎◌, inl, inr}
use mathlib.Core.List.{List, [], ◌∷◌, ◌++◌}
use lib.ListN.{length, drop}
use lib.Seq.{drop-append_seam}
use lib.Dec.{eqb, ltb, leb}
use borrow.Author.Tests.{eqb-true, ltb-true, ltb-false, ne_eqb, lt-leb}
use Rattle.checks.specs.Order.{pick, first_of}
use Rattle.checks.proofs.Bools.{true_false, and_true, not-false}
use Rattle.checks.proofs.Laws.{either}
use Rattle.sets.specs.Sets.{in_set}
use Rattle.address.specs.Class.{class_number, between, family_of, class_in, class_of}
use Rattle.address.specs.Octets.{dotted}
use Rattle.address.specs.declared.Address.{Address}
use Rattle.address.specs.declared.Class.TheVariants.{Unicast}
use Rattle.address.specs.declared.Family.TheVariants.{Invalid}
use Rattle.address.specs.declared.Slot.{Slot}
use Rattle.header.specs.Build.{size_of, header_octets}
use Rattle.header.specs.Read.{read_of, Read}
use Rattle.header.specs.declared.Fields.{Fields}
use Rattle.header.specs.declared.Header.{Header}
use Rattle.checks.specs.Told.{Good, Refused}
use Rattle.header.proofs.Answers.{read_bounds}
use Rattle.header.proofs.BuiltLaws.{header_length}
use Rattle.networks.specs.Networks.{domain_of}
use Rattle.meaning.specs.Arrival.{arrival_checks}
use Rattle.meaning.specs.Asked.{precedence_asked}
use Rattle.meaning.specs.Names.{aim_of, origin_of}
use Rattle.next_leg.specs.Leg.{next_fields, data_of, next_size, next_length}
use Rattle.next_leg.proofs.Names.{stays_home}
use Rattle.next_leg.proofs.ReadBack.{next_length_parts, read_next}
use Rattle.queue.specs.Order.{Each}
use Rattle.records.specs.SetUp.{is_set_up}
use Rattle.records.specs.declared.Port.{Port}
use Rattle.routes.specs.Search.{longer_mask}
use Rattle.routes.specs.declared.Record.{Record}
use Rattle.settings.specs.Refusals.{other_class, port_class_refused, mtu_refused}
use Rattle.settings.proofs.Values.{mtu_taken}
use Rattle.state.specs.Relay.{Relay, port_in, among_ports, port_set_up}
use Rattle.state.proofs.Seen.{seen_set_up}
use Rattle.judge.specs.Ending.{refused_by, call_checks as heard_checks, header_ending, octets_ending, ruled_ending, arrival_at, ending_of}
use Rattle.judge.specs.declared.Ending.{Ending}
use Rattle.relay.specs.Received.{new_entry}
use Rattle.replies.specs.Replied.{call_checks, answering_of, wire_fields, message_size, wire_length, own_reply, wire_header, wire_reply}
use Rattle.replies.specs.declared.Answering.{Answering}
use Rattle.replies.specs.declared.sending.Replied.{Replied}
use Rattle.replies.proofs.Made.{was_made}
use Rattle.replies.proofs.Requested.{made_requested}
use Rattle.replies.proofs.Meaning.{reply_meaning}
use Rattle.replies.proofs.Unanswered.{fields_range, own_reads, wire_reads, wire_unanswered}
use Rattle.answering.specs.Echoed.{as_ending}
use Rattle.history.specs.Seat.{Seat, fresh_seat, relay_in, relay_with, heard_by, answering_by, replied_by}
use Rattle.history.specs.Calls.{sets, hears, echoes, takes, sweeps, looks, Call, operator, own}
use Rattle.history.specs.Outcome.{next, run_from, seat_after}
use Rattle.history.specs.Ranges.{Octets, Passed}
use Rattle.history.specs.Line.{Copy, copy_of, reply_copy, sent_of, taken_by, line_by, line_from, line_at}
use Rattle.page.specs.Table.{one_octet, lies_far, has_room, verdict_by}
use Rattle.survey.proofs.Bits.{in_none}
use Rattle.page.proofs.Answered.{made_exactly, made_tells}
use Rattle.page.proofs.Exactly.{took_exactly}
use Rattle.page.proofs.Replies.{reply_granted, reply_shared, reply_wired, reply_names_the_same}
use Rattle.page.proofs.Headers.{headers_of_any_relay}
use Rattle.page.proofs.Verdict.{masks_choose}
use Rattle.history.proofs.Heard.{heard_so}
use Rattle.history.proofs.Replying.{answer, reply, both_so}
use Rattle.history.proofs.Ports.{seen_stays}
use Rattle.history.proofs.Meaning.{has_passed, arrival_set_up, stays_in_its_domain, names_the_same}
use Rattle.history.proofs.Reach.{Kept, one_kept, fresh_kept}
use Rattle.history.proofs.Line.{line_each}
use Rattle.history.proofs.Ranges.{NoneWaits, none_comes, next_none}

-- ---- a datagram that a port took was read, and its ending has the header's size and precedence
pub record WasRead (octets : List ℕ) (e : Ending) : Type 0 where
  pub header : Header
  pub read : read_of octets ≡ Good header
  pub size : e.size ≡ header.size
  pub precedence : e.precedence ≡ precedence_asked header.fields.qos

took_case : (t : Bool) (n : ℕ) (e : Ending) → ((pick t e (refused_by n)).ruling.took ≡ 0 → ⊥)
    → (pick t e (refused_by n) ≡ e) × (e.ruling.took ≡ 0 → ⊥)
took_case true n e h = (refl, h)
took_case false n e h = absurd (h refl)

octets_read : (r : Relay) (port second : ℕ) (octets : List ℕ) (x : Read) → read_of octets ≡ x
    → ((octets_ending r (arrival_at r port) x).ruling.took ≡ 0 → ⊥) → WasRead octets (octets_ending r (arrival_at r port) x)
unfolding header_ending
octets_read r port second octets (Good h) is took =
    let n = first_of (arrival_checks (port_in r port).address h.fields) in
    let same = (took_case (eqb n 0) n (ruled_ending r (arrival_at r port) h) took).0 in
    record { header = h; read = is; size = ap (λ (e : Ending). e.size) same; precedence = ap (λ (e : Ending). e.precedence) same }
octets_read r port second octets (Refused n) is took = absurd (took refl)

page_read : (r : Relay) (port second : ℕ) (octets : List ℕ) (room : ℕ) → ((ending_of r port second octets room).ruling.took ≡ 0 → ⊥)
    → WasRead octets (ending_of r port second octets room)
unfolding ending_of
page_read r port second octets room took =
    let n = first_of (heard_checks r port second room) in
    let case = took_case (eqb n 0) n (octets_ending r (arrival_at r port) (read_of octets)) took in
    rw case.0 (octets_read r port second octets (read_of octets) refl case.1)

pub took_read : (seat : Seat) (rs : List Record) (port second : ℕ) (octets : List ℕ) (room : ℕ)
    → ((heard_by seat rs port second octets room).ruling.took ≡ 0 → ⊥) → WasRead octets (heard_by seat rs port second octets room)
took_read seat rs port second octets room =
    heard_so seat rs port second octets room (λ (e : Ending). (e.ruling.took ≡ 0 → ⊥) → WasRead octets e)
    (λ took. absurd (took refl)) (page_read (relay_with seat rs) port second octets room)

-- ---- a port that is set up has a unicast address, and so one of 32 bits
between_above : (low high n : ℕ) → high < n → between low high n ≡ false
between_above low high n h = rw (lt-leb n high h) (and-false (leb low n))

family_above : (first : ℕ) → 256 ≤ first → family_of first ≡ Invalid
unfolding family_of
family_above first h =
    simp
    (ne_eqb first 10 (λ z. omega arith), between_above 1 126 first (omega arith), between_above 128 191 first (omega arith), between_above 192 223 first (omega arith), between_above 224 239 first (omega arith))

class_above : (v : ℕ) → 2 ^ 32 ≤ v → eqb (class_number (class_of v)) (class_number Unicast) ≡ false
unfolding class_of class_in
class_above v h =
    rw (family_above (v / 2 ^ 24) (omega arith)) (either (λ c. eqb (class_number c) (class_number Unicast) ≡ false) (eqb v (dotted 255 255 255 255)) refl refl)

unicast_small : (a : Address) → port_class_refused a ≡ false → a.0 < 2 ^ 32
unfolding other_class
unicast_small a h = by (ltb a.0 (2 ^ 32)) refl
  where
    by : (t : Bool) → ltb a.0 (2 ^ 32) ≡ t → a.0 < 2 ^ 32
    by true e = ltb-true a.0 (2 ^ 32) e
    by false e = true_false (sym (ap not (class_above a.0 (ltb-false a.0 (2 ^ 32) e))) ∙ h)

module _ (seat : Seat) (k : Kept seat) (p : ℕ) (up : port_set_up (relay_in seat) p ≡ true) where
  -- what the port's address and MTU passed
  set_up_good : (port_class_refused (port_in (relay_in seat) p).address ≡ false) × (mtu_refused (port_in (relay_in seat) p).mtu ≡ false)
  unfolding among_ports
  set_up_good =
      let both = and_true (ltb p 8) (is_set_up (port_in (relay_in seat) p)) up in
      let seen = seen_set_up seat.board p seat.number both.1 in
      let good = k.board.good p (ltb-true p 8 both.0) (ap is_set_up (sym seen.1) ∙ both.1) in
      rw seen.1 (good.0, good.1.1.0)

  pub set_up_small : (port_in (relay_in seat) p).address.0 < 2 ^ 32
  set_up_small = unicast_small (port_in (relay_in seat) p).address set_up_good.0

  set_up_mtu : (port_in (relay_in seat) p).mtu < 2 ^ 32
  set_up_mtu = omega (arith, ((mtu_taken (port_in (relay_in seat) p).mtu).0 set_up_good.1).1)

-- ---- what a copy named at the port that it came in by, what goes out names at the port where it waits, as that port stands
-- the fields that go out are those that W-214 makes of the ones that came; a reply's keep their hop count, since it begins here
abbrev pub GoesAs : Bool → ℕ → ℕ → Fields → Fields → Type 0
GoesAs far arrival code came goes = (goes ≡ next_fields far arrival code came) ⊎ (goes ≡ wire_fields far arrival code came)

pub record NamesTheSame (x : Port) (c : Copy) : Type 0 where
  -- the header that came, or that the reply is made with
  pub came : Header
  pub read : read_of c.octets ≡ Good came
  pub size : c.size ≡ came.size
  -- the header that goes out, before the same data
  pub goes : Header
  pub reads : read_of (sent_of c) ≡ Good goes
  pub parts : goes.length ≡ goes.size + data_of came
  -- by whether the port lies in another domain, and by what the route taken asks for
  pub far : Bool
  pub lies : far ≡ not (eqb (domain_of x.address) (domain_of c.arrival))
  pub code : ℕ
  pub fields : GoesAs far c.arrival.0 code came.fields goes.fields
  pub aim : aim_of x.address.0 goes.fields.addresses ≡ aim_of c.arrival.0 came.fields.addresses
  pub origin : origin_of x.address.0 goes.fields.addresses ≡ origin_of c.arrival.0 came.fields.addresses
  pub domain : one_octet goes.fields.addresses ≡ true → domain_of x.address ≡ domain_of c.arrival

module _ (p : ℕ) (inside : p < 8) where
  abbrev AllNamed : Seat → List Copy → Type 0
  AllNamed seat line = Each (NamesTheSame (port_in (relay_in seat) p)) line

  -- ---- a datagram: the copy that enters
  module _ (seat : Seat) (rs : List Record) (n port : ℕ) (slot : Slot) (second : ℕ) (octets : List ℕ) (room : ℕ) (small : Octets octets) where
    page_copy : Kept seat → in_set p (ending_of (relay_with seat rs) port second octets room).ruling.took ≡ true
        → NamesTheSame (port_in (relay_in seat) p) (copy_of p n seat port slot octets (ending_of (relay_with seat rs) port second octets room))
    page_copy k took =
        let r = relay_with seat rs in
        let was = page_read r port second octets room (λ z. true_false (sym (sym (ap (in_set p) z) ∙ took) ∙ in_none p)) in
        let granted =
        (and_true (in_set p (ending_of r port second octets room).ruling.granted) (has_room r p) (sym (took_exactly r port second octets room p inside) ∙ took)).0 in
        let names = names_the_same longer_mask r (masks_choose r) p inside port second octets room was.header was.read granted in
        let arrival = (port_in (relay_in seat) port).address.0 in
        let far = lies_far r port p in
        let code = (verdict_by longer_mask r port second octets room).code in
        let here = set_up_small seat k port (arrival_set_up longer_mask r (masks_choose r) p inside port second octets room was.header was.read granted) in
        let short = (has_passed longer_mask r (masks_choose r) p inside port second octets room was.header was.read granted).short in
        let header = (headers_of_any_relay r port second octets room).header p inside took in
        record {
          came = was.header;
          read = was.read;
          size = was.size;
          goes =
              record {
                fields = next_fields far arrival code was.header.fields;
                length = next_length far arrival code was.header;
                size = next_size far arrival code was.header;
              };
          reads = rw (header, was.size) (read_next far arrival code octets was.header small here was.read short);
          parts = next_length_parts far arrival code was.header (read_bounds octets was.header small was.read).1.1.0;
          far = far;
          lies = refl;
          code = code;
          fields = inl refl;
          aim = names.0;
          origin = names.1;
          domain = stays_in_its_domain longer_mask r (masks_choose r) p inside port second octets room was.header was.read granted;
        }

    new_copy : Kept seat → in_set p (heard_by seat rs port second octets room).ruling.took ≡ true
        → NamesTheSame (port_in (relay_in seat) p) (copy_of p n seat port slot octets (heard_by seat rs port second octets room))
    new_copy k =
        heard_so seat rs port second octets room
        (λ (e : Ending). in_set p e.ruling.took ≡ true → NamesTheSame (port_in (relay_in seat) p) (copy_of p n seat port slot octets e))
        (λ z. true_false (sym z ∙ in_none p)) (page_copy k)

  -- ---- a reply: the copy that enters
  module _ (seat : Seat) (rs : List Record) (n port : ℕ) (slot : Slot) (octets : List ℕ) (room : ℕ) (small : Octets octets) (k : Kept seat) where
    abbrev a : Answering
    a = answer seat rs port octets room

    abbrev e : Replied
    e = reply seat rs port octets room

    -- its copy, as if its request had come in by a port with this address
    abbrev copy_from : Address → Copy
    copy_from arrival =
        record {
          turn = n;
          arrival = arrival;
          octets = own_reply a octets;
          size = size_of a.fields;
          header = wire_header a e;
          entry = new_entry slot (as_ending e);
        }

    -- one that a port took was made, to a request that came in by a port that is set up
    page_made : in_set p e.ruling.took ≡ true → (a.made ≡ 1) × (port_set_up (relay_in seat) port ≡ true)
    unfolding call_checks
    page_made took =
        let r = relay_with seat rs in
        let granted = reply_shared r seat.number seat.board.drop port octets room p inside (inl took) in
        let made = ((reply_granted r seat.number seat.board.drop port octets room longer_mask (masks_choose r) p inside).0 granted).0 in
        (made, not-false (port_set_up r port) ((made_exactly r seat.number seat.board.drop port octets room).0 made).0.0)

    module _ (took : in_set p e.ruling.took ≡ true) where
      some : a.made ≢ 0
      some z = omega (arith, (page_made took).0, z)

      here : (port_in (relay_in seat) port).address.0 < 2 ^ 32
      here = set_up_small seat k port (page_made took).1

      wide : (port_in (relay_in seat) port).mtu < 2 ^ 32
      wide = set_up_mtu seat k port (page_made took).1

      -- The octets that go out are the reply, with the header for that port.
      pub page_sent : (arrival : Address) → sent_of (copy_from arrival) ≡ wire_reply a e octets
      unfolding wire_reply
      page_sent arrival =
          let range = fields_range (relay_with seat rs) seat.number seat.board.drop port octets room some small here wide in
          let size = header_length a.fields (message_size a) range.checksum in
          ap (λ (l : List ℕ). wire_header a e ++ l)
          (ap (λ (i : ℕ). drop i (own_reply a octets)) (sym size) ∙ drop-append_seam (header_octets a.fields (message_size a)) _)

      -- No relay makes a reply to them.
      pub page_unanswered : (other : Relay) (mission drops by lent : ℕ) → (answering_of other mission drops by (wire_reply a e octets) lent).made ≡ 0
      page_unanswered = wire_unanswered (relay_with seat rs) seat.number seat.board.drop port octets room some small here wide e

      page_reply : NamesTheSame (port_in (relay_in seat) p) (reply_copy n seat port slot octets a e)
      unfolding wire_length wire_fields next_fields
      page_reply =
          let r = relay_with seat rs in
          let m = seat.number in
          let d = seat.board.drop in
          let told = (made_tells r m d port octets room (page_made took).0).1 in
          let names = reply_names_the_same r m d port octets room p inside took in
          let free = (reply_meaning r m d port octets room some (made_requested r m d port octets room (was_made r m d port octets room some))).free in
          let far = not (eqb e.far 0) in
          let f = wire_fields far a.arrival.0 e.code a.fields in
          let lies : far ≡ not (eqb (domain_of (port_in (relay_in seat) p).address) (domain_of a.arrival)) =
          (reply_wired r m d port octets room).far p inside took
          ∙ ap (λ (x : Address). not (eqb (domain_of (port_in (relay_in seat) p).address) (domain_of x))) (sym told.arrival) in
          let home : far ≡ false → domain_of (port_in (relay_in seat) p).address ≡ domain_of a.arrival =
          λ near. eqb-true (domain_of (port_in (relay_in seat) p).address) (domain_of a.arrival) (not-false _ (sym lies ∙ near)) in
          subst (λ (x : Address). NamesTheSame (port_in (relay_in seat) p) (copy_from x)) told.arrival
          (record {
            came = record { fields = a.fields; length = size_of a.fields + message_size a; size = size_of a.fields };
            read = own_reads r m d port octets room some small here wide;
            size = refl;
            goes = record { fields = f; length = wire_length far a e.code; size = size_of f };
            reads = ap read_of (page_sent a.arrival) ∙ wire_reads r m d port octets room some small here wide e;
            parts = omega arith;
            far = far;
            lies = lies;
            code = e.code;
            fields = inr refl;
            aim = names.0 ∙ sym (ap (λ (x : Address). aim_of x.0 a.fields.addresses) told.arrival ∙ told.names);
            origin = names.1 ∙ ap (λ (x : Address). origin_of x.0 a.fields.addresses) (sym told.arrival);
            domain = λ one. home (stays_home a.arrival.0 e.code far a.fields (λ b. absurd (omega (arith, b, free))) one);
          })

    new_reply : in_set p (replied_by seat rs port octets room).ruling.took ≡ true
        → NamesTheSame (port_in (relay_in seat) p) (reply_copy n seat port slot octets (answering_by seat rs port octets room) (replied_by seat rs port octets room))
    new_reply =
        both_so seat rs port octets room
        (λ (x : Answering) (y : Replied).
        in_set p y.ruling.took ≡ true → NamesTheSame (port_in (relay_in seat) p) (reply_copy n seat port slot octets x y))
        (λ long z. true_false (sym z ∙ in_none p)) (λ short. page_reply)

  enters_case : (t : Bool) (seat : Seat) (c : Copy) → (t ≡ true → NamesTheSame (port_in (relay_in seat) p) c) → AllNamed seat (pick t (c ∷ []) [])
  enters_case true seat c f = (f refl, tt)
  enters_case false seat c f = tt

  entered_named : (n : ℕ) (seat : Seat) → Kept seat → (c : Call) → Passed c → AllNamed seat (taken_by p n seat c)
  entered_named n seat k (operator c) passed = tt
  entered_named n seat k (own (sets s)) passed = tt
  entered_named n seat k (own (hears rs port slot second octets output)) passed =
      let e = heard_by seat rs port second octets (length output) in
      enters_case (in_set p e.ruling.took) seat (copy_of p n seat port slot octets e) (new_copy seat rs n port slot second octets (length output) passed.1.0 k)
  entered_named n seat k (own (echoes rs port slot octets output)) passed =
      let e = replied_by seat rs port octets (length output) in
      enters_case (in_set p e.ruling.took) seat (reply_copy n seat port slot octets (answering_by seat rs port octets (length output)) e)
      (new_reply seat rs n port slot octets (length output) passed.1 k)
  entered_named n seat k (own (takes port)) passed = tt
  entered_named n seat k (own (sweeps second)) passed = tt
  entered_named n seat k (own (looks l)) passed = tt

  -- ---- a call leaves some of them, and the port as it is where anything waits
  line_named : (n : ℕ) (seat : Seat) → Kept seat → (c : Call) → Passed c → (line : List Copy) → AllNamed seat line → AllNamed seat (line_by p n seat c line)
  line_named n seat k c passed line all = line_each p (NamesTheSame (port_in (relay_in seat) p)) n seat c line all (entered_named n seat k c passed)

  port_case : (seat : Seat) (n : ℕ) (c : Call) (line : List Copy) → NoneWaits p seat line → (t : Bool) → port_set_up (relay_in seat) p ≡ t
      → AllNamed seat (line_by p n seat c line) → AllNamed (next seat c) (line_by p n seat c line)
  unfolding among_ports
  port_case seat n c line idle true up all = rw (seen_stays seat c p (and_true (ltb p 8) (is_set_up (port_in (relay_in seat) p)) up).1) all
  port_case seat n c line idle false up all = rw (none_comes p seat n c line idle up) tt

  next_named : (seat : Seat) → Kept seat → (n : ℕ) (c : Call) → Passed c → (line : List Copy) → NoneWaits p seat line → AllNamed seat line
      → AllNamed (next seat c) (line_by p n seat c line)
  next_named seat k n c passed line idle all = port_case seat n c line idle (port_set_up (relay_in seat) p) refl (line_named n seat k c passed line all)

  all_named : (cs : List Call) → Each Passed cs → (n : ℕ) (seat : Seat) → Kept seat → (line : List Copy) → NoneWaits p seat line → AllNamed seat line
      → AllNamed (run_from seat cs) (line_from p n seat line cs)
  all_named [] passed n seat k line idle all = all
  all_named (c ∷ cs) passed n seat k line idle all =
      all_named cs passed.1 (suc n) (next seat c) (one_kept seat c k) (line_by p n seat c line) (next_none p seat n c line idle) (next_named seat k n c passed.0 line idle all)

  -- After any history that C can make each copy that waits on port p goes out with a header that names there what the one that came named where it came in.
  pub waiting_copies_name_the_same : (m : ℕ) (cs : List Call) → Each Passed cs → Each (NamesTheSame (port_in (relay_in (seat_after m cs)) p)) (line_at p m cs)
  waiting_copies_name_the_same m cs passed = all_named cs passed 0 (fresh_seat m) (fresh_kept m) [] (λ h. refl) tt
