-- What C finds in the output after a datagram (page 02, W-214): for every port that took an entry the header that was made for it, and every other octet as
-- lent. Assumes nothing.
use native.Mathlib.Omega.{arith}
use Prim.Native.Nat.{ℕ, ◌+◌, ◌<◌, ◌≤◌}
use mathlib.Core.Path.{◌≡◌, refl, sym, ap, ◌∙◌}
use mathlib.Core.Logic.{◌⊎◌, ◌≢◌}
use mathlib.Core.Bool.{Bool, true, false}
use mathlib.Core.List.{List}
use lib.ListN.{get_or, length, take, drop}
use lib.Dec.{eqb, ltb}
use borrow.Author.Tests.{eqb-true, eqb-false, ltb-true, ltb-false}
use Rattle.checks.specs.Order.{pick}
use Rattle.checks.proofs.Bools.{true_false}
use Rattle.sets.specs.Limits.{port_count}
use Rattle.sets.specs.Sets.{in_set}
use Rattle.address.specs.declared.Slot.{Slot}
use Rattle.header.specs.Form.{places_of}
use Rattle.header.specs.Read.{read_of, header_of}
use Rattle.checks.specs.Told.{Good}
use Rattle.header.proofs.Passed.{passed}
use Rattle.header.proofs.Refusals.{read_good}
use Rattle.networks.proofs.Bits.{high_bit}
use Rattle.next_leg.specs.Leg.{header_for}
use Rattle.next_leg.proofs.ReadBack.{next_header_length}
use Rattle.routes.specs.declared.Record.{Record}
use Rattle.survey.proofs.Bits.{in_none}
use Rattle.state.specs.Relay.{Relay}
use Rattle.judge.specs.Ending.{output_room, ending_of}
use Rattle.judge.specs.declared.Ending.{Ending}
use Rattle.relay.specs.Outgoing.{stretch_of, sent_output}
use Rattle.batch.proofs.Sent.{below_length}
use Rattle.page.specs.Table.{step_rows}
use Rattle.page.proofs.Exactly.{refusal_exactly}
use Rattle.page.proofs.Headers.{headers_of_any_relay}
use Rattle.contracts.specs.Promised.{Result}
use Rattle.history.specs.Calls.{hears, own}
use Rattle.history.specs.Ranges.{Octets}
use Rattle.history.specs.Seat.{Seat, relay_with, heard_by}
use Rattle.history.proofs.Domain.{WasRead, took_read}
use Rattle.history.proofs.Heard.{heard_so}
use Rattle.history.proofs.ReadBack.{ReadBack, read_back}
use Rattle.history.proofs.Refusals.{heard_grants_nothing, output_as_lent}
use Rattle.history.proofs.Small.{sets_small}
use Rattle.demands.specs.Trace.{Customer, Step, flies, seat_of, relay_for, Gives}
use Rattle.demands.specs.ReadOut.{took_in, header_octets, header_out}
use Rattle.demands.proofs.Told.{gives_row}
use Rattle.demands.proofs.Stretches.{below_found, below_apart}

-- a set of the ports 0 to 7 has no other
port_inside : (p set : ℕ) → set < 256 → in_set p set ≡ true → p < port_count
port_inside p set few is = by (ltb p port_count) refl
  where
    by : (t : Bool) → ltb p port_count ≡ t → p < port_count
    by true e = ltb-true p port_count e
    by false e = true_false (sym (sym (ap (λ (b : ℕ). eqb b 1) (high_bit 8 p set few (ltb-false p port_count e))) ∙ is))

-- ---- of any relay
module _ (r : Relay) (at second : ℕ) (octets : List ℕ) (room : ℕ) where
  -- a datagram that is not refused was lent the octets for eight headers
  room_lent : (ending_of r at second octets room).refusal ≡ 0 → output_room ≤ room
  unfolding step_rows
  room_lent z = ltb-false room output_room ((refusal_exactly r at second octets room).0.0 z).1.0

  -- a port's header has as many octets as C is told
  abbrev Counted : ℕ → Ending → Type 0
  Counted p e = in_set p e.ruling.took ≡ true → pick (in_set p e.legs.rewritten) e.legs.octets e.size ≡ length (header_for e.legs octets p)

  counted : Octets octets → read_of octets ≡ Good (header_of octets) → (p : ℕ) → p < port_count → Counted p (ending_of r at second octets room)
  counted small read p inside is =
      let headers = headers_of_any_relay r at second octets room in
      headers.size p inside is ∙ sym (next_header_length _ _ _ octets (header_of octets) small read) ∙ sym (ap length (headers.header p inside is))

-- ---- of any seat, where a port took an entry
module _ (seat : Seat) (rs : List Record) (at second : ℕ) (octets output : List ℕ)
    (some : (heard_by seat rs at second octets (length output)).ruling.took ≢ 0) where
  abbrev ending : Ending
  ending = heard_by seat rs at second octets (length output)

  -- the datagram was read
  pub seat_was : WasRead octets ending
  seat_was = took_read seat rs at second octets (length output) some

  seat_read : read_of octets ≡ Good (header_of octets)
  seat_read = seat_was.read ∙ ap Good ((read_good octets seat_was.header).0 seat_was.read).1

  seat_whole : (places_of octets).size ≤ length octets
  seat_whole = let well = passed octets seat_was.header seat_was.read in omega (arith, well.fits, well.inside)

  seat_wide : stretch_of port_count ≤ length output
  seat_wide = by (eqb ending.refusal 0) refl
    where
      by : (t : Bool) → eqb ending.refusal 0 ≡ t → output_room ≤ length output
      by true z =
          heard_so seat rs at second octets (length output) (λ (y : Ending). y.refusal ≡ 0 → output_room ≤ length output)
          (λ z. absurd (omega (arith, z))) (room_lent (relay_with seat rs) at second octets (length output)) (eqb-true ending.refusal 0 z)
      by false z =
          absurd (some (ap (λ y. y.took) (heard_grants_nothing seat rs at second octets (length output) (eqb-false ending.refusal 0 z))))

-- what is sent on has as many octets as were lent
pub sent_as_many : (seat : Seat) (rs : List Record) (at second : ℕ) (octets output : List ℕ)
    → length (sent_output (heard_by seat rs at second octets (length output)) octets output) ≡ length output
unfolding sent_output
sent_as_many seat rs at second octets output = by (eqb took 0) refl
  where
    e : Ending
    e = heard_by seat rs at second octets (length output)

    took : ℕ
    took = e.ruling.took

    by : (t : Bool) → eqb took 0 ≡ t → length (sent_output e octets output) ≡ length output
    by true z = ap length (output_as_lent e octets output (eqb-true took 0 z))
    by false z =
        let some = eqb-false took 0 z in
        below_length took e.legs octets (seat_whole seat rs at second octets output some) output port_count
        (seat_wide seat rs at second octets output some)

-- ---- after a trace
module _ (who : Customer) (steps : List Step) (rs : List Record) (at : ℕ) (slot : Slot) (second : ℕ) (octets output : List ℕ) (x : Result)
    (g : Gives steps (flies who (hears rs at slot second octets output)) x) where
  abbrev seat : Seat
  seat = seat_of who steps

  abbrev e : Ending
  e = heard_by seat rs at second octets (length output)

  abbrev took : ℕ
  took = e.ruling.took

  pub told : ReadBack x.answer e
  told = rw (gives_row who steps (own (hears rs at slot second octets output)) x g).answer (read_back seat rs at second octets (length output))

  sent : x.left.output ≡ sent_output e octets output
  sent = (gives_row who steps (own (hears rs at slot second octets output)) x g).output

  -- where a port took an entry
  module _ (some : took ≢ 0) where
    pub was : WasRead octets e
    was = seat_was seat rs at second octets output some

    read : read_of octets ≡ Good (header_of octets)
    read = seat_read seat rs at second octets output some

    whole : (places_of octets).size ≤ length octets
    whole = seat_whole seat rs at second octets output some

    wide : stretch_of port_count ≤ length output
    wide = seat_wide seat rs at second octets output some

    size_is : (p : ℕ) → in_set p took ≡ true → header_octets x p ≡ length (header_for e.legs octets p)
    size_is p is =
        let inside = port_inside p took (sets_small seat rs at second octets (length output)).took is in
        rw (told.took, told.rewritten, told.octets, told.size, is)
        (heard_so seat rs at second octets (length output) (Counted (relay_for who steps rs) at second octets (length output) p)
        (λ z. true_false (sym z ∙ in_none p)) (counted (relay_for who steps rs) at second octets (length output) g.passes.1.0 read p inside) is)

    some_found : (p : ℕ) → in_set p took ≡ true → header_out x p ≡ header_for e.legs octets p
    unfolding sent_output
    some_found p is =
        let inside = port_inside p took (sets_small seat rs at second octets (length output)).took is in
        ap (λ (n : ℕ). take n (drop (stretch_of p) x.left.output)) (size_is p is)
        ∙ ap (λ (l : List ℕ). take (length (header_for e.legs octets p)) (drop (stretch_of p) l)) sent
        ∙ below_found took e.legs octets whole output port_count wide p inside is

    some_others : (i : ℕ) → ((p : ℕ) → p < port_count → in_set p took ≡ true → (i < stretch_of p) ⊎ (stretch_of p + header_octets x p ≤ i))
        → get_or x.left.output i 0 ≡ get_or output i 0
    unfolding sent_output
    some_others i apart =
        ap (λ (l : List ℕ). get_or l i 0) sent
        ∙ below_apart took e.legs octets whole output port_count wide i (λ p inside is. rw (← size_is p is) (apart p inside is))

  pub takes_some : (p : ℕ) → in_set p took ≡ true → took ≢ 0
  takes_some p is z = true_false (sym (sym (ap (in_set p) z) ∙ is) ∙ in_none p)

  -- The header of a port that took an entry.
  pub header_found : (p : ℕ) → in_set p took ≡ true → header_out x p ≡ header_for e.legs octets p
  header_found p is = some_found (takes_some p is) p is

  none_sent : eqb took 0 ≡ true → x.left.output ≡ output
  none_sent z = sent ∙ output_as_lent e octets output (eqb-true took 0 z)

  -- The output has as many octets as it had,
  pub as_many : length x.left.output ≡ length output
  as_many = ap length sent ∙ sent_as_many seat rs at second octets output

  -- and those outside the headers stay.
  pub others_stay : (i : ℕ) → ((p : ℕ) → p < port_count → in_set p (took_in x) ≡ true → (i < stretch_of p) ⊎ (stretch_of p + header_octets x p ≤ i))
      → get_or x.left.output i 0 ≡ get_or output i 0
  others_stay i apart = by (eqb took 0) refl
    where
      by : (t : Bool) → eqb took 0 ≡ t → get_or x.left.output i 0 ≡ get_or output i 0
      by true z = ap (λ (l : List ℕ). get_or l i 0) (none_sent z)
      by false z = some_others (eqb-false took 0 z) i (λ p inside is. apart p inside (ap (in_set p) told.took ∙ is))
