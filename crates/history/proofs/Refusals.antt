-- Demand 1: a refused call leaves settings, queues and lent octets as they were, and 21, 16, 17 and 29 move no counter and leave the memory; of the
-- memory any other datagram moves the last second, and one place that was free at the most (page 02, W-207). Assumes nothing.
use Prim.Native.Nat.{ℕ, zero, suc}
use mathlib.Core.Path.{◌≡◌, refl, sym, ap, ◌∙◌}
use mathlib.Core.Bool.{Bool, true, false, not}
use mathlib.Core.Logic.{◌⊎◌, inl, inr}
use mathlib.Core.List.{List}
use lib.ListN.{length}
use lib.Bits.{bit_and, and_zero_l}
use lib.Dec.{eqb}
use borrow.Author.Tests.{eq-eqb, ltb-false}
use Rattle.checks.specs.Order.{pick, first_of}
use Rattle.checks.proofs.Bools.{true_false}
use Rattle.sets.specs.Sets.{only_port}
use Rattle.address.specs.declared.Slot.{Slot}
use Rattle.header.specs.Read.{read_of, Read}
use Rattle.checks.specs.Told.{Refused, Good}
use Rattle.queue.specs.Queue.{take_of}
use Rattle.queue.specs.declared.Entry.{Entry}
use Rattle.std.proofs.Common.{Option, Some, None}
use Rattle.queue.specs.declared.Queue.{Queue}
use Rattle.state.specs.Relay.{Memory, put_last, Relay, queue_in, port_set_up}
use Rattle.next_leg.specs.declared.Legs.{Legs}
use Rattle.judge.specs.declared.ruling.Arrival.{Arrival}
use Rattle.meaning.specs.Arrival.{arrival_checks}
use Rattle.taking.specs.Taking.{hands_out, without, take_outcome, taken_relay}
use Rattle.judge.specs.Ending.{no_ruling, refused_by, ruled_ending, call_checks, header_ending, octets_ending, arrival_at, ending_of}
use Rattle.judge.specs.declared.Ending.{Ending}
use Rattle.tally.specs.Tally.{moves_of, counter_for}
use Rattle.relay.specs.Outgoing.{entered, entered_if, entered_all, sent_if, sent_below, sent_output}
use Rattle.relay.specs.Received.{new_entry, received_relay}
use Rattle.routes.specs.declared.Record.{Record}
use Rattle.survey.proofs.Bits.{in_none}
use Rattle.history.specs.Seat.{Seat, relay_in, relay_with, heard_by, memory_by}
use Rattle.history.specs.Refused.{KeptIn, HeardStands}
use Rattle.history.specs.Tally.{sum_at}
use Rattle.history.proofs.Heard.{heard_so, hearing_so}
use Rattle.history.proofs.Remembered.{flood_keeping, remembering_so}

-- ---- a refusal has its number and nothing else
abbrev Bare : Ending → Type 0
Bare e = (e.refusal ≡ 0 → ⊥) → e ≡ refused_by e.refusal

bare_or : (t : Bool) (n : ℕ) (e : Ending) → Bare e → Bare (pick t e (refused_by n))
bare_or true n e b = b
bare_or false n e b = λ h. refl

bare_ruled : (e : Ending) → e.refusal ≡ 0 → Bare e
bare_ruled e z h = absurd (h z)

bare_octets : (r : Relay) (at : Arrival) (x : Read) → Bare (octets_ending r at x)
unfolding header_ending
bare_octets r at (Good h) =
    let n = first_of (arrival_checks at.address h.fields) in
    bare_or (eqb n 0) n (ruled_ending r at h) (bare_ruled (ruled_ending r at h) refl)
bare_octets r at (Refused n) = λ h. refl

bare_ending : (r : Relay) (port second : ℕ) (octets : List ℕ) (room : ℕ) → Bare (ending_of r port second octets room)
unfolding ending_of
bare_ending r port second octets room =
    let n = first_of (call_checks r port second room) in
    bare_or (eqb n 0) n (octets_ending r (arrival_at r port) (read_of octets)) (bare_octets r (arrival_at r port) (read_of octets))

pub refused_grants_nothing : (r : Relay) (port second : ℕ) (octets : List ℕ) (room : ℕ)
    → ((ending_of r port second octets room).refusal ≡ 0 → ⊥) → (ending_of r port second octets room).ruling ≡ no_ruling
refused_grants_nothing r port second octets room h = ap (λ (e : Ending). e.ruling) (bare_ending r port second octets room h)

module _ (seat : Seat) (rs : List Record) (port second : ℕ) (octets : List ℕ) (room : ℕ) (refused : (heard_by seat rs port second octets room).refusal ≡ 0 → ⊥) where
  pub heard_has_nothing : heard_by seat rs port second octets room ≡ refused_by (heard_by seat rs port second octets room).refusal
  heard_has_nothing = heard_so seat rs port second octets room Bare (λ h. refl) (bare_ending (relay_with seat rs) port second octets room) refused

  pub heard_grants_nothing : (heard_by seat rs port second octets room).ruling ≡ no_ruling
  heard_grants_nothing = ap (λ (e : Ending). e.ruling) heard_has_nothing

-- ---- where no port takes, no queue and no octet of the output changes
nobody_case : (t : Bool) (r s : Relay) → t ≡ true → pick t r s ≡ r
nobody_case true r s h = refl
nobody_case false r s h = true_false (sym h)

nobody_enters : (e : Entry) (n : ℕ) (r : Relay) → entered_all r 0 e n ≡ r
unfolding entered_all entered_if
nobody_enters e zero r = refl
nobody_enters e (suc p) r =
    let s = entered_all r 0 e p in
    nobody_case (eqb (bit_and 0 (only_port p)) 0) s (entered s p e) (eq-eqb (bit_and 0 (only_port p)) 0 (and_zero_l (only_port p)))
    ∙ nobody_enters e p r

pub nobody_took : (r : Relay) (slot : Slot) (e : Ending) → e.ruling.took ≡ 0 → received_relay r slot e ≡ r
unfolding received_relay
nobody_took r slot e h =
    ap (λ (took : ℕ). entered_all r took (new_entry slot e) 8) h ∙ nobody_enters (new_entry slot e) 8 r

nobody_sent : (l : Legs) (octets lent : List ℕ) (n : ℕ) → sent_below 0 l octets lent n ≡ lent
unfolding sent_below sent_if
nobody_sent l octets lent zero = refl
nobody_sent l octets lent (suc p) = rw (in_none p) (nobody_sent l octets lent p)

pub output_as_lent : (e : Ending) (octets lent : List ℕ) → e.ruling.took ≡ 0 → sent_output e octets lent ≡ lent
unfolding sent_output
output_as_lent e octets lent h = ap (λ (took : ℕ). sent_below took e.legs octets lent 8) h ∙ nobody_sent e.legs octets lent 8

-- A refused datagram leaves settings and queues, and every octet of the output.
pub refused_leaves :
    (seat : Seat) (rs : List Record) (port : ℕ) (slot : Slot) (second : ℕ) (octets output : List ℕ)
    → ((heard_by seat rs port second octets (length output)).refusal ≡ 0 → ⊥)
    → (received_relay (relay_in seat) slot (heard_by seat rs port second octets (length output)) ≡ relay_in seat)
    × (sent_output (heard_by seat rs port second octets (length output)) octets output ≡ output)
refused_leaves seat rs port slot second octets output h =
    let e = heard_by seat rs port second octets (length output) in
    let z : e.ruling.took ≡ 0 = ap (λ x. x.took) (heard_grants_nothing seat rs port second octets (length output) h) in
    (nobody_took (relay_in seat) slot e z, output_as_lent e octets output z)

-- 21, 16, 17 and 29 move no counter.
pub counts_nothing_lem : (i : ℕ)
    → (sum_at (moves_of (refused_by 21)) i ≡ 0)
    × ((sum_at (moves_of (refused_by 16)) i ≡ 0) × ((sum_at (moves_of (refused_by 17)) i ≡ 0) × (sum_at (moves_of (refused_by 29)) i ≡ 0)))
unfolding counter_for
counts_nothing_lem i = (refl, (refl, (refl, refl)))

-- What a datagram leaves of the memory, by the number that ended the call, whatever else it answers.
module _ (seat : Seat) (rs : List Record) (port second : ℕ) (octets : List ℕ) (room : ℕ) where
  pub heard_stands : HeardStands (heard_by seat rs port second octets room).refusal second seat.memory (memory_by seat rs port second octets room)
  heard_stands =
      hearing_so seat rs port second octets (λ e k. HeardStands e.refusal second seat.memory k)
      (λ n un. record { unheard = λ h. refl; heard = λ h. true_false (sym un ∙ h) })
      (λ now n some heard. record { unheard = λ h. true_false (sym h ∙ heard); heard = λ h. (ltb-false second seat.memory.last now, inl refl) })
      (λ now h is good.
      record {
        unheard = λ e. true_false (sym e);
        heard =
            λ e. (
              ltb-false second seat.memory.last now,
              remembering_so (λ (k : Memory). (k ≡ put_last seat.memory second) ⊎ KeptIn seat.memory second k) seat.memory second (inl refl) _ _
                  (λ place new.
                  let k = flood_keeping seat.memory _ h.fields good.1.1.1.1.0 place _ _ new in
                  inr (record { place = place; pair = _; inside = k.inside; free = k.free; kept = refl })),
            );
      })
      room

-- A refused take leaves the whole relay.
take_case : (t : Bool) (r : Relay) (port : ℕ) (q : Queue) (h : Option Entry) (n : ℕ)
    → pick t (Refused 16) (hands_out h) ≡ Refused n → pick t r (without r port q h) ≡ r
take_case true r port q h n e = refl
take_case false r port q (Some x) n e = true_false cc
take_case false r port q None n e = refl

pub refused_take_leaves : (r : Relay) (port n : ℕ) → take_outcome r port ≡ Refused n → taken_relay r port ≡ r
unfolding take_outcome taken_relay
refused_take_leaves r port n e = take_case (not (port_set_up r port)) r port (take_of (queue_in r port)).queue (take_of (queue_in r port)).head n e
