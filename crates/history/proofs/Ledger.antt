-- Demand 3, the ledger: after any history, for each port, the copies granted are those handed out, those waiting and those dropped. The theorem is
-- `ledger`, at the end. Assumes nothing.
use native.Mathlib.Omega.{arith}
use Prim.Native.Nat.{ℕ, ◌+◌, ◌<◌}
use mathlib.Core.Path.{◌≡◌, refl, sym, ap, ◌∙◌}
use mathlib.Core.Bool.{Bool, true, false, not}
use mathlib.Core.List.{List, [], ◌∷◌}
use lib.ListN.{length, get_or, set, length-set, get_or-replicate}
use lib.Seq.{get_or-set_same, get_or-set_other}
use lib.Dec.{eqb, ltb}
use borrow.Author.Tests.{eqb-true, eqb-false}
use Rattle.checks.specs.Order.{pick}
use Rattle.checks.proofs.Laws.{either}
use Rattle.sets.specs.Sets.{in_set}
use Rattle.address.specs.declared.Slot.{Slot}
use Rattle.queue.specs.Queue.{fresh as fresh_queue, put_of, take_of}
use Rattle.queue.specs.declared.Entry.{Entry}
use Rattle.std.proofs.Common.{Option, Some, None}
use Rattle.queue.specs.declared.Queue.{Queue}
use Rattle.state.specs.Relay.{Relay, queue_at, queue_in, port_set_up}
use Rattle.state.specs.Seen.{fresh_mission}
use Rattle.taking.specs.Taking.{hands_out, without, take_outcome, taken_relay, Taking}
use Rattle.checks.specs.Told.{Good, Refused}
use Rattle.judge.specs.declared.Ending.{Ending}
use Rattle.relay.specs.Received.{new_entry, received_relay}
use Rattle.answering.specs.Echoed.{as_ending}
use Rattle.history.specs.Seat.{Seat, fresh_seat, relay_in, heard_by, replied_by}
use Rattle.history.specs.Calls.{orders, views, sets, hears, echoes, takes, sweeps, looks, Call, operator, own, settle}
use Rattle.history.specs.Outcome.{of_taking, outcome, next, run_from, seat_after, sum_from, sum_over}
use Rattle.history.specs.Ledger.{one, granted, dropped, handed_out}
use Rattle.survey.proofs.Bits.{in_none}
use Rattle.history.proofs.Fair.{Fair, fair}
use Rattle.history.proofs.Replying.{reply_fair}
use Rattle.history.proofs.Queues.{Eight, eight_entered, entered_queue, put_count, take_count}
use Rattle.history.proofs.Settled.{queues_of, settle_queues}

-- ---- eight queues stay
without_eight : (r : Relay) (port : ℕ) (q : Queue) (h : Option Entry) → Eight r → Eight (without r port q h)
without_eight r port q (Some e) l = length-set (queues_of r) port q ∙ l
without_eight r port q None l = l

taken_eight : (r : Relay) (port : ℕ) → Eight r → Eight (taken_relay r port)
unfolding taken_relay
taken_eight r port l =
    either Eight (not (port_set_up r port)) l (without_eight r port (take_of (queue_in r port)).queue (take_of (queue_in r port)).head l)

received_eight : (r : Relay) (slot : Slot) (e : Ending) → Eight r → Eight (received_relay r slot e)
unfolding received_relay
received_eight r slot e l = eight_entered e.ruling.took (new_entry slot e) 8 r l

pub next_eight : (seat : Seat) (c : Call) → Eight (relay_in seat) → Eight (relay_in (next seat c))
next_eight seat (operator c) l = l
next_eight seat (own (sets s)) l = ap length (settle_queues (relay_in seat) s) ∙ l
next_eight seat (own (hears rs port slot second octets output)) l = received_eight (relay_in seat) slot (heard_by seat rs port second octets (length output)) l
next_eight seat (own (echoes rs port slot octets output)) l = received_eight (relay_in seat) slot (as_ending (replied_by seat rs port octets (length output))) l
next_eight seat (own (takes port)) l = taken_eight (relay_in seat) port l
next_eight seat (own (sweeps second)) l = l
next_eight seat (own (looks x)) l = l

pub fresh_eight : (m : ℕ) → Eight (relay_in (fresh_seat m))
unfolding fresh_mission
fresh_eight m = refl

module _ (p : ℕ) (inside : p < 8) where
  -- ---- one call closes
  -- what waits and what is granted is what is handed out, what waits then, and what is dropped
  abbrev Closes : Seat → Call → Type 0
  Closes seat c =
      (queue_in (relay_in seat) p).count + granted p (outcome seat c)
      ≡ handed_out p (outcome seat c) + ((queue_in (relay_in (next seat c)) p).count + dropped p (outcome seat c))

  -- ---- receiving
  put_case : (t : Bool) (q : Queue) (e : Entry) → (t ≡ true → ltb q.count 32 ≡ true) → (pick t (put_of q e).queue q).count ≡ q.count + one t
  put_case true q e room = put_count q e (room refl)
  put_case false q e room = omega arith

  received_count : (seat : Seat) (slot : Slot) (e : Ending) → Eight (relay_in seat) → Fair seat p inside e.ruling
      → (queue_in (received_relay (relay_in seat) slot e) p).count ≡ (queue_in (relay_in seat) p).count + one (in_set p e.ruling.took)
  unfolding received_relay
  received_count seat slot e l f =
      let r = relay_in seat in
      let entry = new_entry slot e in
      let took = e.ruling.took in
      ap (λ (x : Queue). x.count) (entered_queue p inside took entry 8 r l inside) ∙ put_case (in_set p took) (queue_in r p) entry f.room

  received_closes : (seat : Seat) (slot : Slot) (e : Ending) → Eight (relay_in seat) → Fair seat p inside e.ruling
      → (queue_in (relay_in seat) p).count + one (in_set p e.ruling.granted)
      ≡ 0 + ((queue_in (received_relay (relay_in seat) slot e) p).count + one (in_set p e.ruling.dropped))
  received_closes seat slot e l f = omega (arith, received_count seat slot e l f, f.split)

  -- ---- taking
  take_closes : (r : Relay) (port : ℕ) → Eight r → (t : Bool) (h : Option Entry) → (take_of (queue_in r port)).head ≡ h → (u : Bool) → eqb port p ≡ u
      → (queue_in r p).count
      ≡ handed_out p (of_taking port (pick t (Refused 16) (hands_out h))) + (queue_in (pick t r (without r port (take_of (queue_in r port)).queue h)) p).count
  take_closes r port l true h e u z = omega arith
  take_closes r port l false None e u z = omega arith
  take_closes r port l false (Some x) e true z =
      let same = eqb-true port p z in
      let left : get_or (set (queues_of r) port (take_of (queue_in r port)).queue) p fresh_queue ≡ (take_of (queue_in r port)).queue =
      ap (λ (n : ℕ). get_or (set (queues_of r) port (take_of (queue_in r port)).queue) n fresh_queue) (sym same)
      ∙ get_or-set_same (queues_of r) port _ _ (rw (l, same) inside) in
      ap (λ (n : ℕ). (queue_in r n).count) (sym same)
      ∙ take_count (queue_in r port) x e
      ∙ omega (arith, ap one z, ap (λ (q : Queue). q.count) left)
  take_closes r port l false (Some x) e false z =
      let other = get_or-set_other (queues_of r) port p (take_of (queue_in r port)).queue fresh_queue (λ w. eqb-false port p z (sym w)) in
      omega (arith, ap one z, ap (λ (q : Queue). q.count) other)

  taken_closes : (r : Relay) (port : ℕ) → Eight r
      → (queue_in r p).count ≡ handed_out p (of_taking port (take_outcome r port)) + (queue_in (taken_relay r port) p).count
  unfolding take_outcome taken_relay
  taken_closes r port l = take_closes r port l (not (port_set_up r port)) (take_of (queue_in r port)).head refl (eqb port p) refl

  grants_none : (port : ℕ) (x : Taking) → (granted p (of_taking port x) ≡ 0) × (dropped p (of_taking port x) ≡ 0)
  grants_none port (Good e) = (ap one (in_none p), ap one (in_none p))
  grants_none port (Refused n) = (ap one (in_none p), ap one (in_none p))

  -- ---- each call, and then all
  stays_closed : (seat : Seat) (n : ℕ) → n ≡ (queue_in (relay_in seat) p).count
      → (queue_in (relay_in seat) p).count + one (in_set p 0) ≡ 0 + (n + one (in_set p 0))
  stays_closed seat n same = omega (arith, same)

  one_call : (seat : Seat) (c : Call) → Eight (relay_in seat) → Closes seat c
  one_call seat (operator (orders o)) l = stays_closed seat _ refl
  one_call seat (operator (views v)) l = stays_closed seat _ refl
  one_call seat (own (sets s)) l =
      stays_closed seat (queue_in (settle (relay_in seat) s) p).count
      (ap (λ (x : List Queue). (get_or x p fresh_queue).count) (settle_queues (relay_in seat) s))
  one_call seat (own (hears rs port slot second octets output)) l =
      received_closes seat slot (heard_by seat rs port second octets (length output)) l (fair seat p inside rs port second octets (length output))
  one_call seat (own (echoes rs port slot octets output)) l =
      received_closes seat slot (as_ending (replied_by seat rs port octets (length output))) l (reply_fair seat p inside rs port octets (length output))
  one_call seat (own (takes port)) l =
      let none = grants_none port (take_outcome (relay_in seat) port) in
      omega (arith, taken_closes (relay_in seat) port l, none.0, none.1)
  one_call seat (own (sweeps second)) l = stays_closed seat _ refl
  one_call seat (own (looks x)) l = stays_closed seat _ refl

  all_calls : (cs : List Call) (seat : Seat) → Eight (relay_in seat)
      → (queue_in (relay_in seat) p).count + sum_from (granted p) seat cs
      ≡ sum_from (handed_out p) seat cs + ((queue_in (relay_in (run_from seat cs)) p).count + sum_from (dropped p) seat cs)
  all_calls [] seat l = omega arith
  all_calls (c ∷ cs) seat l = omega (arith, one_call seat c l, all_calls cs (next seat c) (next_eight seat c l))

  fresh_none : (queue_at fresh_mission p).count ≡ 0
  unfolding fresh_mission fresh_queue
  fresh_none = ap (λ (q : Queue). q.count) (get_or-replicate {A = Queue} 8 p fresh_queue fresh_queue inside)

  -- Copies granted to port p over the history of mission m = handed out there + waiting there now + dropped there.
  pub ledger : (m : ℕ) (cs : List Call)
      → sum_over (granted p) m cs ≡ sum_over (handed_out p) m cs + ((queue_at (seat_after m cs).mission p).count + sum_over (dropped p) m cs)
  ledger m cs = omega (arith, all_calls cs (fresh_seat m) (fresh_eight m), fresh_none)
