-- Demand 3, the order, of the call: what a take answers after any history. The theorem is `take_is`: 16 where the port is not set up, 18 where nothing
-- waits, else the oldest of the highest precedence. Assumes nothing.
use Prim.Native.Nat.{ℕ, ◌<◌}
use mathlib.Core.Path.{◌≡◌, refl, ap}
use mathlib.Core.Bool.{Bool, true, false, not}
use mathlib.Core.List.{List}
use lib.Dec.{ltb}
use borrow.Author.Tests.{ltb-true}
use Rattle.checks.specs.Order.{pick}
use Rattle.checks.proofs.Bools.{and_true}
use Rattle.queue.specs.Queue.{take_of}
use Rattle.queue.specs.Waits.{Chosen, nobody, one, chosen, rank_by, Waits}
use Rattle.queue.specs.declared.Queue.{Queue}
use Rattle.queue.proofs.Waits.{chosen_asked, waits_take, waits_nothing}
use Rattle.records.specs.SetUp.{is_set_up}
use Rattle.state.specs.Relay.{Relay, port_in, queue_at, among_ports, port_set_up}
use Rattle.taking.specs.Taking.{hands_out, take_outcome}
use Rattle.checks.specs.Told.{Refused}
use Rattle.history.specs.Seat.{Seat, relay_in}
use Rattle.history.specs.Calls.{Call}
use Rattle.history.specs.Outcome.{seat_after}
use Rattle.history.specs.Line.{Copy, entry_of, line_at, taking_of}
use Rattle.history.proofs.Line.{queue_waits}

-- a port that is set up is one of the eight
pub is_port : (r : Relay) (p : ℕ) → port_set_up r p ≡ true → p < 8
unfolding among_ports
is_port r p h = ltb-true p 8 (and_true (ltb p 8) (is_set_up (port_in r p)) h).0

module _ (q : Queue) (line : List Copy) (w : Waits entry_of q line) where
  heads : (c : Chosen Copy) → chosen (rank_by entry_of) line ≡ c → hands_out (take_of q).head ≡ taking_of true c
  heads nobody is = ap hands_out ((waits_nothing entry_of w).1 (rw is at (chosen_asked (rank_by entry_of) line)))
  heads (one x others) is = ap hands_out (waits_take entry_of w x others is).0

module _ (m : ℕ) (cs : List Call) (port : ℕ) where
  abbrev seat : Seat
  seat = seat_after m cs

  take_case : (t : Bool) → port_set_up (relay_in seat) port ≡ t
      → pick (not t) (Refused 16) (hands_out (take_of (queue_at seat.mission port)).head) ≡ taking_of t (chosen (rank_by entry_of) (line_at port m cs))
  take_case true up = heads (queue_at seat.mission port) (line_at port m cs) (queue_waits port (is_port (relay_in seat) port up) m cs) _ refl
  take_case false up = refl

  -- What a take answers after any history of mission m.
  pub take_is : take_outcome (relay_in seat) port ≡ taking_of (port_set_up (relay_in seat) port) (chosen (rank_by entry_of) (line_at port m cs))
  unfolding take_outcome
  take_is = take_case (port_set_up (relay_in seat) port) refl
