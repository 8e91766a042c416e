-- `relay::outgoing::send_each` meets its contract. Assumes nothing.
use Prim.Native.Nat.{◌≤◌}
use mathlib.Core.Path.{◌≡◌}
use lib.ListN.{length}
use Rattle.relay.specs.Outgoing.{chosen_below}
use Rattle.relay.proofs.outgoing.send_each.Given as goal

abbrev pub invariant-loop-p : goal.invariant-loop-p
invariant-loop-p l = (l.p ≤ 8) × ((length l.output ≡ length l.initial.output) × (l.output ≡ chosen_below l.took l.far l.near l.other l.initial.output l.p))
