-- `relay::outgoing::enter_all` meets its contract: after p turns the first p ports have their entry. Assumes nothing.
use Prim.Native.Nat.{◌≤◌}
use mathlib.Core.Path.{◌≡◌}
use lib.ListN.{length}
use Rattle.state.specs.Seen.{Board, on_seated}
use Rattle.state.specs.Layout.{mission_words, decode}
use Rattle.relay.specs.Outgoing.{entered_all}
use Rattle.relay.proofs.outgoing.enter_all.Given as goal

abbrev pub invariant-loop-p : goal.invariant-loop-p
invariant-loop-p l = (l.p ≤ 8) × ((length l.mission ≡ mission_words) × ((b : Board) → decode l.mission ≡ on_seated b (λ r. entered_all r l.took l.e l.p) (decode l.initial.mission)))
