-- `floods::sweep_all` meets its contract: after i turns the first i places are swept. Assumes nothing.
use Prim.Native.Nat.{◌-◌, ◌≤◌}
use mathlib.Core.Path.{◌≡◌}
use lib.ListN.{length}
use Rattle.state.specs.Seen.{on_memory}
use Rattle.state.specs.Layout.{mission_words, decode}
use Rattle.floods.specs.Sweep.{swept_below}
use Rattle.floods.proofs.sweep_all.Given as goal

abbrev pub invariant-loop-i : goal.invariant-loop-i
invariant-loop-i l = (l.i ≤ 64) × ((length l.mission ≡ mission_words) × (decode l.mission ≡ on_memory (λ k. swept_below l.lifetime l.second k l.i) (decode l.initial.mission)))
