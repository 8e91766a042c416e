-- `floods::seek` meets its contract: no place below i holds the pair, and free is the lowest free one of them. Assumes nothing.
use Prim.Native.Nat.{ℕ, ◌-◌, ◌≤◌}
use mathlib.Core.Path.{◌≡◌}
use mathlib.Core.Bool.{false}
use Rattle.sets.specs.Sets.{any_below, first_below}
use Rattle.records.specs.Held.{holds_pair, is_free}
use Rattle.state.specs.Layout.{decode}
use Rattle.state.specs.Relay.{pair_at}
use Rattle.floods.proofs.seek.Given as goal

abbrev pub invariant-loop-i : goal.invariant-loop-i
invariant-loop-i l = (l.i ≤ 64) × ((any_below (λ (j : ℕ). holds_pair (pair_at (decode l.mission).memory j) l.q) l.i ≡ false) × (l.free ≡ first_below (λ (j : ℕ). is_free (pair_at (decode l.mission).memory j)) l.i))
