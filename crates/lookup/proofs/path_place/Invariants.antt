-- `lookup::path_place` meets its contract: no place below i is the path's. Assumes nothing.
use Prim.Native.Nat.{ℕ, ◌-◌, ◌≤◌}
use mathlib.Core.Path.{◌≡◌}
use Rattle.sets.specs.Sets.{first_below}
use Rattle.state.specs.Layout.{decode}
use Rattle.state.specs.Relay.{path_at}
use Rattle.records.specs.Held.{holds_path}
use Rattle.lookup.proofs.path_place.Given as goal

abbrev pub invariant-loop-i : goal.invariant-loop-i
invariant-loop-i l = (l.i ≤ 16) × (first_below (λ (j : ℕ). holds_path (path_at (decode l.mission).mission j) l.p) l.i ≡ l.i)
