-- `refusals::same_entry::check_other_paths` meets its contract: no place below i is another one with the same entry. Assumes nothing.
use Prim.Native.Nat.{◌-◌, ◌≤◌}
use Rattle.state.specs.Layout.{decode}
use Rattle.refusals.specs.Elsewhere.{other_path}
use Rattle.refusals.proofs.same_entry.Others.{NoneBelow}
use Rattle.refusals.proofs.same_entry.check_other_paths.Given as goal

abbrev pub invariant-loop-i : goal.invariant-loop-i
invariant-loop-i l = (l.i ≤ 16) × NoneBelow (other_path (decode l.mission).mission l.place l.p) l.i
