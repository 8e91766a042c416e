-- `refusals::same_entry::check_other_groups` meets its contract: no place below i is another one with the same entry. Assumes nothing.
use Prim.Native.Nat.{◌-◌, ◌≤◌}
use Rattle.state.specs.Layout.{decode}
use Rattle.refusals.specs.Elsewhere.{other_group}
use Rattle.refusals.proofs.same_entry.Others.{NoneBelow}
use Rattle.refusals.proofs.same_entry.check_other_groups.Given as goal

abbrev pub invariant-loop-i : goal.invariant-loop-i
invariant-loop-i l = (l.i ≤ 16) × NoneBelow (other_group (decode l.mission).mission l.place l.a) l.i
