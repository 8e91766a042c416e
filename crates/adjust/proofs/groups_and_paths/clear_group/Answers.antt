-- `adjust::groups_and_paths::clear_group` meets its contract. Assumes nothing.
use native.Mathlib.Omega.{arith}
use Rattle.state.specs.Layout.{decode}
use Rattle.refusals.proofs.Places.{tested_there}
use Rattle.adjust.proofs.Settled.{own, check_failed, check_passed}
use Rattle.adjust.proofs.groups_and_paths.clear_group.Goals as goal

pub returns-in_default : goal.returns-in_default
returns-in_default c = let t = check_failed (own (decode c.args.mission.now)) _ 21 _ _ _
    c.check_place.ensures c.in_default.is (λ zero. omega arith) in record { answer = t.0; left = t.1 }

pub put_group-requires : goal.put_group-requires
put_group-requires c = tested_there _ _ _ c.check_place.ensures c.in-Passed.is

pub returns : goal.returns
returns c = let t = check_passed (own (decode c.args.mission.now)) _ _ _ _ _ c.check_place.ensures _
    c.put_group.ensures c.in-Passed.is in record { answer = t.0; left = t.1 }
