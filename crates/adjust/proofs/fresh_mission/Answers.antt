-- `adjust::fresh_mission` meets its contract. Assumes nothing.
use native.Mathlib.Omega.{arith}
use Rattle.adjust.proofs.Settled.{whole, check_failed, check_passed}
use Rattle.adjust.proofs.fresh_mission.Goals as goal

pub returns-in_default : goal.returns-in_default
returns-in_default c = let t = check_failed whole _ 24 _ _ _ c.check_place.ensures c.in_default.is (λ zero. omega arith) in record { answer = t.0; left = t.1 }

pub returns : goal.returns
returns c = let t = check_passed whole _ _ _ _ _ c.check_place.ensures _ c.clear_mission.ensures c.in-Passed.is in record { answer = t.0; left = t.1 }
