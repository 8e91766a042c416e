-- `adjust::set_drop` meets its contract. Assumes nothing.
use native.Mathlib.Omega.{arith}
use Rattle.adjust.proofs.Settled.{whole, check_failed, check_passed}
use Rattle.adjust.proofs.set_drop.Goals as goal

pub returns-in_default : goal.returns-in_default
returns-in_default c = let t = check_failed whole _ 24 _ _ _ c.check_flag.ensures c.in_default.is (λ zero. omega arith) in record { answer = t.0; left = t.1 }

pub returns : goal.returns
returns c = let t = check_passed whole _ _ _ _ _ c.check_flag.ensures _ c.put_drop.ensures c.in-Passed.is in record { answer = t.0; left = t.1 }
