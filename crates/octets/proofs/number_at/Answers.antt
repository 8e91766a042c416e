-- One octet more, and an eighth still fits.
use Rattle.std.proofs.Common.{refl, arith, ℕ, ◌≤◌, ◌<◌, ◌^◌, lit<}
use Rattle.std.proofs.Math.Nat.{pow-le-pow_right}
use Rattle.octets.specs.Octets.{number}
use Rattle.octets.proofs.Laws.{number_more, bound_more}
use Rattle.octets.proofs.number_at.Goals as goal

pub loop-x-init : goal.loop-x-init
unfolding number
loop-x-init c = (refl, omega arith)

small : (i value : ℕ) → i ≤ 7 → value < 256 ^ i → value < 256 ^ 7
small i value h v = let p = pow-le-pow_right {n = 256} (lit< tt) h in omega arith

pub overflow_mul-value : goal.overflow_mul-value
overflow_mul-value c = omega (arith, small _ _ (omega arith) c.loop-x.invariant.1)

pub overflow_add-value : goal.overflow_add-value
overflow_add-value c = omega (arith, small _ _ (omega arith) c.loop-x.invariant.1)

pub loop-x-preserved : goal.loop-x-preserved
loop-x-preserved c =
    (number_more _ _ _ _ _ (omega arith) c.loop-x.invariant.0, bound_more _ _ _ c.loop-x.invariant.1 (omega arith))
