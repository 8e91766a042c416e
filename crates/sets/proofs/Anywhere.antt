-- Whether a test holds anywhere among the first n, as a loop finds it, and what that means. Assumes nothing.
use native.Mathlib.Omega.{arith}
use native.Mathlib.Decide.{dec_le}
use native.Mathlib.Nat.{lt_of_not-le}
use Prim.Native.Nat.{ℕ, zero, suc, ◌+◌, ◌<◌}
use mathlib.Core.Path.{◌≡◌, refl, sym, ap, ◌∙◌}
use mathlib.Core.Logic.{◌↔◌, ⊎_elim, by_cases}
use mathlib.Core.Bool.{Bool, true, false, ◌||◌}
use Rattle.checks.proofs.Bools.{true_false, or_true}
use Rattle.sets.specs.Sets.{any_below}
use Rattle.sets.proofs.Loops.{any_below_next}

or_left : (t u : Bool) → t ≡ true → (t || u) ≡ true
or_left t u e = rw e

or_right : (t u : Bool) → u ≡ true → (t || u) ≡ true
or_right true u e = refl
or_right false u e = e

-- nothing is found below i, nor at i: nothing one place further
pub any_none : (test : ℕ → Bool) (i : ℕ) → any_below test i ≡ false → test i ≡ false → any_below test (i + 1) ≡ false
any_none test i none fails = any_below_next test i ∙ rw (none, fails)

-- found at i, and so found among all
pub any_found : (test : ℕ → Bool) (i n : ℕ) → i < n → test i ≡ true → any_below test n ≡ true
any_found test i zero under holds = absurd (omega arith)
any_found test i (suc n) under holds =
    by_cases (dec_le n i)
    (λ l. or_right (any_below test n) (test n) (ap test (let e : n ≡ i = omega arith in e) ∙ holds))
    (λ g. or_left (any_below test n) (test n) (any_found test i n (lt_of_not-le g) holds))

any_where : (test : ℕ → Bool) (n : ℕ) → any_below test n ≡ true → (i : ℕ) × (i < n) × (test i ≡ true)
any_where test zero e = true_false (sym e)
any_where test (suc n) e =
    ⊎_elim (λ l. let at = any_where test n l in (at.0, omega (arith, at.1), at.2)) (λ h. (n, omega arith, h))
    (or_true (any_below test n) (test n) e)

-- It holds anywhere exactly where it holds at one of them.
pub any_is : (test : ℕ → Bool) (n : ℕ) → (any_below test n ≡ true) ↔ ((i : ℕ) × (i < n) × (test i ≡ true))
any_is test n = (any_where test n, λ at. any_found test at.0 n at.1 at.2)
