-- The first of n numbers that a test holds at: it holds there and at none before, and there is none exactly where it holds nowhere. Assumes nothing.
use native.Mathlib.Omega.{arith}
use native.Mathlib.Nat.{eq-or-lt_of_le}
use Prim.Native.Nat.{ℕ, zero, suc, ◌≤◌, ◌<◌}
use mathlib.Core.Path.{◌≡◌, refl, ap, ◌∙◌}
use mathlib.Core.Logic.{⊎_elim}
use mathlib.Core.Bool.{Bool, true, false}
use lib.Dec.{eqb}
use borrow.Author.Tests.{eq-eqb, eqb-true, eqb-false}
use Rattle.checks.specs.Order.{pick}
use Rattle.sets.specs.Sets.{first_below}

-- ---- it is found among them, or behind them
below_case : (i f : ℕ) (t u : Bool) → f ≤ i → pick t (pick u i (suc i)) f ≤ suc i
below_case i f true true l = omega arith
below_case i f true false l = omega arith
below_case i f false u l = omega arith

first_at_most : (test : ℕ → Bool) (n : ℕ) → first_below test n ≤ n
first_at_most test zero = omega arith
first_at_most test (suc i) = below_case i (first_below test i) (eqb (first_below test i) i) (test i) (first_at_most test i)

-- ---- the test holds there
first_case :
    (test : ℕ → Bool) (i f : ℕ) (t u : Bool) → eqb f i ≡ t → test i ≡ u → f ≤ i → (f < i → test f ≡ true)
    → pick t (pick u i (suc i)) f < suc i → test (pick t (pick u i (suc i)) f) ≡ true
first_case test i f true true e k l ih h = k
first_case test i f true false e k l ih h = absurd (omega arith)
first_case test i f false u e k l ih h = ih (⊎_elim (λ z. absurd (eqb-false f i e z)) (λ z. z) (eq-or-lt_of_le l))

pub first_holds : (test : ℕ → Bool) (n : ℕ) → first_below test n < n → test (first_below test n) ≡ true
first_holds test zero h = absurd (omega arith)
first_holds test (suc i) h =
    first_case test i (first_below test i) (eqb (first_below test i) i) (test i) refl refl (first_at_most test i) (first_holds test i) h

-- ---- and at none before
before_case :
    (test : ℕ → Bool) (i f j : ℕ) (t u : Bool) → eqb f i ≡ t → test i ≡ u → (j < f → test j ≡ false)
    → j < pick t (pick u i (suc i)) f → test j ≡ false
before_case test i f j true true e k ih h = ih (omega (arith, eqb-true f i e))
before_case test i f j true false e k ih h =
    ⊎_elim (λ z. ap test z ∙ k) (λ z. ih (omega (arith, eqb-true f i e))) (eq-or-lt_of_le (let l : j ≤ i = omega arith in l))
before_case test i f j false u e k ih h = ih h

pub first_before : (test : ℕ → Bool) (n j : ℕ) → j < first_below test n → test j ≡ false
first_before test zero j h = absurd (omega arith)
first_before test (suc i) j h =
    before_case test i (first_below test i) j (eqb (first_below test i) i) (test i) refl refl (first_before test i j) h

-- a test that holds nowhere among the first n is first met behind them
pub first_none : (test : ℕ → Bool) (n : ℕ) → ((i : ℕ) → i < n → test i ≡ false) → first_below test n ≡ n
first_none test zero none = refl
first_none test (suc n) none =
    simp (first_none test n (λ i l. none i (omega (arith, l))), eq-eqb n n refl, none n (omega arith))
