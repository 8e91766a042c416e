-- What a condition makes a check answer, and what the parts of a condition say. Assumes nothing.
use mathlib.Core.Path.{◌≡◌, refl, sym, ap}
use mathlib.Core.Logic.{◌↔◌, ◌⊎◌, inl, inr}
use mathlib.Core.Bool.{Bool, true, false, ◌&&◌, ◌||◌}
use Rattle.checks.specs.Order.{check_of}
use Rattle.checks.specs.declared.Check.TheVariants.{Passed, Failed}
use Rattle.checks.proofs.Bools.{true_false}

pub not_taken : (t : Bool) → (t ≡ false → ⊥) → t ≡ true
not_taken true h = refl
not_taken false h = absurd (h refl)

-- Where it is known when a value is taken, so is what the check of it answers.
pub passes : {t : Bool} {P : Type 0} → (t ≡ false) ↔ P → P → Passed ≡ check_of t
passes taken p = ap check_of (sym (taken.1 p))

pub fails : {t : Bool} {P : Type 0} → (t ≡ false) ↔ P → (P → ⊥) → Failed ≡ check_of t
fails {t} taken not-p = ap check_of (sym (not_taken t (λ e. not-p (taken.0 e))))

pub both_true : (t u : Bool) → (t && u) ≡ true → (t ≡ true) × (u ≡ true)
both_true true u e = (refl, e)
both_true false u e = true_false (sym e)

pub either_true : (t u : Bool) → (t || u) ≡ true → (t ≡ true) ⊎ (u ≡ true)
either_true true u e = inl refl
either_true false u e = inr e

pub both_false : (t u : Bool) → t ≡ false → u ≡ false → (t || u) ≡ false
both_false t u e f = rw e f
