-- A test of what a function answered, said of the definition that its promise names. Assumes nothing.
use Prim.Native.Nat.{ℕ}
use mathlib.Core.Path.{◌≡◌, sym, ◌∙◌}
use mathlib.Core.Bool.{true, false}
use lib.Dec.{eqb}
use borrow.Author.Tests.{eq-eqb, ne_eqb}

module _ {answer is n : ℕ} (promised : answer ≡ is) where
  pub equal : answer ≡ n → eqb is n ≡ true
  equal h = eq-eqb is n (sym promised ∙ h)

  pub other : (answer ≡ n → ⊥) → eqb is n ≡ false
  other h = ne_eqb is n (λ e. h (promised ∙ e))
