-- What a loop over the places finds, whatever it looks for. Assumes nothing.
use native.Mathlib.Omega.{arith}
use Prim.Native.Nat.{ℕ, ◌+◌, ◌≤◌, ◌<◌}
use mathlib.Core.Path.{◌≡◌, refl, sym, ap, ◌∙◌}
use mathlib.Core.Logic.{◌≢◌}
use mathlib.Core.Bool.{Bool, true, false, not, ◌&&◌}
use lib.Dec.{eqb}
use borrow.Author.Tests.{eq-eqb, ne_eqb}
use Rattle.checks.specs.Order.{check_of}
use Rattle.checks.specs.declared.Check.TheVariants.{Passed, Failed}
use Rattle.sets.specs.Sets.{any_below}
use Rattle.sets.proofs.Anywhere.{any_none, any_found}

-- ---- one place: the one that is written, or another whose record was read
pub written : (i place : ℕ) (t : Bool) → i ≡ place → false ≡ (not (eqb i place) && t)
written i place t e = rw (eq-eqb i place e)

pub compared : {A B : Type 0} (holds : A → B → Bool) (i place : ℕ) (x y : A) (b : B) (t : Bool)
    → i ≢ place → t ≡ holds x b → x ≡ y → t ≡ (not (eqb i place) && holds y b)
compared {A} {B} holds i place x y b t ne told same = rw (ne_eqb i place ne) (told ∙ ap (λ (z : A). holds z b) same)

-- ---- all places: a loop that is at place i, and what was answered of it
-- the test holds at none of the places before i
pub record NoneBelow (test : ℕ → Bool) (i : ℕ) : Type 0 where
  pub none : any_below test i ≡ false

pub at_first : (test : ℕ → Bool) → NoneBelow test 0
at_first test = record { none = refl }

module _ (test : ℕ → Bool) (i : ℕ) (before : NoneBelow test i) where
  module _ (answer : Bool) (is : answer ≡ test i) where
    pub found : (n : ℕ) → i < n → answer ≡ true → Failed ≡ check_of (any_below test n)
    found n under holds = ap check_of (sym (any_found test i n under (sym is ∙ holds)))

    pub not_here : answer ≡ false → NoneBelow test (i + 1)
    not_here fails = record { none = any_none test i before.none (sym is ∙ fails) }

  pub nowhere : (n : ℕ) → i ≤ n → n ≤ i → Passed ≡ check_of (any_below test n)
  nowhere n low high =
      let end : n ≡ i = omega arith in
      ap check_of (sym (ap (any_below test) end ∙ before.none))
