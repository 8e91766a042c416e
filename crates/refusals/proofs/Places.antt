-- A place that was tested, and a setting that nothing refuses: the place is there. Assumes nothing.
use Prim.Native.Nat.{ℕ, ◌<◌}
use mathlib.Core.Path.{◌≡◌, sym, ◌∙◌}
use mathlib.Core.Bool.{true}
use mathlib.Core.List.{◌∷◌}
use Rattle.checks.specs.Order.{check_of, Checks, first_of}
use Rattle.checks.specs.declared.Check.{Check}
use Rattle.checks.specs.declared.Check.TheVariants.{Passed}
use Rattle.checks.proofs.Laws.{passed_false}
use Rattle.settings.specs.Refusals.{place_refused}
use Rattle.settings.proofs.Values.{place_taken}
use Rattle.refusals.proofs.Chains.{are_numbers, decided}

pub tested_there : (place places : ℕ) (answer : Check) → answer ≡ check_of (place_refused place places) → answer ≡ Passed → place < places
tested_there place places answer is passed = (place_taken place places).0 (passed_false (place_refused place places) (sym is ∙ passed))

pub place_there : (place places : ℕ) (more : Checks) (answer : ℕ) → are_numbers more ≡ true
    → answer ≡ first_of ((place_refused place places, 21) ∷ more) → answer ≡ 0 → place < places
place_there place places more answer numbers is zero =
    (place_taken place places).0 ((decided ((place_refused place places, 21) ∷ more) numbers).0.0 (sym is ∙ zero)).0
