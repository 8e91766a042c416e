-- Lists of checks: what stands behind others, and what the number of a whole list says. Assumes nothing.
use Prim.Native.Nat.{ℕ}
use mathlib.Core.Path.{◌≡◌, refl, sym}
use mathlib.Core.Logic.{◌↔◌, ◌≢◌}
use mathlib.Core.Bool.{Bool, true, false, not, ◌&&◌}
use mathlib.Core.List.{[], ◌∷◌, ◌++◌}
use lib.Dec.{eqb}
use borrow.Author.Tests.{eqb-false, not-true}
use Rattle.checks.proofs.Bools.{and_true}
use Rattle.checks.specs.Order.{Checks, first_of, NoneHolds, FirstHolds, Numbered}
use Rattle.checks.proofs.Laws.{zero_none, none_zero, number_first, first_number}

-- ---- a list within a list
after : (t : Bool) (n : ℕ) (xs ys : Checks) → (first_of xs ≡ 0 → first_of (xs ++ ys) ≡ first_of ys)
    → n ≢ 0 → first_of ((t, n) ∷ xs) ≡ 0 → first_of ((t, n) ∷ (xs ++ ys)) ≡ first_of ys
unfolding first_of
after true n xs ys rest is_number e = absurd (is_number e)
after false n xs ys rest is_number e = rest e

-- where none of the first holds, the others decide
pub others_decide : (xs ys : Checks) → Numbered xs → first_of xs ≡ 0 → first_of (xs ++ ys) ≡ first_of ys
others_decide [] ys ns e = refl
others_decide (x ∷ xs) ys ns e = after x.0 x.1 xs ys (others_decide xs ys ns.1) ns.0 e

before : (t : Bool) (n k : ℕ) (xs ys : Checks) → (first_of xs ≡ k → first_of (xs ++ ys) ≡ k)
    → first_of ((t, n) ∷ xs) ≡ k → first_of ((t, n) ∷ (xs ++ ys)) ≡ k
unfolding first_of
before true n k xs ys rest e = e
before false n k xs ys rest e = rest e

-- where one of the first holds, it decides
pub first_decides : (xs ys : Checks) (k : ℕ) → k ≢ 0 → first_of xs ≡ k → first_of (xs ++ ys) ≡ k
unfolding first_of
first_decides [] ys k refused e = absurd (refused (sym e))
first_decides (x ∷ xs) ys k refused e = before x.0 x.1 k xs ys (first_decides xs ys k refused) e

-- ---- the whole list
-- no number of the list is 0, as a test that computes where the numbers are written out
abbrev pub are_numbers : Checks → Bool
are_numbers [] = true
are_numbers (c ∷ cs) = not (eqb c.1 0) && are_numbers cs

pub numbered : (cs : Checks) → are_numbers cs ≡ true → Numbered cs
numbered [] e = tt
numbered (c ∷ cs) e =
    let p = and_true (not (eqb c.1 0)) (are_numbers cs) e in
    (eqb-false c.1 0 (not-true (eqb c.1 0) p.0), numbered cs p.1)

-- 0 exactly where no condition holds, and a number exactly where its condition holds and none before it
abbrev pub Decided : Checks → Type 0
Decided cs = ((first_of cs ≡ 0) ↔ NoneHolds cs) × ((n : ℕ) → n ≢ 0 → (first_of cs ≡ n) ↔ FirstHolds cs n)

pub decided : (cs : Checks) → are_numbers cs ≡ true → Decided cs
decided cs numbers = (
  (zero_none cs (numbered cs numbers), none_zero cs),
  λ n refused. (number_first cs n refused, first_number cs n),
)
