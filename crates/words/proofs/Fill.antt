-- A list that a loop fills from the front, one store a turn. Assumes nothing.
use native.Mathlib.Omega.{arith}
use native.Mathlib.Nat.{le_of_suc-le-suc, not-suc-le-zero}
use native.Mathlib.Numerals.{add-one}
use Prim.Native.Nat.{ℕ, zero, suc, ◌+◌, ◌≤◌, ◌<◌}
use mathlib.Core.Path.{◌≡◌, refl, ap, ◌∙◌}
use mathlib.Core.List.{List, [], ◌∷◌, ◌++◌, append-nil}
use lib.ListN.{length, take, drop, get_or, set, length-append, length-take, length-drop, drop_of_length-le}
use lib.Seq.{take_all}

module _ {A : Type 0} where
  -- ys in the first i places, xs behind them
  abbrev pub fill : List A → List A → ℕ → List A
  fill xs ys i = take i ys ++ drop i xs

  turn : (xs ys : List A) (i : ℕ) (d : A) → i < length xs → i < length ys → set (fill xs ys i) i (get_or ys i d) ≡ fill xs ys (suc i)
  turn [] ys i d p q = absurd (not-suc-le-zero p)
  turn (x ∷ xs) [] i d p q = absurd (not-suc-le-zero q)
  turn (x ∷ xs) (y ∷ ys) zero d p q = refl
  turn (x ∷ xs) (y ∷ ys) (suc i) d p q = ap (λ (t : List A). y ∷ t) (turn xs ys i d (le_of_suc-le-suc p) (le_of_suc-le-suc q))

  pub fill_turn : (xs ys out : List A) (i : ℕ) (v d : A) → i < length xs → i < length ys → v ≡ get_or ys i d → out ≡ fill xs ys i
      → set out i v ≡ fill xs ys (i + 1)
  fill_turn xs ys out i v d p q e o = rw (o, e, add-one) (turn xs ys i d p q)

  pub fill_end : (xs ys out : List A) (i : ℕ) → length xs ≤ i → length ys ≤ i → out ≡ fill xs ys i → out ≡ ys
  fill_end xs ys out i p q o = o ∙ rw (take_all i ys q, drop_of_length-le xs {i = i} p, append-nil)

  pub fill_length : (xs ys out : List A) (i : ℕ) → i ≤ length xs → i ≤ length ys → out ≡ fill xs ys i → length out ≡ length xs
  fill_length xs ys out i p q o = rw o (simp (length-append, length-take, length-drop) (omega arith))
