-- How many of a list pass a test, where a place is written, elements are changed one by one, or some go. Assumes nothing.
use native.Mathlib.Omega.{arith}
use Prim.Native.Nat.{ℕ, zero, suc, ◌+◌, ◌≤◌, ◌<◌}
use mathlib.Core.Path.{◌≡◌, refl, sym}
use mathlib.Core.Bool.{Bool, true, false, not}
use mathlib.Core.List.{List, [], ◌∷◌, map}
use lib.ListN.{length, get_or, set}
use Rattle.checks.specs.Order.{pick}
use Rattle.checks.proofs.Bools.{true_false}
use Rattle.queue.specs.Foretold.{how_many}

module _ {A : Type 0} where
  -- ---- two tests
  pub many_less : (test other : A → Bool) → ((y : A) → test y ≡ true → other y ≡ true) → (l : List A) → how_many test l ≤ how_many other l
  many_less test other so [] = omega arith
  many_less test other so (y ∷ l) = by (test y) (other y) (so y) (many_less test other so l)
    where
      by : (t u : Bool) → (t ≡ true → u ≡ true) → how_many test l ≤ how_many other l → pick t 1 0 + how_many test l ≤ pick u 1 0 + how_many other l
      by true true h k = omega arith
      by true false h k = true_false (sym (h refl))
      by false true h k = omega arith
      by false false h k = omega arith

  -- each element passes it or does not
  pub many_both : (test : A → Bool) (l : List A) → how_many test l + how_many (λ (y : A). not (test y)) l ≡ length l
  many_both test [] = refl
  many_both test (y ∷ l) = by (test y) (many_both test l)
    where
      by : (t : Bool) → how_many test l + how_many (λ (z : A). not (test z)) l ≡ length l
          → (pick t 1 0 + how_many test l) + (pick (not t) 1 0 + how_many (λ (z : A). not (test z)) l) ≡ suc (length l)
      by true k = omega arith
      by false k = omega arith

  pub many_length : (l : List A) → how_many (λ (y : A). true) l ≡ length l
  many_length [] = refl
  many_length (y ∷ l) = omega (arith, many_length l)

  -- ---- where one stands
  module _ (test : A → Bool) (d : A) where
    pub many_at : (l : List A) (i : ℕ) → i < length l → test (get_or l i d) ≡ true → 0 < how_many test l
    many_at [] i h is = absurd (omega arith)
    many_at (y ∷ l) zero h is = rw is (omega arith)
    many_at (y ∷ l) (suc i) h is = omega (arith, many_at l i (omega arith) is)

    pub some_at : (l : List A) → 0 < how_many test l → (i : ℕ) × (i < length l) × (test (get_or l i d) ≡ true)
    some_at [] h = absurd (omega arith)
    some_at (y ∷ l) h = by (test y) refl (some_at l) h
      where
        by : (t : Bool) → test y ≡ t → (0 < how_many test l → (i : ℕ) × (i < length l) × (test (get_or l i d) ≡ true)) → 0 < pick t 1 0 + how_many test l
            → (i : ℕ) × (i < suc (length l)) × (test (get_or (y ∷ l) i d) ≡ true)
        by true is rest k = (zero, omega arith, is)
        by false is rest k = let at = rest (omega arith) in (suc at.0, omega (arith, at.1), at.2)

    -- two places that pass it are two
    pub many_two : (l : List A) (i j : ℕ) → i < j → j < length l → test (get_or l i d) ≡ true → test (get_or l j d) ≡ true → 2 ≤ how_many test l
    many_two [] i j less h is too = absurd (omega arith)
    many_two (y ∷ l) i zero less h is too = absurd (omega arith)
    many_two (y ∷ l) zero (suc j) less h is too = rw is (omega (arith, many_at l j (omega arith) too))
    many_two (y ∷ l) (suc i) (suc j) less h is too = omega (arith, many_two l i j (omega arith) (omega arith) is too)

    -- a place that did not pass it, written anew
    pub many_set : (l : List A) (i : ℕ) (x : A) → i < length l → test (get_or l i d) ≡ false → how_many test (set l i x) ≡ how_many test l + pick (test x) 1 0
    many_set [] i x h is = absurd (omega arith)
    many_set (y ∷ l) zero x h is = rw is (omega arith)
    many_set (y ∷ l) (suc i) x h is = omega (arith, many_set l i x (omega arith) is)

-- each changed by itself
pub many_changed : {A B : Type 0} (test : B → Bool) (other : A → Bool) (f : A → B) → ((y : A) → test (f y) ≡ other y)
    → (l : List A) → how_many test (map f l) ≡ how_many other l
many_changed test other f same [] = refl
many_changed test other f same (y ∷ l) = rw (same y, many_changed test other f same l)
