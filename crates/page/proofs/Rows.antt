-- The first row that fits decides: one law for the rows of any table, and what follows where every row says a thing. Assumes nothing.
use Prim.Native.Nat.{ℕ}
use mathlib.Core.Path.{◌≡◌, refl, sym}
use mathlib.Core.Logic.{◌↔◌, ◌≢◌, ◌⊎◌, inl, inr, ⊎_elim}
use mathlib.Core.Bool.{Bool, true, false, not, ◌&&◌}
use mathlib.Core.List.{List, [], ◌∷◌, ◌++◌}
use lib.Dec.{eqb}
use borrow.Author.Tests.{eqb-false, not-true}
use Rattle.checks.specs.Order.{pick, Checks, first_of, NoneHolds}
use Rattle.checks.proofs.Bools.{true_false, and_true}
use Rattle.checks.proofs.Laws.{either}
use Rattle.page.specs.Table.{first_row, Decides}

module _ {A : Type 0} (P : A → Type 0) where
  there : (t : Bool) (a b : A) → P (pick t a b) → ((t ≡ true) × P a) ⊎ ((t ≡ false) × P b)
  there true a b h = inl (refl, h)
  there false a b h = inr (refl, h)

  -- What the first row that fits says is P exactly where a row says P whose condition holds, and none before it.
  pub row_decides : (rows : List (Bool × A)) (last : A) → P (first_row rows last) ↔ Decides P rows last
  row_decides [] last = (λ h. h, λ h. h)
  row_decides (row ∷ rows) last =
      let rest = row_decides rows last in (
        λ h. ⊎_elim (λ x. inl x) (λ y. inr (y.0, rest.0 y.1)) (there row.0 row.1 (first_row rows last) h),
        λ h. ⊎_elim (λ x. rw x.0 x.1) (λ y. rw y.0 (rest.1 y.1)) h,
      )

  -- every row says it
  abbrev pub Every : List (Bool × A) → Type 0
  Every [] = Unit
  Every (row ∷ rows) = P row.1 × Every rows

  pub every_row : (rows : List (Bool × A)) (last : A) → Every rows → P last → P (first_row rows last)
  every_row [] last all end = end
  every_row (row ∷ rows) last all end = either P row.0 all.0 (every_row rows last all.1 end)

-- no row has the number n, as a test that computes where the numbers are written out
abbrev pub lacks : ℕ → Checks → Bool
lacks n [] = true
lacks n (row ∷ rows) = not (eqb row.1 n) && lacks n rows

-- a row without the number gives it only through those behind
skipped : (row : Bool × ℕ) (n m : ℕ) (rest : Bool) → (not (eqb row.1 n) && rest) ≡ true → pick row.0 row.1 m ≡ n
    → (row.0 ≡ false) × (m ≡ n)
skipped row n m rest none e = by row.0 e
  where
    by : (t : Bool) → pick t row.1 m ≡ n → (t ≡ false) × (m ≡ n)
    by true f = absurd (eqb-false row.1 n (not-true (eqb row.1 n) (and_true (not (eqb row.1 n)) rest none).0) f)
    by false f = (refl, f)

lacks_none : (n : ℕ) → n ≢ 0 → (rows : Checks) → lacks n rows ≡ true → first_of rows ≢ n
unfolding first_of
lacks_none n some [] none e = some (sym e)
lacks_none n some (row ∷ rows) none e =
    lacks_none n some rows (and_true (not (eqb row.1 n)) (lacks n rows) none).1 (skipped row n (first_of rows) (lacks n rows) none e).1

-- A number that one row alone has is given exactly where its condition holds, and none before it.
pub only_row : (xs ys : Checks) (t : Bool) (n : ℕ) → n ≢ 0 → lacks n xs ≡ true → lacks n ys ≡ true
    → (first_of (xs ++ ((t, n) ∷ ys)) ≡ n) ↔ (NoneHolds xs × (t ≡ true))
unfolding first_of
only_row [] ys true n some before behind = (λ e. (tt, refl), λ d. refl)
only_row [] ys false n some before behind = (λ e. absurd (lacks_none n some ys behind e), λ d. true_false (sym d.1))
only_row (x ∷ xs) ys t n some before behind =
    let rest = only_row xs ys t n some (and_true (not (eqb x.1 n)) (lacks n xs) before).1 behind in (
      λ e. (let past = skipped x n (first_of (xs ++ ((t, n) ∷ ys))) (lacks n xs) before e in
          let is = rest.0 past.1 in
          ((past.0, is.0), is.1)),
      λ d. rw d.0.0 (rest.1 (d.0.1, d.1)),
    )

pub every_check : (P : ℕ → Type 0) (rows : Checks) → Every P rows → P 0 → P (first_of rows)
unfolding first_of
every_check P [] all end = end
every_check P (row ∷ rows) all end = either P row.0 all.0 (every_check P rows all.1 end)
