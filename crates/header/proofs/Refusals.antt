-- The reader refuses by the first check that fails, and accepts exactly where none does (page 01, step 2 and "The reader alone gives 1 to 5 in
-- the order above"). Assumes nothing.
use Prim.Native.Nat.{ℕ}
use mathlib.Core.Path.{◌≡◌, refl}
use mathlib.Core.List.{List}
use mathlib.Core.Bool.{Bool, true, false}
use mathlib.Core.Logic.{◌↔◌}
use lib.Dec.{eqb}
use native.Mathlib.Omega.{arith}
use borrow.Author.Tests.{eqb-true, eqb-false}
use Rattle.checks.specs.Order.{pick, first_of, FirstHolds, NoneHolds}
use Rattle.checks.proofs.Bools.{true_false}
use Rattle.checks.proofs.Laws.{zero_none, none_zero, number_first, first_number}
use Rattle.header.specs.Read.{header_of, read_checks, read_by, read_of}
use Rattle.header.specs.declared.Header.{Header}
use Rattle.checks.specs.Told.{Good, Refused}

refused_case : (t : Bool) (m n : ℕ) (h : Header) → eqb m 0 ≡ t → pick t (Good h) (Refused m) ≡ Refused n → (m ≡ n) × (m ≡ 0 → ⊥)
refused_case true m n h t e = true_false cc
refused_case false m n h t e = (cc, eqb-false m 0 t)

good_case : (t : Bool) (m : ℕ) (g h : Header) → eqb m 0 ≡ t → pick t (Good g) (Refused m) ≡ Good h → (m ≡ 0) × (h ≡ g)
good_case true m g h t e = (eqb-true m 0 t, cc)
good_case false m g h t e = true_false cc

refused_by_lem : (m : ℕ) (h : Header) → (m ≡ 0 → ⊥) → read_by m h ≡ Refused m
refused_by_lem m h z = by (eqb m 0) refl
  where
    by : (t : Bool) → eqb m 0 ≡ t → pick t (Good h) (Refused m) ≡ Refused m
    by true e = absurd (z (eqb-true m 0 e))
    by false e = refl

-- a number is given exactly where its condition holds and none before it
pub read_refused : (s : List ℕ) (n : ℕ) → (n ≡ 0 → ⊥) → (read_of s ≡ Refused n) ↔ FirstHolds (read_checks s) n
unfolding read_of
read_refused s n z =
    let m = first_of (read_checks s) in (
      λ e. number_first (read_checks s) n z (refused_case (eqb m 0) m n (header_of s) refl e).0,
      λ h. (
          let e : m ≡ n = first_number (read_checks s) n h in
          rw e (refused_by_lem n (header_of s) z)
          ),
    )

-- 0 is no refusal
pub never_zero : (s : List ℕ) → read_of s ≡ Refused 0 → ⊥
unfolding read_of
never_zero s e =
    let m = first_of (read_checks s) in
    let p = refused_case (eqb m 0) m 0 (header_of s) refl e in
    p.1 p.0

-- the header is given exactly where no condition holds
pub read_good : (s : List ℕ) (h : Header) → (read_of s ≡ Good h) ↔ (NoneHolds (read_checks s) × (h ≡ header_of s))
unfolding read_of read_checks
read_good s h =
    let m = first_of (read_checks s) in (
      λ e. (
          let p = good_case (eqb m 0) m (header_of s) h refl e in
          (zero_none (read_checks s) (omega arith, (omega arith, (omega arith, (omega arith, (omega arith, (omega arith, tt)))))) p.0, p.1)
          ),
      λ p. (
          let e : m ≡ 0 = none_zero (read_checks s) p.0 in
          rw (e, p.1)
          ),
    )
