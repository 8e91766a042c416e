-- Where the items begin: the lengths before them, added up. Assumes nothing.
use native.Mathlib.Omega.{arith}
use native.Mathlib.Numerals.{add-one}
use native.Mathlib.Nat.{add-suc, add-zero, le_refl, add-sub_of_le}
use Prim.Native.Nat.{ℕ, zero, suc, ◌+◌, ◌-◌, ◌≤◌, ◌<◌}
use mathlib.Core.Path.{◌≡◌, refl, sym, ap, subst, ◌∙◌}
use mathlib.Core.Bool.{true, false}
use mathlib.Core.List.{List}
use lib.Dec.{ltb}
use lib.ListN.{length, get_or}
use borrow.Author.Tests.{lt-ltb, le-ltb}
use Rattle.batch.specs.Items.{start_of}

module _ (lengths : List ℕ) where
  pub starts : start_of lengths 0 ≡ 0
  unfolding start_of
  starts = refl

  pub start_next : (i : ℕ) → start_of lengths (suc i) ≡ start_of lengths i + get_or lengths i 0
  unfolding start_of
  start_next i = refl

  pub start_more : (i : ℕ) → start_of lengths (i + 1) ≡ start_of lengths i + get_or lengths i 0
  start_more i = ap (start_of lengths) (add-one i) ∙ start_next i

  -- a later item begins no earlier
  start_after : (i k : ℕ) → start_of lengths i ≤ start_of lengths (i + k)
  start_after i zero = rw (add-zero i) (le_refl (start_of lengths i))
  start_after i (suc k) = rw (add-suc i k) (omega (arith, start_next (i + k), start_after i k))

  pub start_later : (i j : ℕ) → i ≤ j → start_of lengths i ≤ start_of lengths j
  start_later i j h = subst (λ (n : ℕ). start_of lengths i ≤ start_of lengths n) (add-sub_of_le h) (start_after i (j - i))

-- ---- the lengths taken from the octets one by one: so many are left before item i
module _ (lengths : List ℕ) (octets i left : ℕ) (kept : left + start_of lengths i ≡ octets) where
  pub one_passes : i < length lengths → left < get_or lengths i 0 → true ≡ ltb octets (start_of lengths (length lengths))
  one_passes h less =
      sym (lt-ltb octets (start_of lengths (length lengths))
      (omega (arith, kept, less, start_next lengths i, start_later lengths (suc i) (length lengths) h)))

  pub none_passes : i ≤ length lengths → length lengths ≤ i → false ≡ ltb octets (start_of lengths (length lengths))
  none_passes h k =
      let all : i ≡ length lengths = omega (arith, h, k) in
      sym (le-ltb octets (start_of lengths (length lengths)) (omega (arith, kept, ap (start_of lengths) all)))
