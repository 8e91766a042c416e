-- What a mask's form says: page 01, "Settings". A mask of n ones is the one number mask_of n, its ones are n, more ones make the greater
-- number, and an address under it keeps its n highest bits. Assumes nothing.
use native.Mathlib.Omega.{arith}
use Prim.Native.Nat.{ℕ, ◌+◌, ◌-◌, ◌*◌, ◌/◌, ◌^◌, ◌≤◌, ◌<◌}
use native.Mathlib.Nat.{add-zero, lt_of_not-le}
use mathlib.Core.Path.{◌≡◌, refl, sym, ap, subst, ◌∙◌}
use mathlib.Core.Logic.{◌↔◌, ◌≢◌}
use mathlib.Core.Bool.{Bool, true, false}
use lib.Dec.{eqb}
use lib.Pow.{pow_pos, pow_mono, pow-lt, high_ones, shr_mod}
use lib.Bits.{bit_and, and_high}
use lib.Count.{ones, ones_cat, ones-ones}
use borrow.Author.Tests.{eq-eqb, eqb-true}
use Rattle.std.proofs.Common.{Some, None}
use Rattle.checks.specs.Order.{pick}
use Rattle.address.specs.Mask.{mask_of, ones_of, mask_form}
use Rattle.address.proofs.Clash.{clash}
use Rattle.address.proofs.Ones.{ones_counted, ones_at_most}

-- the bits above and below the mask's end make thirty-two
pub whole : (n : ℕ) → n ≤ 32 → n + (32 - n) ≡ 32
whole n h = omega arith

pub mask_fits : (n : ℕ) → mask_of n < 2 ^ 32
mask_fits n = omega (arith, pow_pos (32 - n))

-- The mask of n ones has n ones.
pub mask_ones : (n : ℕ) → n ≤ 32 → ones_of (mask_of n) ≡ n
unfolding ones
mask_ones n h =
    ones_counted (mask_of n) (mask_fits n)
    ∙ ap (λ (w : ℕ). ones (2 ^ w - 2 ^ (32 - n))) (sym (whole n h))
    ∙ ap ones (high_ones n (32 - n) ∙ sym (add-zero _))
    ∙ ones_cat (32 - n) (2 ^ n - 1) 0 (pow_pos (32 - n))
    ∙ add-zero _
    ∙ ones-ones n

-- The form tells n ones exactly of the mask of n ones.
pub form_ones : (m n : ℕ) → (mask_form m ≡ Some n) ↔ ((n ≤ 32) × (m ≡ mask_of n))
unfolding mask_form
form_ones m n = (there (eqb m (mask_of (ones_of m))) refl, back)
  where
    there : (t : Bool) → eqb m (mask_of (ones_of m)) ≡ t → pick t (Some (ones_of m)) None ≡ Some n → (n ≤ 32) × (m ≡ mask_of n)
    there true e f =
        let same : ones_of m ≡ n = cc in
        (subst (λ (k : ℕ). k ≤ 32) same (ones_at_most m), eqb-true m (mask_of (ones_of m)) e ∙ ap mask_of same)
    there false e f = clash (cc)

    back : (n ≤ 32) × (m ≡ mask_of n) → pick (eqb m (mask_of (ones_of m))) (Some (ones_of m)) None ≡ Some n
    back h =
        let same : ones_of m ≡ n = ap ones_of h.1 ∙ mask_ones n h.0 in
        ap (λ (t : Bool). pick t (Some (ones_of m)) None) (eq-eqb m (mask_of (ones_of m)) (h.1 ∙ ap mask_of (sym same))) ∙ ap Some same

-- It tells None exactly of the numbers that are no mask.
pub form_mixed : (m : ℕ) → (mask_form m ≡ None) ↔ ((n : ℕ) → n ≤ 32 → m ≢ mask_of n)
unfolding mask_form
form_mixed m = (there, back (eqb m (mask_of (ones_of m))) refl)
  where
    there : mask_form m ≡ None → (n : ℕ) → n ≤ 32 → m ≢ mask_of n
    there e n h f = let g = (form_ones m n).1 (h, f) in clash (cc)

    back : (t : Bool) → eqb m (mask_of (ones_of m)) ≡ t → ((n : ℕ) → n ≤ 32 → m ≢ mask_of n) → pick t (Some (ones_of m)) None ≡ None
    back true e none = absurd (none (ones_of m) (ones_at_most m) (eqb-true m (mask_of (ones_of m)) e))
    back false e none = refl

-- Then the number of its ones is n.
pub form_count : (m n : ℕ) → mask_form m ≡ Some n → ones_of m ≡ n
form_count m n e = let h = (form_ones m n).0 e in ap ones_of h.1 ∙ mask_ones n h.0

-- More ones is the greater number, unsigned.
pub mask_order : (n k : ℕ) → n ≤ 32 → k ≤ 32 → (n < k) ↔ (mask_of n < mask_of k)
mask_order n k hn hk = (there, back)
  where
    there : n < k → mask_of n < mask_of k
    there h =
        let fewer : 32 - k < 32 - n = omega arith in
        let within : 32 - n ≤ 32 = omega arith in
        omega (arith, pow-lt fewer, pow_mono within)

    back : mask_of n < mask_of k → n < k
    back h = lt_of_not-le (λ (g : k ≤ n). let fewer : 32 - n ≤ 32 - k = omega arith in omega (arith, pow_mono fewer))

-- Under the mask of n ones an address keeps its n highest bits.
pub under_mask : (a n : ℕ) → a < 2 ^ 32 → n ≤ 32 → bit_and a (mask_of n) ≡ a / 2 ^ (32 - n) * 2 ^ (32 - n)
under_mask a n h hn =
    ap (λ (w : ℕ). bit_and a (2 ^ w - 2 ^ (32 - n))) (sym (whole n hn))
    ∙ and_high a n (32 - n)
    ∙ ap (λ (x : ℕ). x * 2 ^ (32 - n)) (shr_mod n (32 - n) (subst (λ (w : ℕ). a < 2 ^ w) (sym (whole n hn)) h))
