-- The leading ones of a word, by the leading zeros of its complement, are all its ones exactly where it is ones and then zeros. Assumes
-- nothing.
use native.Mathlib.Omega.{arith}
use Prim.Native.Nat.{ℕ, zero, suc, ◌+◌, ◌-◌, ◌*◌, ◌/◌, ◌^◌, ◌≤◌, ◌<◌}
use native.Mathlib.Numerals.{add-one}
use mathlib.Core.Path.{◌≡◌, sym, ap, subst, ◌∙◌}
use mathlib.Core.Logic.{◌≢◌}
use lib.Arith.{lt-one}
use lib.Pow.{pow_pos, pow_mono, high_ones, shr_lt}
use lib.Count.{ones, ones_step, ones_cat, ones-ones, count_leading_zeros, leading_unique, leading_length}
use Rattle.std.proofs.Common.{Some, None}
use Rattle.address.specs.Mask.{mask_of, ones_of, mask_form}
use Rattle.address.proofs.Ones.{ones_counted}
use Rattle.address.proofs.Masks.{whole, mask_ones, form_ones, form_mixed}

-- the leading ones of a word of 32 bits
abbrev pub leading_ones : ℕ → ℕ
leading_ones m = count_leading_zeros 32 ((2 ^ 32 - 1) - m)

-- a word with no one is 0
no_ones : (k r : ℕ) → r < 2 ^ k → ones r ≡ 0 → r ≡ 0
no_ones zero r h e = lt-one h
no_ones (suc k) r h e =
    let half : r / 2 < 2 ^ k = shr_lt k 1 (subst (λ (x : ℕ). r < 2 ^ x) (sym (add-one k)) h) in
    let step = ones_step r in
    let rest : ones (r / 2) ≡ 0 = omega arith in
    omega (arith, no_ones k (r / 2) half rest)

-- the complement of the mask of n ones is 32 - n ones
leading_mask : (n : ℕ) → n ≤ 32 → leading_ones (mask_of n) ≡ n
leading_mask n h =
    let fewer : 32 - n ≤ 32 = omega arith in
    let pos = pow_pos (32 - n) in
    let low = pow_mono fewer in
    sym (leading_unique 32 _ n (32 - n) (whole n h) (omega arith) (omega arith))

-- below the leading ones there is none, where they are all
only_leading : (m : ℕ) → m < 2 ^ 32 → leading_ones m ≡ ones m → (leading_ones m ≤ 32) × (m ≡ mask_of (leading_ones m))
only_leading m h e =
    let s = leading_length 32 ((2 ^ 32 - 1) - m) (omega arith) in
    let n = leading_ones m in
    let j = s.0 in
    let fewer : j ≤ 32 = omega (arith, s.1) in
    let pow = pow_mono fewer in
    let r = m - (2 ^ 32 - 2 ^ j) in
    let under : r < 2 ^ j = omega (arith, s.2) in
    let split : m ≡ (2 ^ n - 1) * 2 ^ j + r =
    subst (λ (x : ℕ). m ≡ x + r) (ap (λ (x : ℕ). 2 ^ x - 2 ^ j) (sym s.1) ∙ high_ones n j) (omega (arith, s.2)) in
    let count : ones m ≡ n + ones r = ap ones split ∙ ones_cat j (2 ^ n - 1) r under ∙ ap (λ (x : ℕ). x + ones r) (ones-ones n) in
    let none : r ≡ 0 = no_ones j r under (omega arith) in
    let same : j ≡ 32 - n = omega (arith, s.1) in
    (omega (arith, s.1), subst (λ (x : ℕ). m ≡ 2 ^ 32 - 2 ^ x) same (omega (arith, s.2)))

pub ones_told : (m : ℕ) → m < 2 ^ 32 → leading_ones m ≡ ones m → Some (ones m) ≡ mask_form m
ones_told m h e =
    let f = only_leading m h e in
    sym ((form_ones m (ones m)).1 (subst (λ (n : ℕ). (n ≤ 32) × (m ≡ mask_of n)) e f))

pub mixed_told : (m : ℕ) → m < 2 ^ 32 → leading_ones m ≢ ones m → None ≡ mask_form m
mixed_told m h n =
    sym ((form_mixed m).1 λ k l e. n (ap leading_ones e ∙ leading_mask k l ∙ sym (mask_ones k l) ∙ ap ones_of (sym e) ∙ ones_counted m h))
