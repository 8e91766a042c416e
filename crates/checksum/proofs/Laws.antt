-- The laws of the checksum: what its definitions in specs/ come to, said in another way. Callers use these, and so need not
-- know how the words are added. Assumes nothing.
use Prim.Native.Nat.{ℕ, zero, suc, ◌/◌, ◌%◌, ◌<◌}
use mathlib.Core.Path.{◌≡◌, refl}
use mathlib.Core.List.{List, [], ◌∷◌, ◌++◌}
use native.Mathlib.Omega.{arith}
use lib.ListN.{get_or, length, take}
use Rattle.checksum.specs.Sum.{word, words, sum_from, ones_sum, checksum_of, element_of}
use Rattle.checksum.proofs.Words.{Octets, plain, words_fit, words_zero, words_blank, words_even, sum_from_append, sum_from_fits, sum_from_plain, sum_from_zero}

-- the plain sum of the words of octets
unfoldable pub word_total : List ℕ → ℕ
word_total l = plain (words l)

-- the worked sum of RFC 1071, 3: DDF2
rfc_example : ones_sum (0 ∷ 1 ∷ 242 ∷ 3 ∷ 244 ∷ 245 ∷ 246 ∷ 247 ∷ []) ≡ 56818
unfolding ones_sum words sum_from
rfc_example = refl

-- the sum is a 16-bit word
pub sum_fits : (l : List ℕ) → Octets l → ones_sum l < 65536
unfolding ones_sum
sum_fits l h = sum_from_fits 0 (words l) (omega arith) (words_fit l h)

-- modulo 65535 the sum is the plain sum of the words
pub sum_total : (l : List ℕ) → ones_sum l % 65535 ≡ word_total l % 65535
unfolding ones_sum word_total
sum_total l = omega (arith, sum_from_plain 0 (words l))

-- the sum is 0, and so the checksum FFFF, exactly where each octet is 0
pub sum_of_zeros : (l : List ℕ) → ((i : ℕ) → get_or l i 0 ≡ 0) → ones_sum l ≡ 0
unfolding ones_sum words sum_from
sum_of_zeros [] h = refl
sum_of_zeros (a ∷ []) h = rw (h 0)
sum_of_zeros (a ∷ b ∷ l) h = rw (h 0, h 1) (sum_of_zeros l (λ i. h (suc (suc i))))

pub zeros_of_sum : (l : List ℕ) → ones_sum l ≡ 0 → (i : ℕ) → get_or l i 0 ≡ 0
unfolding ones_sum
zeros_of_sum l e = words_zero l (sum_from_zero 0 (words l) e)

-- the element as zero adds nothing
pub blank_sum : (l : List ℕ) → Octets l → ones_sum (l ++ 0 ∷ 0 ∷ []) ≡ ones_sum l
unfolding ones_sum sum_from
blank_sum l h =
    let fits : sum_from 0 (words l) < 65536 = sum_fits l h in
    rw (words_blank l, sum_from_append 0 (words l) (0 ∷ [])) (omega arith)

-- the receiver's test of RFC 1071: whole words and their checksum behind them add up to all ones
pub receiver : (l : List ℕ) → Octets l → length l % 2 ≡ 0
    → ones_sum (l ++ checksum_of l / 256 ∷ checksum_of l % 256 ∷ []) ≡ 65535
unfolding ones_sum sum_from
receiver l h even =
    let fits : sum_from 0 (words l) < 65536 = sum_fits l h in
    let high : ℕ = checksum_of l / 256 in
    let low : ℕ = checksum_of l % 256 in
    rw (words_even l high low even, sum_from_append 0 (words l) (word high low ∷ [])) (omega arith)

take_octets : (n : ℕ) (l : List ℕ) → Octets l → Octets (take n l)
take_octets zero l h i = omega arith
take_octets (suc n) [] h i = omega arith
take_octets (suc n) (x ∷ l) h zero = h 0
take_octets (suc n) (x ∷ l) h (suc i) = take_octets n l (λ j. h (suc j)) i

-- the element is a 16-bit word
pub element_fits : (s : List ℕ) (at : ℕ) → element_of s at < 65536
unfolding element_of
element_fits s at = omega arith

-- the element is the checksum of the octets before it
pub element_before : (s : List ℕ) (at : ℕ) → Octets s → element_of s at ≡ checksum_of (take at s)
unfolding element_of
element_before s at h = rw (blank_sum (take at s) (take_octets at s h))

-- in l with two zeros behind it stands what `get_or` gives of l
blank_at : (l : List ℕ) (i : ℕ) → get_or (l ++ 0 ∷ 0 ∷ []) i 0 ≡ get_or l i 0
blank_at [] zero = refl
blank_at [] (suc zero) = refl
blank_at [] (suc (suc i)) = refl
blank_at (x ∷ l) zero = refl
blank_at (x ∷ l) (suc i) = blank_at l i

-- behind an octet that is not 0 the element is not FFFF
pub element_not_ones : (s : List ℕ) (at i : ℕ) → (get_or (take at s) i 0 ≡ 0 → ⊥) → element_of s at ≡ 65535 → ⊥
unfolding element_of
element_not_ones s at i some e =
    let none : ones_sum (take at s ++ 0 ∷ 0 ∷ []) ≡ 0 = omega arith in
    some (rw (blank_at (take at s) i) at (zeros_of_sum (take at s ++ 0 ∷ 0 ∷ []) none i))
