-- The bits of a number, the lowest first: bit p of n is n / 2 ^ p % 2. What the bits of `&`, `|` and `!` are, and that the bits are the
-- number. Assumes nothing.
use native.Mathlib.Omega.{arith}
use Prim.Native.Nat.{ℕ, zero, suc, ◌+◌, ◌-◌, ◌*◌, ◌/◌, ◌%◌, ◌^◌, ◌<◌, ◌≤◌, min, max}
use native.Mathlib.Nat.{mod-lt, mod-one, mod-eq_of_lt, div-eq_of_lt, zero-lt-suc, lt_of_lt_of_le}
use native.Mathlib.Numerals.{one-add}
use mathlib.Core.Path.{◌≡◌, refl, sym, ap, ap₂, subst, ◌∙◌}
use lib.Arith.{digits_mod}
use lib.Pow.{pow_pos, pow_mono, mod-pow-add, ones_split, ones_lt, high}
use lib.Bits.{bit_and, bit_or, bit_xor, differ, and_step, or_step, xor_step, and_shr, or_shr, xor_shr, and_mask, xor_add_and}

abbrev pub bit : ℕ → ℕ → ℕ
bit p n = n / 2 ^ p % 2

pub bit_small : (p n : ℕ) → bit p n < 2
bit_small p n = mod-lt (n / 2 ^ p) (zero-lt-suc 1)

-- the last digit of what stands under a bit
last : {n r : ℕ} (q : ℕ) → n ≡ q * 2 + r → r < 2 → n % 2 ≡ r
last q e h = ap (λ (x : ℕ). x % 2) e ∙ digits_mod q h

-- A bit of what an operation makes is made of the operands' bits.
pub and_bit : (p a b : ℕ) → bit p (bit_and a b) ≡ min (bit p a) (bit p b)
and_bit p a b = last _ (and_shr a b p ∙ and_step (a / 2 ^ p) (b / 2 ^ p)) (omega (arith, bit_small p a, bit_small p b))

pub or_bit : (p a b : ℕ) → bit p (bit_or a b) ≡ max (bit p a) (bit p b)
or_bit p a b = last _ (or_shr a b p ∙ or_step (a / 2 ^ p) (b / 2 ^ p)) (omega (arith, bit_small p a, bit_small p b))

ones_at : (i p : ℕ) → bit p (2 ^ (suc i + p) - 1) ≡ 1
ones_at i p = ap (λ (n : ℕ). n / 2 ^ p % 2) (ones_split (suc i) p) ∙ ap (λ (n : ℕ). n % 2) (high _ p (ones_lt p)) ∙ omega (arith, pow_pos i)

-- Of k ones each bit below k is one.
pub ones_bit : (k p : ℕ) → p < k → bit p (2 ^ k - 1) ≡ 1
ones_bit k p h =
    let all : suc (k - p - 1) + p ≡ k = omega arith in
    subst (λ (n : ℕ). bit p (2 ^ n - 1) ≡ 1) all (ones_at (k - p - 1) p)

-- Of a number below 2 ^ k each bit from k on is zero.
pub high_bit : (k p n : ℕ) → n < 2 ^ k → k ≤ p → bit p n ≡ 0
high_bit k p n h l = ap (λ (q : ℕ). q % 2) (div-eq_of_lt (lt_of_lt_of_le h (pow_mono l)))

turned : (x : ℕ) → x < 2 → (differ x 1 ≡ 1 - x) × (differ x 1 < 2)
turned zero h = (refl, omega arith)
turned (suc zero) h = (refl, omega arith)
turned (suc (suc x)) h = absurd (omega arith)

-- Among k bits the complement turns each.
pub not_bit : (k p m : ℕ) → m < 2 ^ k → p < k → bit p (2 ^ k - 1 - m) ≡ 1 - bit p m
not_bit k p m h l =
    let other : 2 ^ k - 1 - m ≡ bit_xor m (2 ^ k - 1) = omega (arith, xor_add_and m (2 ^ k - 1), and_mask m k, mod-eq_of_lt h, pow_pos k) in
    let one : differ (bit p m) (bit p (2 ^ k - 1)) ≡ differ (bit p m) 1 = ap (differ (bit p m)) (ones_bit k p l) in
    let t = turned (bit p m) (bit_small p m) in
    ap (bit p) other ∙ last _ (xor_shr m _ p ∙ xor_step (m / 2 ^ p) _) (omega arith) ∙ one ∙ t.0

-- two numbers whose k lowest bits are the same are the same below 2 ^ k
same_below : (k a b : ℕ) → ((p : ℕ) → p < k → bit p a ≡ bit p b) → a % 2 ^ k ≡ b % 2 ^ k
same_below zero a b e = mod-one a ∙ sym (mod-one b)
same_below (suc k) a b e =
    subst (λ (i : ℕ). a % 2 ^ i ≡ b % 2 ^ i) (one-add k)
    (mod-pow-add a 1 k
    ∙ ap₂ (λ (x y : ℕ). x * 2 ^ k + y) (e k (omega arith)) (same_below k a b (λ p h. e p (omega arith)))
    ∙ sym (mod-pow-add b 1 k))

-- So the bits are the number.
pub same_bits : (k a b : ℕ) → a < 2 ^ k → b < 2 ^ k → ((p : ℕ) → p < k → bit p a ≡ bit p b) → a ≡ b
same_bits k a b ha hb e = sym (mod-eq_of_lt ha) ∙ same_below k a b e ∙ mod-eq_of_lt hb
