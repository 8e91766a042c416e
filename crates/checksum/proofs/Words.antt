-- What the sum of a list of words keeps, and what the words of octets are where the list grows or is cut: the steps behind
-- `Laws` and `TwoAtOnce`. Each follows the recursion of `words`, two octets at a time, or of `sum_from`.
-- Assumes nothing.
use Prim.Native.Nat.{ℕ, zero, suc, ◌+◌, ◌*◌, ◌%◌, ◌<◌}
use mathlib.Core.Path.{◌≡◌, refl, ap}
use mathlib.Core.List.{List, [], ◌∷◌, ◌++◌}
use native.Mathlib.Omega.{arith}
use lib.ListN.{get_or, length, drop}
use lib.Seq.{drop-cons}
use Rattle.checksum.specs.Sum.{word, words, around, sum_from}

-- a list of octets
abbrev pub Octets : List ℕ → Type 0
Octets l = (i : ℕ) → get_or l i 0 < 256

-- the plain sum of numbers, no carry brought round
unfoldable pub plain : List ℕ → ℕ
plain [] = 0
plain (w ∷ ws) = w + plain ws

pub words_fit : (l : List ℕ) → Octets l → (i : ℕ) → get_or (words l) i 0 < 65536
unfolding words
words_fit [] h i = omega arith
words_fit (a ∷ []) h zero = omega (arith, h 0)
words_fit (a ∷ []) h (suc i) = omega arith
words_fit (a ∷ b ∷ l) h zero = omega (arith, h 0, h 1)
words_fit (a ∷ b ∷ l) h (suc i) = words_fit l (λ j. h (suc (suc j))) i

pub words_zero : (l : List ℕ) → ((i : ℕ) → get_or (words l) i 0 ≡ 0) → (i : ℕ) → get_or l i 0 ≡ 0
unfolding words
words_zero [] h i = refl
words_zero (a ∷ []) h zero = omega (arith, h 0)
words_zero (a ∷ []) h (suc i) = refl
words_zero (a ∷ b ∷ l) h zero = omega (arith, h 0)
words_zero (a ∷ b ∷ l) h (suc zero) = omega (arith, h 0)
words_zero (a ∷ b ∷ l) h (suc (suc i)) = words_zero l (λ j. h (suc j)) i

-- two zero octets are one zero word more, also where they straddle two words
pub words_blank : (l : List ℕ) → words (l ++ 0 ∷ 0 ∷ []) ≡ words l ++ 0 ∷ []
unfolding words
words_blank [] = refl
words_blank (a ∷ []) = refl
words_blank (a ∷ b ∷ l) = ap (λ (ws : List ℕ). word a b ∷ ws) (words_blank l)

-- behind whole words any two octets are one word more
pub words_even : (l : List ℕ) (a b : ℕ) → length l % 2 ≡ 0 → words (l ++ a ∷ b ∷ []) ≡ words l ++ word a b ∷ []
unfolding words
words_even [] a b even = refl
words_even (x ∷ []) a b even = absurd (omega arith)
words_even (x ∷ y ∷ l) a b even = ap (λ (ws : List ℕ). word x y ∷ ws) (words_even l a b (omega arith))

pub sum_from_append : (v : ℕ) (xs ys : List ℕ) → sum_from v (xs ++ ys) ≡ sum_from (sum_from v xs) ys
unfolding sum_from
sum_from_append v [] ys = refl
sum_from_append v (x ∷ xs) ys = sum_from_append (around (v + x)) xs ys

pub sum_from_fits : (v : ℕ) (ws : List ℕ) → v < 65536 → ((i : ℕ) → get_or ws i 0 < 65536) → sum_from v ws < 65536
unfolding sum_from
sum_from_fits v [] fits h = fits
sum_from_fits v (w ∷ ws) fits h = sum_from_fits (around (v + w)) ws (omega (arith, h 0)) (λ i. h (suc i))

-- 65536 is 1 more than 65535: a carry brought round changes nothing modulo 65535
pub sum_from_plain : (v : ℕ) (ws : List ℕ) → sum_from v ws % 65535 ≡ (v + plain ws) % 65535
unfolding sum_from plain
sum_from_plain v [] = omega arith
sum_from_plain v (w ∷ ws) = omega (arith, sum_from_plain (around (v + w)) ws)

-- a sum is 0 only where it starts at 0 and each word is 0
sum_from_start : (v : ℕ) (ws : List ℕ) → sum_from v ws ≡ 0 → v ≡ 0
unfolding sum_from
sum_from_start v [] e = e
sum_from_start v (w ∷ ws) e = omega (arith, sum_from_start (around (v + w)) ws e)

pub sum_from_zero : (v : ℕ) (ws : List ℕ) → sum_from v ws ≡ 0 → (i : ℕ) → get_or ws i 0 ≡ 0
unfolding sum_from
sum_from_zero v [] e i = refl
sum_from_zero v (w ∷ ws) e zero = omega (arith, sum_from_start (around (v + w)) ws e)
sum_from_zero v (w ∷ ws) e (suc i) = sum_from_zero (around (v + w)) ws e i

-- a plain sum is 0 where each word is, and then so is the sum
pub plain_zero : (ws : List ℕ) → ((i : ℕ) → get_or ws i 0 ≡ 0) → plain ws ≡ 0
unfolding plain
plain_zero [] h = refl
plain_zero (w ∷ ws) h = omega (arith, h 0, plain_zero ws (λ i. h (suc i)))

pub sum_from_none : (ws : List ℕ) → plain ws ≡ 0 → sum_from 0 ws ≡ 0
unfolding plain sum_from
sum_from_none [] h = refl
sum_from_none (w ∷ ws) h =
    let e : w ≡ 0 = omega arith in
    let rest : plain ws ≡ 0 = omega arith in
    rw e (sum_from_none ws rest)

-- what is left of l from its octet 4 * i on, where four octets or more are left
pub plain_four : (l : List ℕ) (i : ℕ) → 4 * i + 3 < length l
    → plain (words (drop (4 * i) l))
    ≡ word (get_or l (4 * i) 0) (get_or l (4 * i + 1) 0) + (word (get_or l (4 * i + 2) 0) (get_or l (4 * i + 3) 0) + plain (words (drop (4 * (i + 1)) l)))
unfolding words plain
plain_four l i h =
    let n : ℕ = 4 * i in
    let e : 4 * (i + 1) ≡ suc (suc (suc (suc n))) = omega arith in
    let e₁ : n + 1 ≡ suc n = omega arith in
    let e₂ : n + 2 ≡ suc (suc n) = omega arith in
    let e₃ : n + 3 ≡ suc (suc (suc n)) = omega arith in
    rw
    (e, e₁, e₂, e₃, drop-cons l n 0 (omega arith), drop-cons l (suc n) 0 (omega arith), drop-cons l (suc (suc n)) 0 (omega arith), drop-cons l (suc (suc (suc n))) 0 (omega arith))
