-- The sum of a message with its checksum as zero, from the octets as they stand: the word before the checksum added to the sum of what stands
-- behind it, since ones' complement addition is associative (RFC 1071, 2 (A)) and a zero word adds nothing. Assumes nothing.
use Prim.Native.Nat.{ℕ, zero, suc, ◌+◌, ◌*◌, ◌-◌, ◌%◌, ◌≤◌, ◌<◌}
use mathlib.Core.Path.{◌≡◌, refl, ap, sym, ◌∙◌}
use mathlib.Core.List.{List, [], ◌∷◌}
use native.Mathlib.Omega.{arith}
use lib.ListN.{get_or, length, take, drop, length-drop}
use lib.Seq.{take_all}
use Rattle.octets.specs.Octets.{number}
use Rattle.checksum.specs.Sum.{words, around, sum_from, ones_sum, checksum_of}
use Rattle.checksum.proofs.Words.{Octets, words_fit, sum_from_fits}
use Rattle.echo.specs.Message.{unsummed}

-- ---- a carry brought round

-- r is the sum of two words a and b with the carry brought round: a word, the same modulo 65535, and 0 only where both are
record Carried (a b r : ℕ) : Type 0 where
  fits : r < 65536
  alike : r % 65535 ≡ (a + b) % 65535
  zero_of : r ≡ 0 → a + b ≡ 0
  of_zero : a + b ≡ 0 → r ≡ 0

carried : (a b : ℕ) → a < 65536 → b < 65536 → Carried a b (around (a + b))
carried a b p q = record { fits = omega arith; alike = omega arith; zero_of = λ z. omega arith; of_zero = λ z. omega arith }

-- the same modulo 65535 with a third word
third : (l p v w x : ℕ) → l % 65535 ≡ (p + x) % 65535 → p % 65535 ≡ (v + w) % 65535 → l % 65535 ≡ (v + w + x) % 65535
third l p v w x h k = omega arith

-- two words that are the same modulo 65535, and 0 together, are the same
same_word : (x y : ℕ) → x < 65536 → y < 65536 → x % 65535 ≡ y % 65535 → (x ≡ 0 → y ≡ 0) → (y ≡ 0 → x ≡ 0) → x ≡ y
same_word zero y a b e p q = sym (p refl)
same_word (suc x) zero a b e p q = q refl
same_word (suc x) (suc y) a b e p q = omega arith

module _ (v w x p q l r : ℕ) (vw : Carried v w p) (px : Carried p x l) (wx : Carried w x q) (vq : Carried v q r) where
  left_zero : l ≡ 0 → r ≡ 0
  left_zero z =
      let a = px.zero_of z in
      let b = vw.zero_of (omega (arith, a)) in
      vq.of_zero (omega (arith, b, wx.of_zero (omega (arith, a, b))))

  right_zero : r ≡ 0 → l ≡ 0
  right_zero z =
      let a = vq.zero_of z in
      let b = wx.zero_of (omega (arith, a)) in
      px.of_zero (omega (arith, b, vw.of_zero (omega (arith, a, b))))

  both_ways : l ≡ r
  both_ways =
      let left = third l p v w x px.alike vw.alike in
      let right = third r q w x v (omega (arith, vq.alike)) wx.alike in
      same_word l r px.fits vq.fits (omega (arith, left, right)) left_zero right_zero

around_assoc : (v w x : ℕ) → v < 65536 → w < 65536 → x < 65536 → around (around (v + w) + x) ≡ around (v + around (w + x))
around_assoc v w x a b c =
    let vw = carried v w a b in
    let wx = carried w x b c in
    both_ways v w x _ _ _ _ vw (carried (around (v + w)) x vw.fits c) wx (carried v (around (w + x)) a wx.fits)

-- a sum that starts at a word is that word added to the sum that starts at 0
from_word : (v : ℕ) (ws : List ℕ) → v < 65536 → ((i : ℕ) → get_or ws i 0 < 65536) → sum_from v ws ≡ around (v + sum_from 0 ws)
unfolding sum_from
from_word v [] fits h = omega arith
from_word v (w ∷ ws) fits h =
    let first : w < 65536 = h 0 in
    let rest : sum_from 0 ws < 65536 = sum_from_fits 0 ws (omega arith) (λ i. h (suc i)) in
    let start : around (0 + w) ≡ w = omega arith in
    let here = from_word (around (v + w)) ws (omega arith) (λ i. h (suc i)) in
    let there = from_word w ws first (λ i. h (suc i)) in
    rw (start, there) (here ∙ around_assoc v w (sum_from 0 ws) fits first rest)

pub unsummed_sum : (s : List ℕ) → Octets s → 4 ≤ length s → ones_sum (unsummed s) ≡ around (number s 0 2 + ones_sum (drop 4 s))
unfolding ones_sum words sum_from number
unsummed_sum [] h k = absurd (omega arith)
unsummed_sum (a ∷ []) h k = absurd (omega arith)
unsummed_sum (a ∷ b ∷ []) h k = absurd (omega arith)
unsummed_sum (a ∷ b ∷ c ∷ []) h k = absurd (omega arith)
unsummed_sum (a ∷ b ∷ c ∷ d ∷ l) h k =
    let rest : (i : ℕ) → get_or (words l) i 0 < 65536 = words_fit l (λ j. h (suc (suc (suc (suc j))))) in
    let v : ℕ = a * 256 + b in
    let fits : v < 65536 = omega (arith, h 0, h 1) in
    let start : around (around (0 + v) + (0 * 256 + 0)) ≡ v = omega arith in
    let pair : number (a ∷ b ∷ c ∷ d ∷ l) 0 2 ≡ v = omega arith in
    ap (λ (x : ℕ). sum_from x (words l)) start ∙ (from_word v (words l) fits rest ∙ ap (λ (x : ℕ). around (x + sum_from 0 (words l))) (sym pair))

-- what `sum_asked` answers
pub asked : (s : List ℕ) (before behind sum : ℕ) → Octets s → 4 ≤ length s → before ≡ number s 0 2 → behind ≡ ones_sum (take (length s - 4) (drop 4 s))
    → sum ≡ around (before + behind) → 65535 - sum ≡ checksum_of (unsummed s)
asked s before behind sum octets long p q e =
    let part : take (length s - 4) (drop 4 s) ≡ drop 4 s = take_all (length s - 4) (drop 4 s) (rw (length-drop 4 s) (omega arith)) in
    rw (unsummed_sum s octets long, e, p, q, part)
