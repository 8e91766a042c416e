-- What the accessors of include/harpjuniper.h read out of a number that was put together of parts: each part itself, where it fits its place.
-- Assumes nothing.
use native.Mathlib.Omega.{arith}
use native.Mathlib.Nat.{div-eq_of_lt, mod-eq_of_lt}
use Prim.Native.Nat.{ℕ, ◌+◌, ◌*◌, ◌/◌, ◌%◌, ◌^◌, ◌<◌}
use mathlib.Core.Path.{◌≡◌, ap, ◌∙◌}
use lib.Arith.{digits_div, digits_mod}
use Rattle.checks.specs.Answer.{refusal_number}
use Rattle.verdict.specs.Numbers.{onward_number}
use Rattle.verdict.specs.declared.Ruling.{Ruling}
use Rattle.answers.specs.Answers.{ruling_parts, header_parts, reply_number, part_at, wide_at, refusal_in, slot_in, precedence_in, value_in}

pub digit : (n q x r : ℕ) {m k : ℕ} → n ≡ (q * k + x) * m + r → r < m → x < k → n / m % k ≡ x
digit n q x r {m} {k} e h l = ap (λ y. y / m % k) e ∙ ap (λ y. y % k) (digits_div (q * k + x) h) ∙ digits_mod q l

-- ---- receiving
-- eight parts, each of eight bits
pub record Eight (n a b c d f g h k : ℕ) : Type 0 where
  pub at_0 : part_at 0 n ≡ a
  pub at_8 : part_at 8 n ≡ b
  pub at_16 : part_at 16 n ≡ c
  pub at_24 : part_at 24 n ≡ d
  pub at_32 : part_at 32 n ≡ f
  pub at_40 : part_at 40 n ≡ g
  pub at_48 : part_at 48 n ≡ h
  pub at_56 : part_at 56 n ≡ k
  pub above : n / 2 ^ 64 ≡ 0

pub eight : (a b c d f g h k : ℕ) → a < 256 → b < 256 → c < 256 → d < 256 → f < 256 → g < 256 → h < 256 → k < 256
    → Eight (header_parts (ruling_parts a b c d f) g h k) a b c d f g h k
unfolding ruling_parts header_parts
eight a b c d f g h k a-low b-low c-low d-low f-low g-low h-low k-low =
    let n = header_parts (ruling_parts a b c d f) g h k in
    record {
      at_0 = digit n (b + c * 2 ^ 8 + d * 2 ^ 16 + f * 2 ^ 24 + g * 2 ^ 32 + h * 2 ^ 40 + k * 2 ^ 48) a 0 (omega arith) (omega arith) a-low;
      at_8 = digit n (c + d * 2 ^ 8 + f * 2 ^ 16 + g * 2 ^ 24 + h * 2 ^ 32 + k * 2 ^ 40) b a (omega arith) (omega arith) b-low;
      at_16 = digit n (d + f * 2 ^ 8 + g * 2 ^ 16 + h * 2 ^ 24 + k * 2 ^ 32) c (a + b * 2 ^ 8) (omega arith) (omega arith) c-low;
      at_24 = digit n (f + g * 2 ^ 8 + h * 2 ^ 16 + k * 2 ^ 24) d (a + b * 2 ^ 8 + c * 2 ^ 16) (omega arith) (omega arith) d-low;
      at_32 = digit n (g + h * 2 ^ 8 + k * 2 ^ 16) f (a + b * 2 ^ 8 + c * 2 ^ 16 + d * 2 ^ 24) (omega arith) (omega arith) f-low;
      at_40 = digit n (h + k * 2 ^ 8) g (ruling_parts a b c d f) (omega arith) (omega arith) g-low;
      at_48 = digit n k h (ruling_parts a b c d f + g * 2 ^ 40) (omega arith) (omega arith) h-low;
      at_56 = digit n 0 k (ruling_parts a b c d f + g * 2 ^ 40 + h * 2 ^ 48) (omega arith) (omega arith) k-low;
      above = div-eq_of_lt (omega arith);
    }

-- ---- answering an echo request: four parts of eight bits, nothing between the first two, and the octets of the reply
pub record ReplyRead (n refusal onward took dropped octets : ℕ) : Type 0 where
  pub at_0 : part_at 0 n ≡ refusal
  pub at_8 : part_at 8 n ≡ 0
  pub at_16 : part_at 16 n ≡ onward
  pub at_24 : part_at 24 n ≡ took
  pub at_32 : part_at 32 n ≡ dropped
  pub wide : wide_at 40 n ≡ octets
  pub above : n / 2 ^ 64 ≡ 0

two_octets : (below octets : ℕ) → below < 2 ^ 40 → octets < 65536 → wide_at 40 (header_parts below (octets % 256) (octets / 256 % 256) 0) ≡ octets
unfolding header_parts
two_octets below octets low h = digit (header_parts below (octets % 256) (octets / 256 % 256) 0) 0 octets below (omega arith) low h

five_low : (a c d f : ℕ) → a < 256 → c < 256 → d < 256 → f < 256 → ruling_parts a 0 c d f < 2 ^ 40
unfolding ruling_parts
five_low a c d f a-low c-low d-low f-low = omega arith

pub reply_read :
    (refusal : ℕ) (x : Ruling) (octets : ℕ) → refusal < 256 → onward_number x.onward < 256 → x.took < 256 → x.dropped < 256 → octets < 65536
    → ReplyRead (reply_number refusal x octets) refusal (onward_number x.onward) x.took x.dropped octets
unfolding reply_number
reply_read refusal x octets refusal_low onward_low took-low dropped-low octets_low =
    let a = refusal % 256 in
    let c = onward_number x.onward % 256 in
    let d = x.took % 256 in
    let f = x.dropped % 256 in
    let low : (n : ℕ) → n % 256 < 256 = λ n. omega arith in
    let e = eight a 0 c d f (octets % 256) (octets / 256 % 256) 0 (low refusal) (omega arith) (low (onward_number x.onward)) (low x.took) (low x.dropped) (low octets) (low (octets / 256)) (omega arith) in
    record {
      at_0 = e.at_0 ∙ mod-eq_of_lt refusal_low;
      at_8 = e.at_8;
      at_16 = e.at_16 ∙ mod-eq_of_lt onward_low;
      at_24 = e.at_24 ∙ mod-eq_of_lt took-low;
      at_32 = e.at_32 ∙ mod-eq_of_lt dropped-low;
      wide = two_octets (ruling_parts a 0 c d f) octets (five_low a c d f (low refusal) (low (onward_number x.onward)) (low x.took) (low x.dropped)) octets_low;
      above = e.above;
    }

-- ---- taking
pub record Three (n a b c : ℕ) : Type 0 where
  pub refusal : refusal_in n ≡ a
  pub slot : slot_in n ≡ b
  pub precedence : precedence_in n ≡ c

-- the precedence above the slot
pub entry_parts : (slot precedence : ℕ) → slot < 65536 → precedence < 65536 → Three (precedence * 2 ^ 16 + slot) 0 slot precedence
entry_parts slot precedence s p =
    let n = precedence * 2 ^ 16 + slot in
    record {
      refusal = digit n 0 0 n (omega arith) (omega arith) (omega arith);
      slot = digits_mod precedence s;
      precedence = digit n 0 precedence slot (omega arith) s p;
    }

pub refusal_parts : (m : ℕ) → m < 2 ^ 32 → Three (refusal_number m) m 0 0
refusal_parts m h =
    let n = refusal_number m in
    record {
      refusal = digit n 0 m 0 (omega arith) (omega arith) h;
      slot = omega arith;
      precedence = digit n m 0 0 (omega arith) (omega arith) (omega arith);
    }

-- ---- a value, or a refusal above it
pub record Two (n a b : ℕ) : Type 0 where
  pub refusal : refusal_in n ≡ a
  pub value : value_in n ≡ b

pub value_parts : (n : ℕ) → n < 2 ^ 32 → Two n 0 n
value_parts n h = record { refusal = digit n 0 0 n (omega arith) h (omega arith); value = mod-eq_of_lt h }

pub refusal_above : (m : ℕ) → m < 2 ^ 32 → Two (refusal_number m) m 0
refusal_above m h = record { refusal = (refusal_parts m h).refusal; value = omega arith }
