-- What the functions answer, said over plain variables: one law a return. Assumes nothing.
use native.Mathlib.Omega.{arith}
use Prim.Native.Nat.{ℕ, ◌+◌, ◌-◌, ◌≤◌, ◌<◌}
use mathlib.Core.Path.{◌≡◌, refl, sym, ◌∙◌}
use mathlib.Core.List.{List, [], ◌++◌, append_assoc, append-nil}
use mathlib.Core.Bool.{Bool, true, false, not, ◌&&◌, ◌||◌}
use lib.ListN.{length, take, drop, length-append, length-drop}
use lib.Seq.{take-length, drop-length, length-take-le, drop-drop}
use lib.Dec.{eqb, ltb}
use borrow.Author.Tests.{ltb-false, lt-ltb, le-ltb, ne_eqb}
use borrow.Rule.Slice.PartMut.{put_mid, same_len_mid}
use Rattle.checks.specs.Order.{check_of, first_of}
use Rattle.checks.specs.declared.Check.{Check}
use Rattle.checks.specs.declared.Check.TheVariants.{Passed, Failed}
use Rattle.checks.proofs.Bools.{true_false}
use Rattle.checks.proofs.Laws.{passed_false, failed_true}
use Rattle.octets.specs.Octets.{octets, pasted, fronted}
use Rattle.octets.proofs.Laws.{length_octets, pasted_front, pasted_on, take_front, Put, PutNumber, put_one, put_two, put_none}
use Rattle.checksum.specs.Sum.{checksum_of}
use Rattle.header.specs.Limits.{too_much_data}
use Rattle.echo.specs.Message.{reply_size, fixed_size, type_of, seen_octets, kind_octets, fixed_octets, sum_of, message_octets, is_request_type, is_reply_type, other_type, cut_reply}
use Rattle.echo.specs.Built.{size_with, build_checks, built_of, built_output}
use Rattle.echo.specs.declared.Seen.{Seen}
use Rattle.echo.specs.declared.Kind.{Kind}
use Rattle.echo.specs.declared.Kind.TheVariants.{Request, Reply}
use Rattle.echo.specs.declared.Message.{Message}

-- ---- the tests of type and code, a the type and b the code

and_none : (t : Bool) → (t && false) ≡ false
and_none true = refl
and_none false = refl

module _ (a b : ℕ) where
  pub other_code : (b ≡ 0 → ⊥) → Failed ≡ check_of (not ((eqb a 8 || eqb a 0) && eqb b 0))
  other_code h = rw (ne_eqb b 0 h, and_none (eqb a 8 || eqb a 0))

  pub is_request : b ≡ 0 → a ≡ 8 → Passed ≡ check_of (not ((eqb a 8 || eqb a 0) && eqb b 0))
  is_request code type = rw (code, type)

  pub is_reply_lem : b ≡ 0 → a ≡ 0 → Passed ≡ check_of (not ((eqb a 8 || eqb a 0) && eqb b 0))
  is_reply_lem code type = rw (code, type)

  pub is_other : (a ≡ 8 → ⊥) → (a ≡ 0 → ⊥) → Failed ≡ check_of (not ((eqb a 8 || eqb a 0) && eqb b 0))
  is_other p q = rw (ne_eqb a 8 p, ne_eqb a 0 q)

-- a type that is neither is refused, so what is no request is a reply
no_request : (t u v : Bool) → not ((t || u) && v) ≡ false → t ≡ false → u ≡ true
no_request true u v h e = true_false e
no_request false true v h e = refl
no_request false false v h e = true_false h

reply_whole : (u w : Bool) → (u && w) ≡ false → u ≡ true → w ≡ false
reply_whole true w h e = h
reply_whole false w h e = true_false (sym e)

-- ---- reading

-- what is no request has the fixed part of a reply
pub reply-room : (s : List ℕ) → check_of (other_type s) ≡ Passed → check_of (cut_reply s) ≡ Passed → is_request_type s ≡ false → reply_size ≤ length s
reply-room s type whole e =
    let reply = no_request (is_request_type s) (is_reply_type s) _ (passed_false (other_type s) type) e in
    ltb-false (length s) 26 (reply_whole (is_reply_type s) _ (passed_false (cut_reply s) whole) reply)

-- ---- writing

pub kind_length : (k : Kind) → 8 + length (kind_octets k) ≡ fixed_size k
unfolding seen_octets
kind_length Request = refl
kind_length (Reply s) = simp (length-append, length_octets)

pub seen_length : (s : Seen) → length (seen_octets s) ≡ 18
unfolding seen_octets
seen_length s = simp (length-append, length_octets)

pub fixed_length : (m : Message) (sum : ℕ) → length (fixed_octets m sum) ≡ fixed_size m.kind
unfolding fixed_octets
fixed_length m sum = simp (length-append, length_octets) (omega (arith, kind_length m.kind))

pub seen_put : (s : Seen) (l m₁ m₂ m₃ m₄ m₅ : List ℕ) (at r₁ r₂ r₃ r₄ r₅ : ℕ) → PutNumber l m₁ at r₁ 1 s.hops → PutNumber m₁ m₂ r₁ r₂ 1 s.format
    → PutNumber m₂ m₃ r₂ r₃ 8 s.stamp → PutNumber m₃ m₄ r₃ r₄ 4 s.mtu → PutNumber m₄ m₅ r₄ r₅ 4 s.rate → at + 18 ≤ length l
    → (r₅ ≡ at + 18) × (m₅ ≡ pasted l at (seen_octets s))
unfolding seen_octets
seen_put s l m₁ m₂ m₃ m₄ m₅ at r₁ r₂ r₃ r₄ r₅ p₁ p₂ p₃ p₄ p₅ h =
    let q₁ = put_one l m₁ at 1 s.hops r₁ p₁ in
    let q₂ = put_two l m₁ m₂ _ _ at r₁ r₂ q₁ (put_one m₁ m₂ r₁ 1 s.format r₂ p₂) (simp (length_octets) (omega arith)) in
    let q₃ = put_two l m₂ m₃ _ _ at r₂ r₃ q₂ (put_one m₂ m₃ r₂ 8 s.stamp r₃ p₃) (simp (length-append, length_octets) (omega arith)) in
    let q₄ = put_two l m₃ m₄ _ _ at r₃ r₄ q₃ (put_one m₃ m₄ r₃ 4 s.mtu r₄ p₄) (simp (length-append, length_octets) (omega arith)) in
    let q₅ = put_two l m₄ m₅ _ _ at r₄ r₅ q₄ (put_one m₄ m₅ r₄ 4 s.rate r₅ p₅) (simp (length-append, length_octets) (omega arith)) in
    (omega (arith, p₁.0, p₂.0, p₃.0, p₄.0, p₅.0), (simp append_assoc at q₅).1)

pub fixed_put : (m : Message) (l m₁ m₂ m₃ m₄ m₅ m₆ : List ℕ) (t r₁ r₂ r₃ r₄ r₅ r₆ : ℕ) → t ≡ type_of m.kind → PutNumber l m₁ 0 r₁ 1 t → PutNumber m₁ m₂ r₁ r₂ 1 0
    → PutNumber m₂ m₃ r₂ r₃ 2 0 → PutNumber m₃ m₄ r₃ r₄ 2 m.identifier → PutNumber m₄ m₅ r₄ r₅ 2 m.sequence → Put m₅ m₆ r₅ r₆ (kind_octets m.kind)
    → fixed_size m.kind ≤ length l → (r₆ ≡ fixed_size m.kind) × (m₆ ≡ pasted l 0 (fixed_octets m 0))
unfolding fixed_octets
fixed_put m l m₁ m₂ m₃ m₄ m₅ m₆ t r₁ r₂ r₃ r₄ r₅ r₆ e p₁ p₂ p₃ p₄ p₅ p₆ h =
    let k = kind_length m.kind in
    let q₁ = put_one l m₁ 0 1 t r₁ p₁ in
    let q₂ = put_two l m₁ m₂ _ _ 0 r₁ r₂ q₁ (put_one m₁ m₂ r₁ 1 0 r₂ p₂) (simp (length_octets) (omega arith)) in
    let q₃ = put_two l m₂ m₃ _ _ 0 r₂ r₃ q₂ (put_one m₂ m₃ r₂ 2 0 r₃ p₃) (simp (length-append, length_octets) (omega arith)) in
    let q₄ = put_two l m₃ m₄ _ _ 0 r₃ r₄ q₃ (put_one m₃ m₄ r₃ 2 m.identifier r₄ p₄) (simp (length-append, length_octets) (omega arith)) in
    let q₅ = put_two l m₄ m₅ _ _ 0 r₄ r₅ q₄ (put_one m₄ m₅ r₄ 2 m.sequence r₅ p₅) (simp (length-append, length_octets) (omega arith)) in
    let q₆ = put_two l m₅ m₆ _ _ 0 r₅ r₆ q₅ p₆ (simp (length-append, length_octets) (omega arith)) in
    (omega (arith, p₁.0, p₂.0, p₃.0, p₄.0, p₅.0, p₆.0), rw (← e) (simp append_assoc at q₆).1)

-- what a kind adds: nothing to a request, what was seen to a reply
pub kind_none : (k : Kind) (l : List ℕ) (at : ℕ) → k ≡ Request → Put l l at at (kind_octets k)
kind_none k l at e = rw e (put_none l at)

pub kind_room : (k : Kind) (s : Seen) (at n : ℕ) → k ≡ Reply s → at + length (kind_octets k) ≤ n → at + 18 ≤ n
kind_room k s at n e h = omega (arith, seen_length s, rw e at h)

pub kind_seen : (k : Kind) (s : Seen) (l m : List ℕ) (at r : ℕ) → k ≡ Reply s → (r ≡ at + 18) × (m ≡ pasted l at (seen_octets s)) → Put l m at r (kind_octets k)
kind_seen k s l m at r e p = rw e (omega (arith, p.0, seen_length s), p.1)

-- the data behind the fixed part, n octets of them
module _ (l : List ℕ) (from n : ℕ) (mid : List ℕ) where
  module _ (as_many : length mid ≡ length (take (from + n - from) (drop from l))) where
    pub mid_length : length (put_mid from (from + n - from) l mid) ≡ length l
    mid_length = same_len_mid from (from + n - from) l mid as_many

    pub mid_room : from + n ≤ length l → from + n ≡ length (take (from + n) (put_mid from (from + n - from) l mid))
    mid_room h = sym (length-take-le (from + n) (put_mid from (from + n - from) l mid) (rw mid_length h))

  pub mid_put : (echoed : List ℕ) → length echoed ≡ n → from + n ≤ length l → mid ≡ take n echoed ++ drop n (take (from + n - from) (drop from l))
      → put_mid from (from + n - from) l mid ≡ pasted l from echoed
  unfolding pasted
  mid_put echoed e h is =
      let k : from + n - from ≡ n = omega arith in
      let all : take n echoed ≡ echoed = rw (← e) (take-length echoed) in
      let part : length (take n (drop from l)) ≡ n = length-take-le n (drop from l) (rw (length-drop from l) (omega arith)) in
      let none : drop n (take n (drop from l)) ≡ [] = rw part at (drop-length (take n (drop from l))) in
      rw (k, drop-drop n from l, e, is, k, all, none, append-nil echoed)

-- the checksum over its field
field_put : (m : Message) (sum : ℕ) (echoed rest : List ℕ)
    → pasted ((fixed_octets m 0 ++ echoed) ++ rest) 2 (octets 2 sum) ≡ (fixed_octets m sum ++ echoed) ++ rest
unfolding pasted fixed_octets octets
field_put m sum echoed rest = refl

pub message_length : (m : Message) (sum : ℕ) (echoed : List ℕ) → length (fixed_octets m sum ++ echoed) ≡ fixed_size m.kind + length echoed
message_length m sum echoed = rw (length-append (fixed_octets m sum) echoed, fixed_length m sum)

pub written : (m : Message) (echoed l l₁ l₂ l₃ : List ℕ) (from sum : ℕ) → from ≡ fixed_size m.kind → fixed_size m.kind + length echoed ≤ length l
    → l₁ ≡ pasted l 0 (fixed_octets m 0) → l₂ ≡ pasted l₁ from echoed → sum ≡ checksum_of (take (from + length echoed) l₂) → l₃ ≡ pasted l₂ 2 (octets 2 sum)
    → l₃ ≡ fronted (message_octets m echoed) l
unfolding message_octets sum_of
written m echoed l l₁ l₂ l₃ from sum ef room e₁ e₂ es e₃ =
    let front = fixed_octets m 0 in
    let size = message_length m 0 echoed in
    let start : from ≡ 0 + length front = omega (arith, fixed_length m 0) in
    let both : l₂ ≡ pasted l 0 (front ++ echoed) = e₂ ∙ rw (e₁, start) (pasted_on l front echoed 0 (omega (arith, fixed_length m 0))) in
    let whole : from + length echoed ≡ length (front ++ echoed) = omega arith in
    let summed : sum ≡ checksum_of (front ++ echoed) = es ∙ rw (both, whole, take_front l (front ++ echoed)) in
    let placed : l₃ ≡ (fixed_octets m sum ++ echoed) ++ drop (length (front ++ echoed)) l =
    e₃ ∙ rw (both, pasted_front l (front ++ echoed)) (field_put m sum echoed _) in
    let long : length (front ++ echoed) ≡ length (fixed_octets m sum ++ echoed) = omega (arith, message_length m sum echoed) in
    rw (← summed) (placed ∙ rw long)

-- ---- building

module _ (from n room : ℕ) where
  pub no_front : room < from → Failed ≡ check_of (ltb room (from + n))
  no_front h = rw (lt-ltb room (from + n) (omega arith))

  pub no_rest : from ≤ room → room - from < n → Failed ≡ check_of (ltb room (from + n))
  no_rest h k = rw (lt-ltb room (from + n) (omega arith))

  pub all_fits : from ≤ room → n ≤ room - from → Passed ≡ check_of (ltb room (from + n))
  all_fits h k = rw (le-ltb room (from + n) (omega arith))

-- by what the two checks told of a size from the kind
module _ (m : Message) (echoed l : List ℕ) {from : ℕ} (is : from ≡ fixed_size m.kind) {c : Check}
    (told : c ≡ check_of (ltb (length l) (from + length echoed))) where
  abbrev size : ℕ
  size = size_with m (length echoed)

  room_told : c ≡ check_of (ltb (length l) size)
  room_told = rw is at told

  pub no_room : c ≡ Failed → l ≡ built_output m echoed l
  unfolding built_of built_output build_checks first_of
  no_room h = let e = failed_true (ltb (length l) size) (sym room_told ∙ h) in simp e

  module _ (passed : c ≡ Passed) where
    roomed : ltb (length l) size ≡ false
    roomed = passed_false (ltb (length l) size) (sym room_told ∙ passed)

    pub roomy : size ≤ length l
    roomy = ltb-false (length l) size roomed

    module _ {d : Check} (told₂ : d ≡ check_of (too_much_data (from + length echoed))) where
      data_told : d ≡ check_of (too_much_data size)
      data_told = rw is at told₂

      pub too_long : d ≡ Failed → l ≡ built_output m echoed l
      unfolding built_of built_output build_checks first_of
      too_long h = let e = failed_true (too_much_data size) (sym data_told ∙ h) in simp (roomed, e)

      pub done : d ≡ Passed → {out : List ℕ} → out ≡ fronted (message_octets m echoed) l → out ≡ built_output m echoed l
      unfolding built_of built_output build_checks first_of
      done h eo =
          let e = passed_false (too_much_data size) (sym data_told ∙ h) in
          simp (roomed, e) eo
