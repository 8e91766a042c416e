-- The builder writes the shortest control field and unused bits as zero (page 01, "Refusal numbers"); "shortest" as the definition says it is what the
-- word means, no more and no less; and the reader takes no unused bit that is set. Assumes nothing.
use native.Mathlib.Omega.{arith}
use native.Mathlib.Nat.{zero-mul, one-mul}
use Prim.Native.Nat.{ℕ, zero, suc, ◌+◌, ◌-◌, ◌≤◌, ◌<◌}
use mathlib.Core.Path.{◌≡◌, refl, ap, sym, ◌∙◌}
use mathlib.Core.List.{List, [], ◌∷◌, ◌++◌}
use mathlib.Core.Logic.{◌⊎◌, inl, inr, ◌↔◌}
use lib.ListN.{get_or, length, take}
use lib.Seq.{length-take-le}
use borrow.Author.Tests.{ne_eqb}
use Rattle.octets.specs.Octets.{octet}
use Rattle.header.specs.Limits.{most_data, length_limit}
use Rattle.header.specs.Form.{control_of, first_control, second_control, third_control, second_follows, third_follows}
use Rattle.header.specs.Read.{read_of}
use Rattle.header.specs.Build.{present, header_octets, size_of}
use Rattle.header.specs.Shortest.{Shortest, UnusedZero, NoneShorter}
use Rattle.header.specs.Range.{InRange}
use Rattle.header.specs.declared.Fields.{Fields}
use Rattle.header.specs.declared.Header.{Header}
use Rattle.checks.specs.Told.{Good}
use Rattle.header.proofs.Bounds.{allowed}
use Rattle.header.proofs.Passed.{passed}
use Rattle.header.proofs.Answers.{read_in_range, read_bounds}
use Rattle.header.proofs.Bits.{bits}
use Rattle.header.proofs.BuiltLaws.{header_length, built_size}
use Rattle.header.proofs.Trip.{formed_control}
use Rattle.header.proofs.Back.{zero_or_one}
use Rattle.header.proofs.Again.{shortest_least, as_long_shortest, built_again}

-- ---- what the word means

-- a control octet is announced as it should be where it is there and says something, or is not there and counts as 0
says : (on v : ℕ) → on ≡ 1 → (v ≡ 0 → ⊥) → on ≡ present v
says on v e h = simp (ne_eqb v 0 h) e

silent : (on v : ℕ) → on ≡ 0 → v ≡ 0 → on ≡ present v
silent on v e z = rw (z, e)

few : (a b : ℕ) → a < 256 → b < 256 → (i : ℕ) → get_or (0 ∷ 0 ∷ a ∷ b ∷ []) i 0 < 256
few a b h g zero = omega arith
few a b h g (suc zero) = omega arith
few a b h g (suc (suc zero)) = h
few a b h g (suc (suc (suc zero))) = g
few a b h g (suc (suc (suc (suc i)))) = omega arith

module _ (s : List ℕ) (small : (i : ℕ) → get_or s i 0 < 256) (least : NoneShorter s) where
  -- without its second octet the control field would end at 3
  second_says : second_follows (first_control s) ≡ 1 → third_follows (second_control s) ≡ 0 → second_control s ≡ 0 → ⊥
  unfolding control_of
  second_says on off z =
      let t : List ℕ = 0 ∷ 0 ∷ (octet s 2 - 8) ∷ 0 ∷ [] in
      let third : third_control s ≡ 0 = rw (off, zero-mul) in
      let shorter = least t (few (octet s 2 - 8) 0 (omega (arith, small 2)) (omega arith)) (omega arith, omega arith, omega arith) in
      omega arith

  -- and without its third at 4
  third_says : second_follows (first_control s) ≡ 1 → third_follows (second_control s) ≡ 1 → third_control s ≡ 0 → ⊥
  unfolding control_of
  third_says on most z =
      let t : List ℕ = 0 ∷ 0 ∷ octet s 2 ∷ (octet s 3 - 128) ∷ [] in
      let was : second_control s ≡ octet s 3 = rw (on, one-mul) in
      let is : second_control t ≡ octet s 3 - 128 = rw (on, one-mul) in
      let shorter = least t (few (octet s 2) (octet s 3 - 128) (small 2) (omega (arith, small 3))) (refl, omega (arith, small 3), omega arith) in
      omega (arith, small 3)

  says_case : (second_follows (first_control s) ≡ 0) ⊎ (second_follows (first_control s) ≡ 1) → (third_follows (second_control s) ≡ 0) ⊎ (third_follows (second_control s) ≡ 1) → Shortest (control_of s)
  unfolding control_of
  says_case (inl a) (inl b) = (silent _ (second_control s) a (rw (a, zero-mul)), silent _ (third_control s) b (rw (b, zero-mul)))
  says_case (inl a) (inr b) = let z : second_control s ≡ 0 = rw (a, zero-mul) in absurd (omega arith)
  says_case (inr a) (inl b) = (says _ _ a (second_says a b), silent _ (third_control s) b (rw (b, zero-mul)))
  says_case (inr a) (inr b) = (says _ (second_control s) a (λ z. omega arith), says _ _ b (third_says a b))

-- a control field is shortest exactly where none that says the same ends earlier
pub shortest_exactly : (s : List ℕ) → ((i : ℕ) → get_or s i 0 < 256) → Shortest (control_of s) ↔ NoneShorter s
shortest_exactly s small = (
  λ short t octets same. shortest_least s t small short same.1 same.2,
  λ least. says_case s small least (zero_or_one _ (omega arith)) (zero_or_one _ (omega arith)),
)

-- ---- what is built, and what is read

-- whatever stands behind a header of the built form, its control field is shortest and its unused bits are zero, wherever the datagram's length fits
-- its field
pub formed_shortest : (f : Fields) (n : ℕ) (rest : List ℕ) → InRange f → size_of f + n < length_limit
    → Shortest (control_of (header_octets f n ++ rest)) × UnusedZero (control_of (header_octets f n ++ rest))
formed_shortest f n rest r short =
    let b = bits f r in
    rw (formed_control f n rest r short) ((b.more, b.most), (b.allowed.zero21, b.allowed.zero29, b.allowed.zero32, b.allowed.zeros))

-- whatever stands behind a built header, its control field is shortest and its unused bits are zero
pub built_shortest : (f : Fields) (n : ℕ) (rest : List ℕ) → InRange f → n ≤ most_data
    → Shortest (control_of (header_octets f n ++ rest)) × UnusedZero (control_of (header_octets f n ++ rest))
built_shortest f n rest r few = formed_shortest f n rest r (omega (arith, (built_size f r).1))

-- unused bits of a header that is read are zero: others are refused by 4
pub read_unused_zero : (s : List ℕ) (h : Header) → read_of s ≡ Good h → UnusedZero (control_of s)
read_unused_zero s h e =
    let a = allowed (control_of s) (passed s h e).allowed in
    (a.zero21, a.zero29, a.zero32, a.zeros)

-- building what was read gives the same header octets exactly where the control field was shortest and unused bits zero, and a shorter header else
-- (`built_no_longer`, `as_long_shortest`)
pub same_octets_exactly : (s : List ℕ) (h : Header) → ((i : ℕ) → get_or s i 0 < 256) → read_of s ≡ Good h
    → (header_octets h.fields (h.length - h.size) ≡ take h.size s) ↔ (Shortest (control_of s) × UnusedZero (control_of s))
same_octets_exactly s h small e = (
  λ same. (
      let bounds = read_bounds s h small e in
      let range = read_in_range s h small e in
      let size : size_of h.fields ≡ h.size = sym (header_length h.fields (h.length - h.size) range.checksum) ∙ (ap length same ∙ length-take-le h.size s (omega (arith, bounds))) in
      (as_long_shortest s h small e size, read_unused_zero s h e)
      ),
  λ short. built_again s h small e short.0,
)
