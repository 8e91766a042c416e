-- Pieces written one after the other make the header, and each refusal leaves the output as it was: said over plain variables. Assumes nothing.
use native.Mathlib.Omega.{arith}
use Prim.Native.Nat.{ℕ, ◌+◌, ◌*◌, ◌≤◌, ◌<◌}
use mathlib.Core.Path.{◌≡◌, ap, ◌∙◌}
use mathlib.Core.List.{List, ◌++◌, append_assoc}
use lib.ListN.{length, take, length-append}
use borrow.Author.Tests.{ltb-true, ltb-false}
use Rattle.checks.specs.Order.{check_of, first_of}
use Rattle.checks.specs.declared.Check.TheVariants.{Passed, Failed}
use Rattle.checks.proofs.Laws.{passed_false, failed_true}
use Rattle.octets.specs.Octets.{pasted, fronted}
use Rattle.octets.proofs.Laws.{length_octets, pasted_before, pasted_on, pasted_front, take_front, Put, put_two}
use Rattle.header.specs.Limits.{longest_header, most_data, lacks_room, too_much_data}
use Rattle.header.specs.Range.{out_of_range}
use Rattle.header.specs.Build.{addresses_octets, qos_octets, octet_octets, stamp_octets, present, third_octet, second_octet, first_bits, front_octets, rest_octets, body_octets, checksum_octets, size_of, header_octets, build_checks, built_of, built_output}
use Rattle.header.specs.declared.Fields.{Fields}
use Rattle.header.specs.declared.Addresses.{Addresses}
use Rattle.header.specs.declared.Addresses.TheVariants.{BasicPath, ExtendedPath, BasicEndSystem, ExtendedEndSystem, Ipv6}
use Rattle.checks.specs.Told.{Refused}
use Rattle.header.proofs.Pieces.{six_length, qos_length, octet_length, stamp_le, qos_flag_le, octet_flag_le, present_le}
use Rattle.header.proofs.BuiltLaws.{front_length, checksum_length, tested, built_refused}

-- ---- lengths

addresses_le : (a : Addresses) → length (addresses_octets a) ≤ 32
unfolding addresses_octets
addresses_le (BasicPath d) = omega (arith, length_octets 1 d)
addresses_le (ExtendedPath p) = omega (arith, length_octets 4 p.0)
addresses_le (BasicEndSystem d s) = simp (length-append, length_octets) (omega arith)
addresses_le (ExtendedEndSystem d s) = simp (length-append, length_octets) (omega arith)
addresses_le (Ipv6 d s) = simp (length-append, six_length) (omega arith)

-- the most octets that each element has, and all of them
pub record Sizes (f : Fields) : Type 0 where
  pub addresses : length (addresses_octets f.addresses) ≤ 32
  pub qos : length (qos_octets f.qos) ≤ 1
  pub hops : length (octet_octets f.hops) ≤ 1
  pub stamp : length (stamp_octets f.stamp) ≤ 8
  pub expanded : length (octet_octets f.expanded) ≤ 1

pub element_sizes : (f : Fields) → Sizes f
element_sizes f =
    record {
      addresses = addresses_le f.addresses;
      qos = omega (arith, qos_length f.qos, qos_flag_le f.qos);
      hops = omega (arith, octet_length f.hops, octet_flag_le f.hops);
      stamp = stamp_le f.stamp;
      expanded = omega (arith, octet_length f.expanded, octet_flag_le f.expanded);
    }

pub rest_le : (f : Fields) → length (rest_octets f) ≤ 43
unfolding rest_octets
rest_le f = let z = element_sizes f in simp length-append (omega arith)

-- ---- chains

pub rest_put : (f : Fields) (l m₁ m₂ m₃ m₄ m₅ : List ℕ) (at r₁ r₂ r₃ r₄ r₅ : ℕ) → Put l m₁ at r₁ (addresses_octets f.addresses) → Put m₁ m₂ r₁ r₂ (qos_octets f.qos)
    → Put m₂ m₃ r₂ r₃ (octet_octets f.hops) → Put m₃ m₄ r₃ r₄ (stamp_octets f.stamp) → Put m₄ m₅ r₄ r₅ (octet_octets f.expanded) → at + 43 ≤ length l
    → Put l m₅ at r₅ (rest_octets f)
unfolding rest_octets
rest_put f l m₁ m₂ m₃ m₄ m₅ at r₁ r₂ r₃ r₄ r₅ p₁ p₂ p₃ p₄ p₅ h =
    let z = element_sizes f in
    let q₂ = put_two l m₁ m₂ _ _ at r₁ r₂ p₁ p₂ (omega arith) in
    let q₃ = put_two l m₂ m₃ _ _ at r₂ r₃ q₂ p₃ (simp length-append (omega arith)) in
    let q₄ = put_two l m₃ m₄ _ _ at r₃ r₄ q₃ p₄ (simp length-append (omega arith)) in
    let q₅ = put_two l m₄ m₅ _ _ at r₄ r₅ q₄ p₅ (simp length-append (omega arith)) in
    simp append_assoc at q₅

-- the three pieces make the header
pub assembled : (f : Fields) (n : ℕ) (l m₁ m₂ m₃ : List ℕ) (k body : ℕ) → k ≡ 3 + present (second_octet f) + present (third_octet f) → body ≡ k + length (rest_octets f)
    → f.checksum < 2 → longest_header ≤ length l → m₁ ≡ pasted l k (rest_octets f)
    → m₂ ≡ pasted m₁ 0 (front_octets (size_of f + n) (f.tpid * 16 + first_bits f) (second_octet f) (third_octet f))
    → m₃ ≡ pasted m₂ body (checksum_octets f.checksum (take body m₂))
    → m₃ ≡ fronted (header_octets f n) l
unfolding header_octets body_octets
assembled f n l m₁ m₂ m₃ k body ek eb flag room e₁ e₂ e₃ =
    let front : List ℕ = front_octets (size_of f + n) (f.tpid * 16 + first_bits f) (second_octet f) (third_octet f) in
    let rest : List ℕ = rest_octets f in
    let all : List ℕ = front ++ rest in
    let r = rest_le f in
    let ps = present_le (second_octet f) in
    let pt = present_le (third_octet f) in
    let fl = front_length (size_of f + n) (f.tpid * 16 + first_bits f) (second_octet f) (third_octet f) in
    let fk : length front ≡ k = omega arith in
    let al : length all ≡ body = simp length-append (omega arith) in
    let a₂ : m₂ ≡ pasted l 0 all = e₂ ∙ (ap (λ (x : List ℕ). pasted x 0 front) e₁ ∙ pasted_before l front rest k fk (omega arith)) in
    let t₂ : take body m₂ ≡ all = rw (a₂, ← al) (take_front l all) in
    let s : List ℕ = checksum_octets f.checksum all in
    let sl = checksum_length f.checksum flag all in
    let z : body ≡ 0 + length all = omega arith in
    let on : pasted (pasted l 0 all) (0 + length all) s ≡ pasted l 0 (all ++ s) = pasted_on l all s 0 (omega arith) in
    e₃ ∙ rw (t₂, a₂, z, on) (pasted_front l (all ++ s))

-- ---- the checks

pub small_fields : (f : Fields) → check_of (out_of_range f) ≡ Passed → (f.tpid < 16) × ((f.checksum < 2) × (f.intermediate < 2))
small_fields f h = let t = tested f (passed_false (out_of_range f) h) in (t.tpid, (t.checksum, t.intermediate))

pub short : (n : ℕ) → check_of (too_much_data n) ≡ Passed → n ≤ most_data
short n h = ltb-false _ _ (passed_false _ h)

module _ (f : Fields) (n : ℕ) (l : List ℕ) where
  -- a refusal writes nothing
  unwritten : (m : ℕ) → built_of f n (length l) ≡ Refused m → l ≡ built_output f n l
  unfolding built_output
  unwritten m e = rw e

  pub no_room : check_of (lacks_room (length l)) ≡ Failed → l ≡ built_output f n l
  no_room h = unwritten 17 ((built_refused f n (length l)).no_room.1 (ltb-true _ _ (failed_true _ h)))

  module _ (room : check_of (lacks_room (length l)) ≡ Passed) where
    pub roomy : longest_header ≤ length l
    roomy = ltb-false _ _ (passed_false _ room)

    pub no_range : check_of (out_of_range f) ≡ Failed → l ≡ built_output f n l
    no_range h = unwritten 19 ((built_refused f n (length l)).no_range.1 (roomy, failed_true (out_of_range f) h))

    module _ (fits : check_of (out_of_range f) ≡ Passed) where
      pub too_long : check_of (too_much_data n) ≡ Failed → l ≡ built_output f n l
      too_long h = unwritten 20 ((built_refused f n (length l)).too_long.1 (roomy, (passed_false (out_of_range f) fits, ltb-true _ _ (failed_true _ h))))

      pub done : check_of (too_much_data n) ≡ Passed → (out : List ℕ) → out ≡ fronted (header_octets f n) l → out ≡ built_output f n l
      unfolding built_of built_output build_checks first_of
      done h out eo =
          let a = passed_false (lacks_room (length l)) room in
          let b = passed_false (out_of_range f) fits in
          let c = passed_false (too_much_data n) h in
          simp (a, b, c) eo
