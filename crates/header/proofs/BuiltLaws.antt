-- Laws of a built header: how long it is, that it is made of octets, that its checksum is never FFFF, and exactly when the builder refuses.
-- Assumes nothing.
use native.Mathlib.Omega.{arith}
use native.Mathlib.Nat.{pow-le-pow_right}
use Prim.Native.Nat.{ℕ, zero, suc, ◌+◌, ◌*◌, ◌/◌, ◌%◌, ◌^◌, ◌≤◌, ◌<◌}
use mathlib.Core.Path.{◌≡◌, refl, ap, ◌∙◌}
use mathlib.Core.List.{List, [], ◌∷◌, ◌++◌}
use mathlib.Core.Logic.{◌↔◌}
use mathlib.Core.Bool.{Bool, true, false}
use lib.ListN.{get_or, length, length-append}
use lib.Dec.{leb, ltb}
use borrow.Author.Tests.{ltb-true, ltb-false, leb-false, lt-ltb, le-ltb, lt-leb}
use Rattle.std.specs.Prelude.{Option, Some, None, Result}
use Rattle.checks.specs.Order.{pick, first_of, outcome}
use Rattle.checks.proofs.Bools.{true_false, or_false}
use Rattle.checks.proofs.Laws.{either, told_outcome}
use Rattle.octets.specs.Octets.{octets}
use Rattle.octets.proofs.Laws.{length_octets}
use Rattle.checksum.specs.Sum.{ones_sum, checksum_of}
use Rattle.checksum.proofs.Words.{Octets}
use Rattle.checksum.proofs.Laws.{zeros_of_sum}
use Rattle.header.specs.Limits.{longest_header, most_data, length_limit}
use Rattle.header.specs.Form.{address_size, time_size}
use Rattle.header.specs.Build.{six_octets, addresses_octets, qos_octets, octet_octets, stamp_octets, front_octets, rest_octets, body_octets, checksum_octets, header_octets, size_of, build_refusals, build_checks, built_by, built_of, present, second_octet, third_octet, Built}
use Rattle.header.specs.Range.{qos_out_of_range, stamp_out_of_range, out_of_range, QosFits, StampFits, InRange, QosTyped, StampTyped, Typed}
use Rattle.header.specs.declared.Fields.{Fields}
use Rattle.header.specs.declared.Six.{Six}
use Rattle.header.specs.declared.Addresses.{Addresses}
use Rattle.header.specs.declared.Addresses.TheVariants.{BasicPath, ExtendedPath, BasicEndSystem, ExtendedEndSystem, Ipv6}
use Rattle.header.specs.declared.Qos.{Qos}
use Rattle.header.specs.declared.Timestamp.{Timestamp}
use Rattle.header.specs.declared.Timestamp.TheVariants as stamp
use Rattle.checks.specs.Told.{Good, Refused, told}
use Rattle.checks.specs.declared.Refusal.{Refusal}
use Rattle.header.proofs.Bounds.{gate, address_size_le, address_size_ge}
use Rattle.header.proofs.Pieces.{addresses_length, qos_length, octet_length, stamp_le, qos_flag_le, octet_flag_le, present_le}
use Rattle.header.proofs.Bits.{built_control, bits}

-- ---- the length

pub front_length : (len x second third : ℕ) → length (front_octets len x second third) ≡ 3 + present second + present third
unfolding front_octets
front_length len x second third = simp (length-append, length_octets) (omega arith)

pub body_length : (f : Fields) (len : ℕ) → length (body_octets f len) ≡ (built_control f).end + length (rest_octets f)
unfolding body_octets built_control
body_length f len = simp (length-append, front_length)

pub checksum_length : (on : ℕ) → on < 2 → (body : List ℕ) → length (checksum_octets on body) ≡ 2 * on
unfolding checksum_octets
checksum_length zero h body = refl
checksum_length (suc zero) h body = length_octets 2 _
checksum_length (suc (suc on)) h body = absurd (omega arith)

-- `size_of` is the length of the octets
pub header_length : (f : Fields) (n : ℕ) → f.checksum < 2 → length (header_octets f n) ≡ size_of f
unfolding header_octets size_of built_control
header_length f n h = simp (length-append, body_length, checksum_length f.checksum h)

-- 50 octets hold every header (page 01: "Header at most 50 octets")
pub built_size : (f : Fields) → InRange f → (4 ≤ size_of f) × (size_of f ≤ longest_header)
unfolding size_of rest_octets
built_size f r =
    let k = built_control f in
    let addresses = addresses_length k f.addresses (bits f r).addresses in
    simp (length-append, addresses, qos_length, octet_length)
    (omega
    (arith, present_le (second_octet f), present_le (third_octet f), gate 25 k.second (address_size k), address_size_le k, address_size_ge k, qos_flag_le f.qos, octet_flag_le f.hops, stamp_le f.stamp, octet_flag_le f.expanded, r.checksum))

-- ---- the octets

pub append_small : (a b : List ℕ) → Octets a → Octets b → Octets (a ++ b)
append_small [] b p q i = q i
append_small (x ∷ a) b p q zero = p 0
append_small (x ∷ a) b p q (suc i) = append_small a b (λ j. p (suc j)) q i

one_small : (v : ℕ) → Octets (v % 256 ∷ [])
one_small v zero = omega arith
one_small v (suc i) = omega arith

octets_small : (n v : ℕ) → Octets (octets n v)
unfolding octets
octets_small zero v i = omega arith
octets_small (suc n) v i = append_small (octets n (v / 256)) (v % 256 ∷ []) (octets_small n (v / 256)) (one_small v) i

six_small : (a : Six) → Octets (six_octets a)
unfolding six_octets
six_small a = search (append_small, octets_small)

addresses_small : (a : Addresses) → Octets (addresses_octets a)
unfolding addresses_octets
addresses_small (BasicPath d) = octets_small 1 d
addresses_small (ExtendedPath d) = octets_small 4 d.0
addresses_small (BasicEndSystem d s) = search (append_small, octets_small)
addresses_small (ExtendedEndSystem d s) = search (append_small, octets_small)
addresses_small (Ipv6 d s) = search (append_small, six_small)

qos_small : (m : Option Qos) → Octets (qos_octets m)
unfolding qos_octets
qos_small None = omega arith
qos_small (Some q) = octets_small 1 (q.precedence * 16 + q.routing * 4 + q.program)

octet_small : (m : Option ℕ) → Octets (octet_octets m)
unfolding octet_octets
octet_small None = omega arith
octet_small (Some v) = octets_small 1 v

stamp_small : (m : Option Timestamp) → Octets (stamp_octets m)
unfolding stamp_octets
stamp_small None = omega arith
stamp_small (Some (stamp.Implicit t)) = octets_small 3 t
stamp_small (Some (stamp.Explicit p t)) = search (append_small, octets_small)
stamp_small (Some (stamp.Binary t)) = octets_small 4 t

pub pick_small : (t : Bool) (v : ℕ) → Octets (pick t (octets 2 v) [])
pick_small t v = either Octets t (octets_small 2 v) (omega arith)

-- each octet of a header is below 256
pub header_small : (f : Fields) (n i : ℕ) → get_or (header_octets f n) i 0 < 256
unfolding header_octets body_octets front_octets rest_octets checksum_octets
header_small f n = search (append_small, octets_small, addresses_small, qos_small, octet_small, stamp_small, pick_small) depth 9

-- ---- the range of fields

qos_in : (m : Option Qos) → qos_out_of_range m ≡ false → QosFits m
qos_in None h = tt
qos_in (Some q) h =
    let p = or_false (leb 16 q.precedence) _ h in
    let r = or_false (leb 4 q.routing) (leb 4 q.program) p.1 in
    (leb-false 16 q.precedence p.0, (leb-false 4 q.routing r.0, leb-false 4 q.program r.1))

stamp_in : (m : Option Timestamp) → StampTyped m → stamp_out_of_range m ≡ false → StampFits m
stamp_in None t h = tt
stamp_in (Some (stamp.Implicit v)) t h = leb-false _ v h
stamp_in (Some (stamp.Explicit p v)) t h = (t.0, leb-false _ v h)
stamp_in (Some (stamp.Binary v)) t h = leb-false _ v h

-- what the builder's test finds none of, apart
pub record Tested (f : Fields) : Type 0 where
  pub tpid : f.tpid < 16
  pub checksum : f.checksum < 2
  pub intermediate : f.intermediate < 2
  pub qos : qos_out_of_range f.qos ≡ false
  pub stamp : stamp_out_of_range f.stamp ≡ false

pub tested : (f : Fields) → out_of_range f ≡ false → Tested f
unfolding out_of_range
tested f h =
    let p = or_false (leb 16 f.tpid) _ h in
    let q = or_false (leb 2 f.checksum) _ p.1 in
    let r = or_false (leb 2 f.intermediate) _ q.1 in
    let s = or_false (qos_out_of_range f.qos) _ r.1 in
    record {
      tpid = leb-false 16 f.tpid p.0;
      checksum = leb-false 2 f.checksum q.0;
      intermediate = leb-false 2 f.intermediate r.0;
      qos = s.0;
      stamp = s.1;
    }

pub in_range : (f : Fields) → Typed f → out_of_range f ≡ false → InRange f
in_range f t h =
    let p = tested f h in
    record {
      tpid = p.tpid;
      addresses = t.addresses;
      qos = qos_in f.qos p.qos;
      hops = t.hops;
      stamp = stamp_in f.stamp t.stamp p.stamp;
      expanded = t.expanded;
      checksum = p.checksum;
      intermediate = p.intermediate;
    }

qos_typed : (m : Option Qos) → QosFits m → QosTyped m
qos_typed None h = tt
qos_typed (Some q) h = (omega arith, (omega arith, omega arith))

stamp_typed : (m : Option Timestamp) → StampFits m → StampTyped m
stamp_typed None h = tt
stamp_typed (Some (stamp.Implicit t)) h = omega arith
stamp_typed (Some (stamp.Explicit p t)) h =
    let few : time_size p ≤ 8 = omega arith in
    let most : 256 ^ time_size p ≤ 256 ^ 8 = pow-le-pow_right (omega arith) few in
    (h.0, omega (arith, h.1, most))
stamp_typed (Some (stamp.Binary t)) h = omega arith

-- fields that are in range are within their types
pub range_typed : (f : Fields) → InRange f → Typed f
range_typed f r =
    record {
      tpid = omega (arith, r.tpid);
      addresses = r.addresses;
      qos = qos_typed f.qos r.qos;
      hops = r.hops;
      stamp = stamp_typed f.stamp r.stamp;
      expanded = r.expanded;
      checksum = omega (arith, r.checksum);
      intermediate = omega (arith, r.intermediate);
    }

qos_not_out : (m : Option Qos) → QosFits m → qos_out_of_range m ≡ false
qos_not_out None h = refl
qos_not_out (Some q) h = simp (lt-leb 16 q.precedence h.0, lt-leb 4 q.routing h.1.0, lt-leb 4 q.program h.1.1)

stamp_not_out : (m : Option Timestamp) → StampFits m → stamp_out_of_range m ≡ false
stamp_not_out None h = refl
stamp_not_out (Some (stamp.Implicit v)) h = lt-leb _ v h
stamp_not_out (Some (stamp.Explicit p v)) h = lt-leb _ v h.1
stamp_not_out (Some (stamp.Binary v)) h = lt-leb _ v h

pub not_out : (f : Fields) → InRange f → out_of_range f ≡ false
unfolding out_of_range
not_out f r =
    simp
    (lt-leb 16 f.tpid r.tpid, lt-leb 2 f.checksum r.checksum, lt-leb 2 f.intermediate r.intermediate, qos_not_out f.qos r.qos, stamp_not_out f.stamp r.stamp)

-- ---- what the builder answers

pub accepted : (f : Fields) (n room : ℕ) → InRange f → n ≤ most_data → longest_header ≤ room → built_of f n room ≡ Good (size_of f)
unfolding built_of build_checks first_of
accepted f n room r short h = simp (le-ltb room longest_header h, not_out f r, le-ltb most_data n short)

-- which of the three conditions a number tells
record First (a b c : Bool) (built : Built) : Type 0 where
  is_17 : built ≡ Refused 17 → a ≡ true
  is_19 : built ≡ Refused 19 → (a ≡ false) × (b ≡ true)
  is_20 : built ≡ Refused 20 → (a ≡ false) × ((b ≡ false) × (c ≡ true))

other : {X : Type 0} (n m : ℕ) → (n ≡ m → ⊥) → ◌≡◌ {A = Built} (Refused n) (Refused m) → X
other n m h e = absurd (h cc)

done : {X : Type 0} (n m : ℕ) → Good n ≡ Refused m → X
done n m e = true_false cc

first : (a b c : Bool) (n : ℕ) → First a b c (built_by (first_of ((a, 17) ∷ (b, 19) ∷ (c, 20) ∷ [])) n)
unfolding first_of
first true b c n = record { is_17 = λ e. refl; is_19 = other _ _ (omega arith); is_20 = other _ _ (omega arith) }
first false true c n = record { is_17 = other _ _ (omega arith); is_19 = λ e. (refl, refl); is_20 = other _ _ (omega arith) }
first false false true n = record { is_17 = other _ _ (omega arith); is_19 = other _ _ (omega arith); is_20 = λ e. (refl, (refl, refl)) }
first false false false n = record { is_17 = done _ _; is_19 = done _ _; is_20 = done _ _ }

-- each refusal exactly where its condition holds and no earlier one (page 01, "Refusal numbers")
pub record Refusals (f : Fields) (n room : ℕ) : Type 0 where
  pub no_room : (built_of f n room ≡ Refused 17) ↔ (room < longest_header)
  pub no_range : (built_of f n room ≡ Refused 19) ↔ ((longest_header ≤ room) × (out_of_range f ≡ true))
  pub too_long : (built_of f n room ≡ Refused 20) ↔ ((longest_header ≤ room) × ((out_of_range f ≡ false) × (most_data < n)))

pub built_refused : (f : Fields) (n room : ℕ) → Refusals f n room
unfolding built_of build_checks first_of
built_refused f n room =
    let p = first (ltb room longest_header) (out_of_range f) (ltb most_data n) (size_of f) in
    record {
      no_room = (λ e. ltb-true room longest_header (p.is_17 e), λ h. simp (lt-ltb room longest_header h));
      no_range = (λ e. (ltb-false room longest_header (p.is_19 e).0, (p.is_19 e).1), λ h. simp (le-ltb room longest_header h.0, h.1));
      too_long = (λ e. (ltb-false room longest_header (p.is_20 e).0, ((p.is_20 e).1.0, ltb-true most_data n (p.is_20 e).1.1)), λ h. simp (le-ltb room longest_header h.0, h.1.0, lt-ltb most_data n h.1.1));
    }

-- what is told of the builder's answer
pub built_told : (f : Fields) (n room : ℕ) (x : Result ℕ Refusal) → x ≡ outcome (build_refusals f n room) (size_of f) → told x ≡ built_of f n room
unfolding built_of build_checks
built_told f n room x e = ap told e ∙ told_outcome (build_refusals f n room) (size_of f)

-- ---- the checksum

-- a built checksum element is never FFFF: the version makes the first octet at least 32
pub never_ffff : (f : Fields) (len : ℕ) → len < length_limit → checksum_of (body_octets f len ++ 0 ∷ 0 ∷ []) ≡ 65535 → ⊥
unfolding body_octets front_octets octets
never_ffff f len short e =
    let sum : ones_sum (body_octets f len ++ 0 ∷ 0 ∷ []) ≡ 0 = omega arith in
    let first = zeros_of_sum (body_octets f len ++ 0 ∷ 0 ∷ []) sum 0 in
    omega arith
