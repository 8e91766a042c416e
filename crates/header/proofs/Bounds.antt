-- Bounds of the pieces of a header, and the control bits that are not forbidden. Assumes nothing.
use Prim.Native.Nat.{ℕ, ◌+◌, ◌*◌, ◌/◌, ◌%◌, ◌≤◌}
use mathlib.Core.Path.{◌≡◌, refl}
use mathlib.Core.List.{List}
use mathlib.Core.Bool.{Bool, true, false, not, ◌&&◌, ◌||◌}
use lib.Dec.{eqb}
use native.Mathlib.Nat.{mul-le-mul_right, one-mul}
use native.Mathlib.Omega.{arith}
use borrow.Author.Rules.{rules}
use borrow.Author.Tests.{eqb-true, eqb-false}
use Rattle.checks.proofs.Bools.{or_false, not-false}
use Rattle.checks.proofs.Laws.{either}
use Rattle.octets.specs.Octets.{octet}
use Rattle.header.specs.Limits.{longest_header}
use Rattle.header.specs.declared.Control.{Control}
use Rattle.header.specs.Form.{bit_weight, header_bit, control_of, layout_of, places_of, forbidden, address_size, stamp_size, stamp_format, reserved21, reserved29, fourth_follows, unassigned, has_destination, has_checksum, has_source, is_ipv6, is_extended}

below_two : (x : ℕ) → x % 2 ≤ 1
below_two x = omega arith

-- a bit of x times m
pub gate : (n x m : ℕ) → header_bit n x * m ≤ m
gate n x m =
    let h : header_bit n x ≤ 1 = below_two (x / bit_weight n) in
    rw (one-mul m) at (mul-le-mul_right m h)

-- an address has 1 to 16 octets, a timestamp at most 8
pub address_size_le : (k : Control) → address_size k ≤ 16
unfolding address_size
address_size_le k =
    either (λ n. n ≤ 16) (eqb (is_ipv6 k) 1) (omega arith) (either (λ n. n ≤ 16) (eqb (is_extended k) 1) (omega arith) (omega arith))

pub address_size_ge : (k : Control) → 1 ≤ address_size k
unfolding address_size
address_size_ge k =
    either (λ n. 1 ≤ n) (eqb (is_ipv6 k) 1) (omega arith) (either (λ n. 1 ≤ n) (eqb (is_extended k) 1) (omega arith) (omega arith))

pub stamp_size_le : (f p : ℕ) → stamp_size f p ≤ 8
unfolding stamp_size
stamp_size_le f p =
    either (λ n. n ≤ 8) (eqb f 0) (omega arith)
    (either (λ n. n ≤ 8) (eqb f 1) (omega arith) (either (λ n. n ≤ 8) (eqb f 2) (omega arith) (omega arith)))

-- a control field ends at the octet 5 at the latest
pub control_end : (s : List ℕ) → (3 ≤ (control_of s).end) × ((control_of s).end ≤ 5)
unfolding control_of
control_end s = (omega arith, omega arith)

-- where the elements stand, behind a control field that ends at octet 3 to 5
pub record Placed (s : List ℕ) (k : Control) : Type 0 where
  pub stamp : (layout_of s k).stamp ≤ 39
  pub hops : (layout_of s k).hops ≤ (layout_of s k).stamp
  pub qos : (layout_of s k).qos ≤ (layout_of s k).hops
  pub first : k.end + 1 ≤ (layout_of s k).qos
  pub expanded : (layout_of s k).stamp ≤ (layout_of s k).expanded
  pub checksum : (layout_of s k).expanded ≤ (layout_of s k).checksum
  pub most : (layout_of s k).checksum ≤ 48
  pub size : (layout_of s k).size ≡ (layout_of s k).checksum + 2 * has_checksum k

pub placed : (s : List ℕ) (k : Control) → k.end ≤ 5 → Placed s k
unfolding layout_of
placed s k e =
    let a = address_size_le k in
    let b = address_size_ge k in
    let g = gate 25 k.second (address_size k) in
    let t = stamp_size_le (stamp_format k) (octet s (layout_of s k).stamp) in
    search rules

-- the octets of a header itself
pub header_size : (s : List ℕ) → (4 ≤ (places_of s).size) × ((places_of s).size ≤ longest_header)
header_size s =
    let e = control_end s in
    let p = placed s (control_of s) e.1 in
    (omega arith, omega arith)

-- what bits that are not forbidden are
pub record Allowed (k : Control) : Type 0 where
  pub zero21 : reserved21 k ≡ 0
  pub destination : has_destination k ≡ 1
  pub zero29 : reserved29 k ≡ 0
  pub zero32 : fourth_follows k ≡ 0
  pub zeros : unassigned k ≡ 0
  pub six : is_ipv6 k ≡ 1 → (is_extended k ≡ 0) × (has_source k ≡ 1)

six_case : (k : Control) (t : Bool) → eqb (is_ipv6 k) 1 ≡ t → (t && (eqb (is_extended k) 1 || eqb (has_source k) 0)) ≡ false → is_ipv6 k ≡ 1 → (is_extended k ≡ 0) × (has_source k ≡ 1)
six_case k true e h o =
    let p = or_false (eqb (is_extended k) 1) (eqb (has_source k) 0) h in
    let a = eqb-false (is_extended k) 1 p.0 in
    let b = eqb-false (has_source k) 0 p.1 in
    (omega arith, omega arith)
six_case k false e h o = absurd (eqb-false (is_ipv6 k) 1 e o)

pub allowed : (k : Control) → forbidden k ≡ false → Allowed k
unfolding forbidden
allowed k h =
    let p₁ = or_false (eqb (reserved21 k) 1) _ h in
    let p₂ = or_false (eqb (has_destination k) 0) _ p₁.1 in
    let p₃ = or_false (eqb (reserved29 k) 1) _ p₂.1 in
    let p₄ = or_false (eqb (fourth_follows k) 1) _ p₃.1 in
    let p₅ = or_false (not (eqb (unassigned k) 0)) _ p₄.1 in
    let n₁ = eqb-false (reserved21 k) 1 p₁.0 in
    let n₂ = eqb-false (has_destination k) 0 p₂.0 in
    let n₃ = eqb-false (reserved29 k) 1 p₃.0 in
    let n₄ = eqb-false (fourth_follows k) 1 p₄.0 in
    record {
      zero21 = omega arith;
      destination = omega arith;
      zero29 = omega arith;
      zero32 = omega arith;
      zeros = eqb-true (unassigned k) 0 (not-false (eqb (unassigned k) 0) p₅.0);
      six = six_case k (eqb (is_ipv6 k) 1) refl p₅.1;
    }
