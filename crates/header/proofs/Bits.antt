-- The control field that the builder makes says of each element what the fields have, and nothing that is forbidden. Assumes nothing.
use native.Mathlib.Omega.{arith}
use Prim.Native.Nat.{◌+◌, ◌<◌}
use mathlib.Core.Path.{◌≡◌, refl}
use mathlib.Core.Bool.{Bool, true, false, ◌&&◌, ◌||◌}
use lib.Dec.{eqb}
use borrow.Author.Tests.{eqb-true}
use Rattle.header.specs.Form.{forbidden, is_ipv6, is_extended, has_source, second_follows, third_follows, has_checksum, has_hops, has_qos, has_expanded, stamp_format, is_intermediate}
use Rattle.header.specs.Build.{first_bits, second_octet, third_octet, present, qos_flag, octet_flag, format_of}
use Rattle.header.specs.Range.{InRange}
use Rattle.header.specs.declared.Control.{Control}
use Rattle.header.specs.declared.Fields.{Fields}
use Rattle.header.proofs.Bounds.{Allowed}
use Rattle.header.proofs.Pieces.{AddressBits, address_flags, qos_flag_le, octet_flag_le, format_le, present_le}

-- the control field of these fields
unfoldable pub built_control : Fields → Control
built_control f =
    record {
      first = first_bits f;
      second = second_octet f;
      third = third_octet f;
      end = 3 + present (second_octet f) + present (third_octet f);
    }

-- what the bits of a control field say of fields
pub record Bits (f : Fields) (k : Control) : Type 0 where
  pub more : second_follows k.first ≡ present k.second
  pub most : third_follows k.second ≡ present k.third
  pub checksum : has_checksum k ≡ f.checksum
  pub addresses : AddressBits k f.addresses
  pub qos : has_qos k ≡ qos_flag f.qos
  pub hops : has_hops k ≡ octet_flag f.hops
  pub stamp : stamp_format k ≡ format_of f.stamp
  pub expanded : has_expanded k ≡ octet_flag f.expanded
  pub intermediate : is_intermediate k ≡ f.intermediate
  pub allowed : Allowed k
  pub first_lt : k.first < 16
  pub second_lt : k.second < 256
  pub third_lt : k.third < 256

pub bits : (f : Fields) → InRange f → Bits f (built_control f)
unfolding built_control first_bits second_octet third_octet
bits f r =
    omega
    (arith, present_le (second_octet f), present_le (third_octet f), address_flags f.addresses, qos_flag_le f.qos, octet_flag_le f.hops, format_le f.stamp, octet_flag_le f.expanded, r.checksum, r.intermediate)

six_case : (k : Control) (t : Bool) → eqb (is_ipv6 k) 1 ≡ t → Allowed k → (t && (eqb (is_extended k) 1 || eqb (has_source k) 0)) ≡ false
six_case k true e a = let p = a.six (eqb-true (is_ipv6 k) 1 e) in simp (p.0, p.1)
six_case k false e a = refl

-- the converse of `allowed`
pub not_forbidden : (k : Control) → Allowed k → forbidden k ≡ false
unfolding forbidden
not_forbidden k a = simp (a.zero21, a.destination, a.zero29, a.zero32, a.zeros) (six_case k (eqb (is_ipv6 k) 1) refl a)
