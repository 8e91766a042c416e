-- What is measured of an element is what is written of it, and all of them make the header. Assumes nothing.
use native.Mathlib.Omega.{arith}
use Prim.Native.Nat.{ℕ, ◌+◌, ◌*◌, ◌≤◌}
use mathlib.Core.Path.{◌≡◌, refl, ap, ◌∙◌}
use lib.ListN.{length, length-append}
use Rattle.std.specs.Prelude.{Option, Some, None}
use Rattle.octets.proofs.Laws.{length_octets}
use Rattle.header.specs.Build.{addresses_octets, stamp_octets, qos_flag, octet_flag, rest_octets, present, second_octet, third_octet, size_of}
use Rattle.header.specs.declared.Addresses.{Addresses}
use Rattle.header.specs.declared.Addresses.TheVariants.{BasicPath, ExtendedPath, BasicEndSystem, ExtendedEndSystem, Ipv6}
use Rattle.header.specs.declared.Timestamp.{Timestamp}
use Rattle.header.specs.declared.Timestamp.TheVariants as stamp
use Rattle.header.specs.declared.Fields.{Fields}
use Rattle.header.specs.declared.Qos.{Qos}
use Rattle.header.proofs.Pieces.{six_length, qos_length, octet_length, qos_flag_le, octet_flag_le}
use Rattle.builder.specs.Measure.{addresses_size, timestamp_size}

pub addresses_measured : (a : Addresses) → length (addresses_octets a) ≡ addresses_size a
unfolding addresses_octets
addresses_measured (BasicPath d) = length_octets 1 d
addresses_measured (ExtendedPath p) = length_octets 4 p.0
addresses_measured (BasicEndSystem d s) = simp (length-append, length_octets)
addresses_measured (ExtendedEndSystem d s) = simp (length-append, length_octets)
addresses_measured (Ipv6 d s) = simp (length-append, six_length)

pub stamp_measured : (t : Option Timestamp) → length (stamp_octets t) ≡ timestamp_size t
unfolding stamp_octets
stamp_measured None = refl
stamp_measured (Some (stamp.Implicit t)) = length_octets 3 t
stamp_measured (Some (stamp.Explicit p t)) = simp (length-append, length_octets)
stamp_measured (Some (stamp.Binary t)) = length_octets 4 t

pub rest_measured : (f : Fields) {a q h t x : ℕ} → a ≡ addresses_size f.addresses → q ≡ qos_flag f.qos → h ≡ octet_flag f.hops
    → t ≡ timestamp_size f.stamp → x ≡ octet_flag f.expanded → a + q + h + t + x ≡ length (rest_octets f)
unfolding rest_octets
rest_measured f ea eq eh et ex =
    let b = addresses_measured f.addresses in
    let s = stamp_measured f.stamp in
    simp (length-append, qos_length, octet_length) (omega (arith, ea, eq, eh, et, ex, b, s))

pub all_measured : (f : Fields) {second third p q rest : ℕ} → second ≡ second_octet f → third ≡ third_octet f → p ≡ present second → q ≡ present third
    → rest ≡ length (rest_octets f) → 3 + p + q + rest + 2 * f.checksum ≡ size_of f
unfolding size_of
all_measured f es et ep eq er =
    let a = ep ∙ ap present es in
    let b = eq ∙ ap present et in
    omega (arith, a, b, er)

-- each is a small number
addresses_le : (a : Addresses) → addresses_size a ≤ 32
addresses_le (BasicPath d) = omega arith
addresses_le (ExtendedPath p) = omega arith
addresses_le (BasicEndSystem d s) = omega arith
addresses_le (ExtendedEndSystem d s) = omega arith
addresses_le (Ipv6 d s) = omega arith

stamp_le : (t : Option Timestamp) → timestamp_size t ≤ 8
stamp_le None = omega arith
stamp_le (Some (stamp.Implicit t)) = omega arith
stamp_le (Some (stamp.Explicit p t)) = omega arith
stamp_le (Some (stamp.Binary t)) = omega arith

pub few_addresses : (a : Addresses) {n : ℕ} → n ≡ addresses_size a → n ≤ 32
few_addresses a e = omega (arith, e, addresses_le a)

pub few_qos : (q : Option Qos) {n : ℕ} → n ≡ qos_flag q → n ≤ 1
few_qos q e = omega (arith, e, qos_flag_le q)

pub few_octet : (o : Option ℕ) {n : ℕ} → n ≡ octet_flag o → n ≤ 1
few_octet o e = omega (arith, e, octet_flag_le o)

pub few_stamp : (t : Option Timestamp) {n : ℕ} → n ≡ timestamp_size t → n ≤ 8
few_stamp t e = omega (arith, e, stamp_le t)
