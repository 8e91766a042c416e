-- The octets of a header (003, 3.2.2.1: the elements in their order; page 01: the shortest control field, unused bits zero).
-- Assumes nothing.
use Rattle.std.specs.Prelude.{ℕ, ◌+◌, ◌*◌, List, [], ◌∷◌, ◌++◌, length, eqb, Option, Some, None}
use Rattle.checks.specs.Order.{pick, Checks, first_of, Refusals, numbered}
use Rattle.octets.specs.Octets.{octets, fronted}
use Rattle.checksum.specs.Sum.{checksum_of}
use Rattle.header.specs.Limits.{length_limit, lacks_room, too_much_data}
use Rattle.header.specs.Form.{bit_weight, time_size}
use Rattle.header.specs.Range.{out_of_range}
use Rattle.header.specs.declared.Six.{Six}
use Rattle.header.specs.declared.Addresses.{Addresses}
use Rattle.header.specs.declared.Addresses.TheVariants.{BasicPath, ExtendedPath, BasicEndSystem, ExtendedEndSystem, Ipv6}
use Rattle.header.specs.declared.Qos.{Qos}
use Rattle.header.specs.declared.Timestamp.{Timestamp}
use Rattle.header.specs.declared.Timestamp.TheVariants as stamp
use Rattle.header.specs.declared.Fields.{Fields}
use Rattle.checks.specs.Told.{Told, Good, Refused, told_by}
use Rattle.checks.specs.declared.Refusal.TheVariants.{NoOutputRoom, FieldOutOfRange, TooMuchData}

-- ---- the octets of each element

unfoldable pub six_octets : Six → List ℕ
six_octets a = octets 8 a.high ++ octets 8 a.low

unfoldable pub addresses_octets : Addresses → List ℕ
addresses_octets (BasicPath d) = octets 1 d
addresses_octets (ExtendedPath p) = octets 4 p.0
addresses_octets (BasicEndSystem d s) = octets 1 d ++ octets 1 s
addresses_octets (ExtendedEndSystem d s) = octets 4 d.0 ++ octets 4 s.0
addresses_octets (Ipv6 d s) = six_octets d ++ six_octets s

unfoldable pub qos_octets : Option Qos → List ℕ
qos_octets None = []
qos_octets (Some q) = octets 1 (q.precedence * 16 + q.routing * 4 + q.program)

unfoldable pub octet_octets : Option ℕ → List ℕ
octet_octets None = []
octet_octets (Some v) = octets 1 v

unfoldable pub stamp_octets : Option Timestamp → List ℕ
stamp_octets None = []
stamp_octets (Some (stamp.Implicit t)) = octets 3 t
stamp_octets (Some (stamp.Explicit p t)) = octets 1 p ++ octets (time_size p) t
stamp_octets (Some (stamp.Binary t)) = octets 4 t

-- ---- the control field

-- the address flags (003, table 3-6)
abbrev pub source_flag : Addresses → ℕ
source_flag (BasicPath d) = 0
source_flag (ExtendedPath p) = 0
source_flag (BasicEndSystem d s) = 1
source_flag (ExtendedEndSystem d s) = 1
source_flag (Ipv6 d s) = 1

abbrev pub extended_flag : Addresses → ℕ
extended_flag (BasicPath d) = 0
extended_flag (ExtendedPath p) = 1
extended_flag (BasicEndSystem d s) = 0
extended_flag (ExtendedEndSystem d s) = 1
extended_flag (Ipv6 d s) = 0

abbrev pub ipv6_flag : Addresses → ℕ
ipv6_flag (BasicPath d) = 0
ipv6_flag (ExtendedPath p) = 0
ipv6_flag (BasicEndSystem d s) = 0
ipv6_flag (ExtendedEndSystem d s) = 0
ipv6_flag (Ipv6 d s) = 1

abbrev pub qos_flag : Option Qos → ℕ
qos_flag None = 0
qos_flag (Some q) = 1

abbrev pub octet_flag : Option ℕ → ℕ
octet_flag None = 0
octet_flag (Some v) = 1

-- the timestamp's format (003, table 3-4, bits 27 and 28)
abbrev pub format_of : Option Timestamp → ℕ
format_of None = 0
format_of (Some (stamp.Implicit t)) = 1
format_of (Some (stamp.Explicit p t)) = 2
format_of (Some (stamp.Binary t)) = 3

-- a control octet is there only where it says something: the shortest control field
abbrev pub present : ℕ → ℕ
present n = pick (eqb n 0) 0 1

-- bits 32 to 39, 24 to 31 and 20 to 23 (003, table 3-4)
unfoldable pub third_octet : Fields → ℕ
third_octet f = bit_weight 33 * ipv6_flag f.addresses + bit_weight 34 * octet_flag f.expanded + bit_weight 35 * f.intermediate

unfoldable pub second_octet : Fields → ℕ
second_octet f =
    bit_weight 24 * present (third_octet f) + bit_weight 25 * source_flag f.addresses + bit_weight 26 * octet_flag f.hops + bit_weight 28 * format_of f.stamp
    + bit_weight 30 * qos_flag f.qos + bit_weight 31 * extended_flag f.addresses

unfoldable pub first_bits : Fields → ℕ
first_bits f = bit_weight 20 * present (second_octet f) + bit_weight 22 + bit_weight 23 * f.checksum

-- ---- the header whole

-- version 001 above the length field; TP-ID and bits 20 to 23; the rest of the control field
unfoldable pub front_octets : ℕ → ℕ → ℕ → ℕ → List ℕ
front_octets length x second third = octets 2 (length_limit + length) ++ (octets 1 x ++ (octets (present second) second ++ octets (present third) third))

unfoldable pub rest_octets : Fields → List ℕ
rest_octets f =
    addresses_octets f.addresses ++ (qos_octets f.qos ++ (octet_octets f.hops ++ (stamp_octets f.stamp ++ octet_octets f.expanded)))

-- all octets before the checksum
unfoldable pub body_octets : Fields → ℕ → List ℕ
body_octets f length = front_octets length (f.tpid * 16 + first_bits f) (second_octet f) (third_octet f) ++ rest_octets f

-- the checksum element after these octets, where it is asked for (003, 3.2.3.10)
unfoldable pub checksum_octets : ℕ → List ℕ → List ℕ
checksum_octets on body = pick (eqb on 1) (octets 2 (checksum_of (body ++ 0 ∷ 0 ∷ []))) []

-- the header's own length
unfoldable pub size_of : Fields → ℕ
size_of f = 3 + present (second_octet f) + present (third_octet f) + length (rest_octets f) + 2 * f.checksum

-- the header of a datagram with n octets of user data
unfoldable pub header_octets : Fields → ℕ → List ℕ
header_octets f n = body_octets f (size_of f + n) ++ checksum_octets f.checksum (body_octets f (size_of f + n))

-- ---- the builder (page 01, "Refusal numbers")

-- no room; a field out of range; too much data
abbrev pub build_refusals : Fields → ℕ → ℕ → Refusals
build_refusals f n room = (lacks_room room, NoOutputRoom) ∷ (out_of_range f, FieldOutOfRange) ∷ (too_much_data n, TooMuchData) ∷ []

unfoldable pub build_checks : Fields → ℕ → ℕ → Checks
build_checks f n room = numbered (build_refusals f n room)

-- what building tells: the octets of the header that was written, or the first check's number
abbrev pub Built : Type 0
Built = Told ℕ

abbrev pub built_by : ℕ → ℕ → Built
built_by = told_by

unfoldable pub built_of : Fields → ℕ → ℕ → Built
built_of f n room = built_by (first_of (build_checks f n room)) (size_of f)

-- what the output then holds
abbrev pub output_by : Built → List ℕ → List ℕ → List ℕ
output_by (Refused n) header lent = lent
output_by (Good size) header lent = fronted header lent

unfoldable pub built_output : Fields → ℕ → List ℕ → List ℕ
built_output f n lent = output_by (built_of f n (length lent)) (header_octets f n) lent
