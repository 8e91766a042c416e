-- The form of a header: control bits (003, table 3-4), what they forbid (tables 3-4, 3-6, 3-8) and where each element stands (3.2.2.1).
-- Assumes nothing.
use Rattle.std.specs.Prelude.{ℕ, ◌+◌, ◌*◌, ◌-◌, ◌/◌, ◌%◌, ◌^◌, List, Bool, not, ◌&&◌, ◌||◌, eqb}
use Rattle.checks.specs.Order.{pick}
use Rattle.octets.specs.Octets.{octet}
use Rattle.header.specs.declared.Control.{Control}
use Rattle.header.specs.declared.Layout.{Layout}

-- ---- the control bits, by their numbers in table 3-4

-- what bit n weighs in its octet: bits are counted from the most significant of the first octet (003, 1.6.1)
abbrev pub bit_weight : ℕ → ℕ
bit_weight n = 2 ^ (7 - n % 8)

-- bit n of the octet that has it
abbrev pub header_bit : ℕ → ℕ → ℕ
header_bit n octet = octet / bit_weight n % 2

-- bits 20 and 24, of the number that has each: whether a second control octet follows the first four bits, and a third the second
abbrev pub second_follows : ℕ → ℕ
second_follows first = header_bit 20 first

abbrev pub third_follows : ℕ → ℕ
third_follows second = header_bit 24 second

-- the control field of the octets s; an octet that is not there counts as 0 (003, 3.2.3.4.3)
abbrev pub first_control : List ℕ → ℕ
first_control s = octet s 2 % 16

abbrev pub second_control : List ℕ → ℕ
second_control s = second_follows (first_control s) * octet s 3

abbrev pub third_control : List ℕ → ℕ
third_control s = third_follows (second_control s) * octet s 4

unfoldable pub control_of : List ℕ → Control
control_of s =
    record {
      first = first_control s;
      second = second_control s;
      third = third_control s;
      end = 3 + second_follows (first_control s) + third_follows (second_control s);
    }

abbrev pub reserved21 : Control → ℕ
reserved21 k = header_bit 21 k.first

abbrev pub has_destination : Control → ℕ
has_destination k = header_bit 22 k.first

abbrev pub has_checksum : Control → ℕ
has_checksum k = header_bit 23 k.first

abbrev pub has_source : Control → ℕ
has_source k = header_bit 25 k.second

abbrev pub has_hops : Control → ℕ
has_hops k = header_bit 26 k.second

-- bits 27 and 28 as one number
abbrev pub stamp_format : Control → ℕ
stamp_format k = k.second / bit_weight 28 % 4

abbrev pub reserved29 : Control → ℕ
reserved29 k = header_bit 29 k.second

abbrev pub has_qos : Control → ℕ
has_qos k = header_bit 30 k.second

abbrev pub is_extended : Control → ℕ
is_extended k = header_bit 31 k.second

abbrev pub fourth_follows : Control → ℕ
fourth_follows k = header_bit 32 k.third

abbrev pub is_ipv6 : Control → ℕ
is_ipv6 k = header_bit 33 k.third

abbrev pub has_expanded : Control → ℕ
has_expanded k = header_bit 34 k.third

abbrev pub is_intermediate : Control → ℕ
is_intermediate k = header_bit 35 k.third

-- bits 36 to 39 as one number: what is below bit 35
abbrev pub unassigned : Control → ℕ
unassigned k = k.third % bit_weight 35

-- ---- what they forbid

-- what 003 does not allow (tables 3-4, 3-6 and 3-8; page 01, refusal 4): IPv6 addresses that are extended or have no source; reserved and
-- unassigned bits set, a fourth control octet, no destination
abbrev pub wrong_ipv6 : ℕ → ℕ → ℕ → Bool
wrong_ipv6 ipv6 extended sourced = eqb ipv6 1 && (eqb extended 1 || eqb sourced 0)

unfoldable pub forbidden : Control → Bool
forbidden k =
    eqb (reserved21 k) 1 || (eqb (has_destination k) 0 || (eqb (reserved29 k) 1 || (eqb (fourth_follows k) 1
    || (not (eqb (unassigned k) 0) || wrong_ipv6 (is_ipv6 k) (is_extended k) (has_source k)))))

-- ---- where each element stands

-- octets of one address (table 3-5)
unfoldable pub address_size : Control → ℕ
address_size k = pick (eqb (is_ipv6 k) 1) 16 (pick (eqb (is_extended k) 1) 4 1)

-- octets of the time field that a P-field gives: bits 4 and 5 are one less than its whole octets, bits 6 and 7 its octets of fractions (003, 3.2.3.8.3)
abbrev pub time_size : ℕ → ℕ
time_size p = 1 + p / 4 % 4 + p % 4

-- octets of a timestamp, by its format and its first octet (003, 3.2.3.8.3)
unfoldable pub stamp_size : ℕ → ℕ → ℕ
stamp_size f p = pick (eqb f 0) 0 (pick (eqb f 1) 3 (pick (eqb f 2) (1 + time_size p) 4))

-- the elements follow each other in the order of 003, 3.2.2.1
abbrev pub qos_place : Control → ℕ
qos_place k = k.end + address_size k + has_source k * address_size k

abbrev pub hops_place : Control → ℕ
hops_place k = qos_place k + has_qos k

abbrev pub stamp_place : Control → ℕ
stamp_place k = hops_place k + has_hops k

abbrev pub expanded_place : List ℕ → Control → ℕ
expanded_place s k = stamp_place k + stamp_size (stamp_format k) (octet s (stamp_place k))

abbrev pub checksum_place : List ℕ → Control → ℕ
checksum_place s k = expanded_place s k + has_expanded k

unfoldable pub layout_of : List ℕ → Control → Layout
layout_of s k =
    record {
      qos = qos_place k;
      hops = hops_place k;
      stamp = stamp_place k;
      expanded = expanded_place s k;
      checksum = checksum_place s k;
      size = checksum_place s k + 2 * has_checksum k;
    }

-- the layout of the octets themselves
abbrev pub places_of : List ℕ → Layout
places_of s = layout_of s (control_of s)
