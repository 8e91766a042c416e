-- What reading octets finds (003, 3.2.3; page 01, steps 2 and 3). Assumes nothing.
use Rattle.std.specs.Prelude.{ℕ, ◌+◌, ◌*◌, ◌/◌, ◌%◌, List, [], ◌∷◌, Bool, not, ◌&&◌, ◌||◌, length, eqb, ltb, Option, Some, None}
use Rattle.checks.specs.Order.{pick, Checks, first_of, Refusals, numbered}
use Rattle.octets.specs.Octets.{octet, number}
use Rattle.checksum.specs.Sum.{element_of}
use Rattle.header.specs.Form.{control_of, places_of, forbidden, time_size, has_checksum, has_source, has_hops, has_qos, has_expanded, stamp_format, is_extended, is_ipv6, is_intermediate}
use Rattle.checks.specs.Told.{Told, told_by}
use Rattle.checks.specs.declared.Refusal.TheVariants.{TooShort, OtherVersion, WrongForm, WrongLength, WrongChecksum}
use Rattle.header.specs.declared.Control.{Control}
use Rattle.header.specs.declared.Layout.{Layout}
use Rattle.header.specs.declared.Header.{Header}
use Rattle.header.specs.declared.Fields.{Fields}
use Rattle.header.specs.declared.Six.{Six}
use Rattle.header.specs.declared.Addresses.{Addresses}
use Rattle.header.specs.declared.Addresses.TheVariants.{BasicPath, ExtendedPath, BasicEndSystem, ExtendedEndSystem, Ipv6}
use Rattle.header.specs.declared.Qos.{Qos}
use Rattle.header.specs.declared.Timestamp.{Timestamp}
use Rattle.header.specs.declared.Timestamp.TheVariants as stamp

-- ---- the elements, each at its place

-- sixteen octets
unfoldable pub six_of : List ℕ → ℕ → Six
six_of s at = record { high = number s at 8; low = number s (at + 8) 8 }

-- the addresses, by the flags of table 3-6; no source means a path
unfoldable pub addresses_of : List ℕ → Control → Addresses
addresses_of s k =
    pick (eqb (is_ipv6 k) 1) (Ipv6 (six_of s k.end) (six_of s (k.end + 16)))
    (pick (eqb (is_extended k) 1)
    (pick (eqb (has_source k) 1) (ExtendedEndSystem (record { 0 = number s k.end 4 }) (record { 0 = number s (k.end + 4) 4 })) (ExtendedPath (record { 0 = number s k.end 4 })))
    (pick (eqb (has_source k) 1) (BasicEndSystem (octet s k.end) (octet s (k.end + 1))) (BasicPath (octet s k.end))))

-- basic QOS: four bits of precedence, two of routing requirements, two program specific (003, 3.2.3.6.2)
unfoldable pub qos_of : List ℕ → ℕ → ℕ → Option Qos
qos_of s on at = pick (eqb on 0) None (Some (record { precedence = octet s at / 16; routing = octet s at / 4 % 4; program = octet s at % 4 }))

-- an element of one octet
unfoldable pub octet_of : List ℕ → ℕ → ℕ → Option ℕ
octet_of s on at = pick (eqb on 0) None (Some (octet s at))

-- the timestamp, by its format (003, 3.2.3.8.3)
unfoldable pub stamp_of : List ℕ → ℕ → ℕ → Option Timestamp
stamp_of s f at =
    pick (eqb f 0) None
    (pick (eqb f 1) (Some (stamp.Implicit (number s at 3)))
    (pick (eqb f 2) (Some (stamp.Explicit (octet s at) (number s (at + 1) (time_size (octet s at)))))
    (Some (stamp.Binary (number s at 4)))))

-- ---- the header whole

-- the length field: bits 3 to 15
unfoldable pub length_of : List ℕ → ℕ
length_of s = octet s 0 % 32 * 256 + octet s 1

unfoldable pub fields_of : List ℕ → Control → Layout → Fields
fields_of s k l =
    record {
      tpid = octet s 2 / 16;
      addresses = addresses_of s k;
      qos = qos_of s (has_qos k) l.qos;
      hops = octet_of s (has_hops k) l.hops;
      stamp = stamp_of s (stamp_format k) l.stamp;
      expanded = octet_of s (has_expanded k) l.expanded;
      checksum = has_checksum k;
      intermediate = is_intermediate k;
    }

unfoldable pub header_of : List ℕ → Header
header_of s = record { fields = fields_of s (control_of s) (places_of s); length = length_of s; size = (places_of s).size }

-- ---- the checks, in page 01's order 1, 2, 1, 4, 3, 5

-- the version/protocol identifier, bits 0 to 2, is not 001 (003, 3.2.3.1.2)
abbrev pub other_version : List ℕ → Bool
other_version s = not (eqb (octet s 0 / 32) 1)

-- the octets end inside the control field
abbrev pub cut : List ℕ → Control → Bool
cut s k = ltb (length s) k.end

-- the length field is over the octets lent, or under the header's own length
abbrev pub misfit : List ℕ → Layout → Bool
misfit s l = ltb (length s) (length_of s) || ltb (length_of s) l.size

-- the checksum element is present and is not what it should be (003, 3.2.3.10)
abbrev pub wrong_checksum : List ℕ → Control → Layout → Bool
wrong_checksum s k l = eqb (has_checksum k) 1 && not (eqb (number s l.checksum 2) (element_of s l.checksum))

abbrev pub read_refusals : List ℕ → Refusals
read_refusals s =
    (ltb (length s) 3, TooShort) ∷ (other_version s, OtherVersion) ∷ (cut s (control_of s), TooShort) ∷ (forbidden (control_of s), WrongForm)
    ∷ (misfit s (places_of s), WrongLength) ∷ (wrong_checksum s (control_of s) (places_of s), WrongChecksum) ∷ []

unfoldable pub read_checks : List ℕ → Checks
read_checks s = numbered (read_refusals s)

-- what reading tells: the header, or the first check's number
abbrev pub Read : Type 0
Read = Told Header

abbrev pub read_by : ℕ → Header → Read
read_by = told_by

unfoldable pub read_of : List ℕ → Read
read_of s = read_by (first_of (read_checks s)) (header_of s)
