-- How many octets the elements have that differ in width: 003, tables 3-5 and 3-4. Laws `addresses_measured` and `stamp_measured`: as many as are
-- written. Assumes nothing.
use Rattle.std.specs.Prelude.{ℕ, ◌+◌, Option, Some, None}
use Rattle.header.specs.Form.{time_size}
use Rattle.header.specs.declared.Addresses.{Addresses}
use Rattle.header.specs.declared.Addresses.TheVariants.{BasicPath, ExtendedPath, BasicEndSystem, ExtendedEndSystem, Ipv6}
use Rattle.header.specs.declared.Timestamp.{Timestamp}
use Rattle.header.specs.declared.Timestamp.TheVariants as stamp

abbrev pub addresses_size : Addresses → ℕ
addresses_size (BasicPath d) = 1
addresses_size (ExtendedPath p) = 4
addresses_size (BasicEndSystem d s) = 2
addresses_size (ExtendedEndSystem d s) = 8
addresses_size (Ipv6 d s) = 32

abbrev pub timestamp_size : Option Timestamp → ℕ
timestamp_size None = 0
timestamp_size (Some (stamp.Implicit t)) = 3
timestamp_size (Some (stamp.Explicit p t)) = 1 + time_size p
timestamp_size (Some (stamp.Binary t)) = 4
