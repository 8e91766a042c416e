-- The fields that numbers stand for, by the lower bits of each number. Assumes nothing.
use Rattle.std.specs.Prelude.{ℕ, ◌%◌, ◌^◌, eqb, Option, Some, None}
use Rattle.checks.specs.Order.{pick}
use Rattle.header.specs.declared.Addresses.{Addresses}
use Rattle.header.specs.declared.Addresses.TheVariants.{BasicPath, ExtendedPath, BasicEndSystem, ExtendedEndSystem, Ipv6}
use Rattle.header.specs.declared.Qos.{Qos}
use Rattle.header.specs.declared.Timestamp.{Timestamp}
use Rattle.header.specs.declared.Timestamp.TheVariants as stamp
use Rattle.header.specs.declared.Fields.{Fields}
use Rattle.numbers.specs.declared.Numbers.{Numbers}

unfoldable pub addresses_from : Numbers → Addresses
addresses_from n =
    pick (eqb n.ipv6 1)
    (Ipv6 (record { high = n.destination.high; low = n.destination.low }) (record { high = n.source.high; low = n.source.low }))
    (pick (eqb n.extended 1)
    (pick (eqb n.sourced 1) (ExtendedEndSystem (record { 0 = n.destination.low % 256 ^ 4 }) (record { 0 = n.source.low % 256 ^ 4 }))
    (ExtendedPath (record { 0 = n.destination.low % 256 ^ 4 })))
    (pick (eqb n.sourced 1) (BasicEndSystem (n.destination.low % 256) (n.source.low % 256)) (BasicPath (n.destination.low % 256))))

unfoldable pub qos_from : Numbers → Option Qos
qos_from n = pick (eqb n.qualified 0) None (Some (record { precedence = n.precedence % 256; routing = n.routing % 256; program = n.program % 256 }))

unfoldable pub octet_from : ℕ → ℕ → Option ℕ
octet_from on v = pick (eqb on 0) None (Some (v % 256))

unfoldable pub stamp_from : Numbers → Option Timestamp
stamp_from n =
    pick (eqb n.format 0) None
    (pick (eqb n.format 1) (Some (stamp.Implicit n.time))
    (pick (eqb n.format 2) (Some (stamp.Explicit (n.pfield % 256) n.time)) (Some (stamp.Binary n.time))))

unfoldable pub fields_from : Numbers → Fields
fields_from n =
    record {
      tpid = n.tpid % 256;
      addresses = addresses_from n;
      qos = qos_from n;
      hops = octet_from n.counted n.hops;
      stamp = stamp_from n;
      expanded = octet_from n.expands n.expanded;
      checksum = n.checksum % 256;
      intermediate = n.intermediate % 256;
    }
