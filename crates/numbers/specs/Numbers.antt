-- The numbers of a header's fields, as C gets them (include/harpjuniper.h, hj_fields): 0 for what is absent. Assumes nothing.
use Rattle.std.specs.Prelude.{ℕ, Option, Some, None}
use Rattle.header.specs.Build.{source_flag, extended_flag, ipv6_flag, qos_flag, octet_flag, format_of}
use Rattle.header.specs.declared.Addresses.{Addresses}
use Rattle.header.specs.declared.Addresses.TheVariants.{BasicPath, ExtendedPath, BasicEndSystem, ExtendedEndSystem, Ipv6}
use Rattle.header.specs.declared.Qos.{Qos}
use Rattle.header.specs.declared.Timestamp.{Timestamp}
use Rattle.header.specs.declared.Timestamp.TheVariants as stamp
use Rattle.header.specs.declared.Fields.{Fields}
use Rattle.numbers.specs.declared.Wide.{Wide}
use Rattle.numbers.specs.declared.Numbers.{Numbers}

-- a number that fits the lower half
abbrev pub narrow : ℕ → Wide
narrow v = record { high = 0; low = v }

abbrev pub destination_number : Addresses → Wide
destination_number (BasicPath d) = narrow d
destination_number (ExtendedPath p) = narrow p.0
destination_number (BasicEndSystem d s) = narrow d
destination_number (ExtendedEndSystem d s) = narrow d.0
destination_number (Ipv6 d s) = record { high = d.high; low = d.low }

abbrev pub source_number : Addresses → Wide
source_number (BasicPath d) = narrow 0
source_number (ExtendedPath p) = narrow 0
source_number (BasicEndSystem d s) = narrow s
source_number (ExtendedEndSystem d s) = narrow s.0
source_number (Ipv6 d s) = record { high = s.high; low = s.low }

abbrev pub precedence_number : Option Qos → ℕ
precedence_number None = 0
precedence_number (Some q) = q.precedence

abbrev pub routing_number : Option Qos → ℕ
routing_number None = 0
routing_number (Some q) = q.routing

abbrev pub program_number : Option Qos → ℕ
program_number None = 0
program_number (Some q) = q.program

abbrev pub octet_number : Option ℕ → ℕ
octet_number None = 0
octet_number (Some v) = v

abbrev pub time_number : Option Timestamp → ℕ
time_number None = 0
time_number (Some (stamp.Implicit t)) = t
time_number (Some (stamp.Explicit p t)) = t
time_number (Some (stamp.Binary t)) = t

abbrev pub pfield_number : Option Timestamp → ℕ
pfield_number None = 0
pfield_number (Some (stamp.Implicit t)) = 0
pfield_number (Some (stamp.Explicit p t)) = p
pfield_number (Some (stamp.Binary t)) = 0

unfoldable pub numbers_of : Fields → Numbers
numbers_of f =
    record {
      destination = destination_number f.addresses;
      source = source_number f.addresses;
      time = time_number f.stamp;
      tpid = f.tpid;
      sourced = source_flag f.addresses;
      extended = extended_flag f.addresses;
      ipv6 = ipv6_flag f.addresses;
      qualified = qos_flag f.qos;
      precedence = precedence_number f.qos;
      routing = routing_number f.qos;
      program = program_number f.qos;
      counted = octet_flag f.hops;
      hops = octet_number f.hops;
      format = format_of f.stamp;
      pfield = pfield_number f.stamp;
      expands = octet_flag f.expanded;
      expanded = octet_number f.expanded;
      checksum = f.checksum;
      intermediate = f.intermediate;
    }
