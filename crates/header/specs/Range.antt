-- Fields that can be built (page 01, refusal 19): each number fits its element. Assumes nothing.
use Rattle.std.specs.Prelude.{◌^◌, ◌<◌, Bool, false, ◌||◌, leb, Option, Some, None, ℕ}
use Rattle.header.specs.Form.{time_size}
use Rattle.header.specs.declared.Six.{Six}
use Rattle.header.specs.declared.Addresses.{Addresses}
use Rattle.header.specs.declared.Addresses.TheVariants.{BasicPath, ExtendedPath, BasicEndSystem, ExtendedEndSystem, Ipv6}
use Rattle.header.specs.declared.Qos.{Qos}
use Rattle.header.specs.declared.Timestamp.{Timestamp}
use Rattle.header.specs.declared.Timestamp.TheVariants as stamp
use Rattle.header.specs.declared.Fields.{Fields}

-- ---- what the builder tests: the numbers that their Rattle types do not bound already

abbrev pub qos_out_of_range : Option Qos → Bool
qos_out_of_range None = false
qos_out_of_range (Some q) = leb 16 q.precedence || (leb 4 q.routing || leb 4 q.program)

abbrev pub stamp_out_of_range : Option Timestamp → Bool
stamp_out_of_range None = false
stamp_out_of_range (Some (stamp.Implicit t)) = leb (256 ^ 3) t
stamp_out_of_range (Some (stamp.Explicit p t)) = leb (256 ^ time_size p) t
stamp_out_of_range (Some (stamp.Binary t)) = leb (256 ^ 4) t

unfoldable pub out_of_range : Fields → Bool
out_of_range f =
    leb 16 f.tpid || (leb 2 f.checksum || (leb 2 f.intermediate || (qos_out_of_range f.qos || stamp_out_of_range f.stamp)))

-- ---- the same said of each element, with the bounds of the types

abbrev pub SixFits : Six → Type 0
SixFits a = (a.high < 256 ^ 8) × (a.low < 256 ^ 8)

abbrev pub AddressesFit : Addresses → Type 0
AddressesFit (BasicPath d) = d < 256
AddressesFit (ExtendedPath p) = p.0 < 256 ^ 4
AddressesFit (BasicEndSystem d s) = (d < 256) × (s < 256)
AddressesFit (ExtendedEndSystem d s) = (d.0 < 256 ^ 4) × (s.0 < 256 ^ 4)
AddressesFit (Ipv6 d s) = SixFits d × SixFits s

abbrev pub QosFits : Option Qos → Type 0
QosFits None = Unit
QosFits (Some q) = (q.precedence < 16) × ((q.routing < 4) × (q.program < 4))

abbrev pub OctetFits : Option ℕ → Type 0
OctetFits None = Unit
OctetFits (Some v) = v < 256

abbrev pub StampFits : Option Timestamp → Type 0
StampFits None = Unit
StampFits (Some (stamp.Implicit t)) = t < 256 ^ 3
StampFits (Some (stamp.Explicit p t)) = (p < 256) × (t < 256 ^ time_size p)
StampFits (Some (stamp.Binary t)) = t < 256 ^ 4

pub record InRange (f : Fields) : Type 0 where
  pub tpid : f.tpid < 16
  pub addresses : AddressesFit f.addresses
  pub qos : QosFits f.qos
  pub hops : OctetFits f.hops
  pub stamp : StampFits f.stamp
  pub expanded : OctetFits f.expanded
  pub checksum : f.checksum < 2
  pub intermediate : f.intermediate < 2

-- ---- the bounds of the Rattle types of the fields; with them the builder's test is exact (`in_range`, `not_out`)

abbrev pub QosTyped : Option Qos → Type 0
QosTyped None = Unit
QosTyped (Some q) = (q.precedence < 256) × ((q.routing < 256) × (q.program < 256))

abbrev pub StampTyped : Option Timestamp → Type 0
StampTyped None = Unit
StampTyped (Some (stamp.Implicit t)) = t < 256 ^ 8
StampTyped (Some (stamp.Explicit p t)) = (p < 256) × (t < 256 ^ 8)
StampTyped (Some (stamp.Binary t)) = t < 256 ^ 8

pub record Typed (f : Fields) : Type 0 where
  pub tpid : f.tpid < 256
  pub addresses : AddressesFit f.addresses
  pub qos : QosTyped f.qos
  pub hops : OctetFits f.hops
  pub stamp : StampTyped f.stamp
  pub expanded : OctetFits f.expanded
  pub checksum : f.checksum < 256
  pub intermediate : f.intermediate < 256
