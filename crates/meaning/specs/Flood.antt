-- A flooded datagram, and its pair of source and timestamp: page 02, W-207. Assumes nothing.
use Rattle.std.specs.Prelude.{ℕ, ◌+◌, ◌*◌, ◌/◌, ◌%◌, ◌^◌, Bool, ◌&&◌, ◌||◌, eqb, Option, Some, None}
use Rattle.address.specs.declared.Address.{Address}
use Rattle.header.specs.Build.{source_flag, format_of}
use Rattle.header.specs.declared.Fields.{Fields}
use Rattle.header.specs.declared.Timestamp.{Timestamp}
use Rattle.header.specs.declared.Timestamp.TheVariants as stamp
use Rattle.records.specs.declared.Pair.{Pair}
use Rattle.meaning.specs.Names.{routing_asked, flood_routing, origin_of}

-- "the flood value of table 3-7"
abbrev pub is_flooded : Fields → Bool
is_flooded f = eqb (routing_asked f.qos) flood_routing

-- 28: "A flooded datagram needs a source address and a timestamp"
abbrev pub unmarked : Fields → Bool
unmarked f = is_flooded f && (eqb (source_flag f.addresses) 0 || eqb (format_of f.stamp) 0)

-- all octets of the timestamp in two words: the P-field, where there is one, above the time's upper part, and the time's lower part (law `stamp_told`)
abbrev pub upper_of : Option Timestamp → ℕ
upper_of None = 0
upper_of (Some (stamp.Implicit time)) = 0
upper_of (Some (stamp.Explicit field time)) = field * 2 ^ 24 + time / 2 ^ 32 % 2 ^ 24
upper_of (Some (stamp.Binary time)) = 0

abbrev pub lower_of : Option Timestamp → ℕ
lower_of None = 0
lower_of (Some (stamp.Implicit time)) = time % 2 ^ 32
lower_of (Some (stamp.Explicit field time)) = time % 2 ^ 32
lower_of (Some (stamp.Binary time)) = time % 2 ^ 32

-- the source's number, 0 where there is none
abbrev pub source_in : Option Address → ℕ
source_in (Some a) = a.0
source_in None = 0

-- "pairs of source and timestamp, format included": the source as it is filled in at the arrival port, so that both forms of one source are one pair
unfoldable pub pair_of : ℕ → Fields → Pair
pair_of port f =
    record {
      format = format_of f.stamp;
      source = record { 0 = source_in (origin_of port f.addresses) };
      upper = upper_of f.stamp;
      lower = lower_of f.stamp;
    }
