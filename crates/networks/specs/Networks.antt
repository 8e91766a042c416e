-- The networks of an address and their broadcasts: page 01, "Local half" (a broadcast of ours), step 5 (the first octet, the first
-- three octets) and refusal 13. Assumes nothing.
use Rattle.std.specs.Prelude.{ℕ, ◌+◌, ◌-◌, ◌*◌, ◌/◌, ◌^◌, Bool, eqb, Option, Some, None}
use Rattle.std.specs.Int.Bits.{bit_or}
use Rattle.address.specs.Octets.{dotted}
use Rattle.address.specs.Class.{family_of}
use Rattle.address.specs.declared.Address.{Address}
use Rattle.address.specs.declared.Mask.{Mask}
use Rattle.address.specs.declared.Family.{Family}
use Rattle.address.specs.declared.Family.TheVariants.{Net, Scps, Multicast, Invalid}

-- the address begins with 10 (step 5)
abbrev pub in_net10 : Address → Bool
in_net10 a = eqb (a.0 / 2 ^ 24) 10

-- the first three octets, as one number (step 5, and refusal 13)
abbrev pub domain_of : Address → ℕ
domain_of a = a.0 / 2 ^ 8

-- of the networks of so many addresses each, the last address of the one that v lies in
abbrev pub last_of : ℕ → ℕ → ℕ
last_of v hosts = v / hosts * hosts + (hosts - 1)

-- "a port's own subnet with host bits all ones under that port's mask": a bit is one where the mask's is zero, and the address's elsewhere
unfoldable pub subnet_broadcast : Address → Mask → Address
subnet_broadcast a m = record { 0 = bit_or a.0 (2 ^ 32 - 1 - m.0) }

-- "net broadcast of a port's class network", or "10.255.255.255 with a port in 10", by what the first octet says
unfoldable pub broadcast_in : Family → ℕ → Option Address
broadcast_in (Net hosts) v = Some (record { 0 = last_of v hosts })
broadcast_in Scps v = Some (record { 0 = dotted 10 255 255 255 })
broadcast_in Multicast v = None
broadcast_in Invalid v = None

unfoldable pub class_broadcast : Address → Option Address
class_broadcast a = broadcast_in (family_of (a.0 / 2 ^ 24)) a.0
