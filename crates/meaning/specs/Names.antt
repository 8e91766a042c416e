-- What the addresses of a header name, by the address of the port that it came in by (page 01, steps 4 to 6). Assumes nothing.
use Rattle.std.specs.Prelude.{ℕ, ◌+◌, ◌*◌, Bool, true, false, not, ◌&&◌, ◌||◌, eqb, Option, Some, None}
use Rattle.address.specs.Class.{class_of, class_number}
use Rattle.address.specs.Path.{path_form, path_number}
use Rattle.address.specs.declared.Address.{Address}
use Rattle.header.specs.Build.{ipv6_flag}
use Rattle.header.specs.declared.Fields.{Fields}
use Rattle.header.specs.declared.Addresses.{Addresses}
use Rattle.header.specs.declared.Addresses.TheVariants.{BasicPath, ExtendedPath, BasicEndSystem, ExtendedEndSystem, Ipv6}
use Rattle.header.specs.declared.Qos.{Qos}
use Rattle.networks.specs.Networks.{in_net10, domain_of}
use Rattle.meaning.specs.declared.Aim.{Aim}
use Rattle.meaning.specs.declared.Aim.TheVariants.{Node, Path, Uncarried}

-- step 5: the first three octets of the arrival port's address, then the octet
abbrev pub filled_in : ℕ → ℕ → ℕ
filled_in port z = domain_of (record { 0 = port }) * 256 + z

-- what the destination names; a header without a source carries a path
unfoldable pub aim_of : ℕ → Addresses → Aim
aim_of port (BasicPath z) = Path (record { 0 = filled_in port z })
aim_of port (ExtendedPath p) = Path p
aim_of port (BasicEndSystem z s) = Node (record { 0 = filled_in port z })
aim_of port (ExtendedEndSystem d s) = Node d
aim_of port (Ipv6 d s) = Uncarried

-- what the source names, where there is one
unfoldable pub origin_of : ℕ → Addresses → Option Address
origin_of port (BasicPath z) = None
origin_of port (ExtendedPath p) = None
origin_of port (BasicEndSystem d z) = Some (record { 0 = filled_in port z })
origin_of port (ExtendedEndSystem d s) = Some s
origin_of port (Ipv6 d s) = None

-- the addresses are of one octet
abbrev pub is_basic : Addresses → Bool
is_basic (BasicPath z) = true
is_basic (ExtendedPath p) = false
is_basic (BasicEndSystem d s) = true
is_basic (ExtendedEndSystem d s) = false
is_basic (Ipv6 d s) = false

-- a path of one octet: no other header can carry it, so that it is bound to its domain (page 02, W-214: "one-octet paths keep 13")
abbrev pub is_bound : Addresses → ℕ
is_bound (BasicPath z) = 1
is_bound (ExtendedPath p) = 0
is_bound (BasicEndSystem d s) = 0
is_bound (ExtendedEndSystem d s) = 0
is_bound (Ipv6 d s) = 0

abbrev pub routing_asked : Option Qos → ℕ
routing_asked None = 0
routing_asked (Some q) = q.routing

-- 003, table 3-7: the routing requirement of a flood
abbrev pub flood_routing : ℕ
flood_routing = 3

-- 8: routing requirements not 0, but for the flood value (page 02, W-207), or IPv6 addresses
abbrev pub carried_routing : ℕ → Bool
carried_routing n = eqb n 0 || eqb n flood_routing

abbrev pub not_carried : Fields → Bool
not_carried f = not (carried_routing (routing_asked f.qos)) || not (eqb (ipv6_flag f.addresses) 0)

-- 7: a one-octet address, and the arrival port's address does not begin with 10
abbrev pub no_domain : Address → Addresses → Bool
no_domain port a = is_basic a && not (in_net10 port)

-- 6: an invalid destination or path, or a source present and not unicast
abbrev pub bad_class : ℕ → Bool
bad_class v = eqb (class_number (class_of v)) 0

abbrev pub bad_path : ℕ → Bool
bad_path v = eqb (path_number (path_form v)) 0

abbrev pub bad_aim : Aim → Bool
bad_aim (Node a) = bad_class a.0
bad_aim (Path p) = bad_path p.0
bad_aim Uncarried = true

abbrev pub not_unicast : ℕ → Bool
not_unicast v = not (eqb (class_number (class_of v)) 1)

abbrev pub bad_source : Option Address → Bool
bad_source (Some a) = not_unicast a.0
bad_source None = false
