-- When a value of a setting is refused: page 01, "Settings", and the numbers of its "Refusal numbers". Each definition is the condition
-- that refuses. Assumes nothing.
use Rattle.std.specs.Prelude.{ℕ, ◌-◌, ◌%◌, ◌^◌, Bool, true, false, not, ◌&&◌, ◌||◌, eqb, ltb, Option, Some, None}
use Rattle.address.specs.Class.{between, class_number, class_of}
use Rattle.address.specs.Path.{path_form}
use Rattle.address.specs.Mask.{mask_form}
use Rattle.address.specs.declared.Address.{Address}
use Rattle.address.specs.declared.Mask.{Mask}
use Rattle.address.specs.declared.PathAddress.{PathAddress}
use Rattle.address.specs.declared.Class.{Class}
use Rattle.address.specs.declared.Class.TheVariants.{Unicast, Multicast}
use Rattle.address.specs.declared.PathForm.{PathForm}
use Rattle.address.specs.declared.PathForm.TheVariants.{Invalid, Valid}
use Rattle.networks.specs.Networks.{in_net10}

-- the address is of another class
unfoldable pub other_class : Class → Address → Bool
other_class c a = not (eqb (class_number (class_of a.0)) (class_number c))

-- 25: "a port has an address (unicast)"
abbrev pub port_class_refused : Address → Bool
port_class_refused a = other_class Unicast a

-- 25: "a group place has a multicast address"
abbrev pub group_class_refused : Address → Bool
group_class_refused a = other_class Multicast a

abbrev pub is_invalid : PathForm → Bool
is_invalid Invalid = true
is_invalid Valid = false

-- 25: "a path place has a path address", and a good one
unfoldable pub path_class_refused : PathAddress → Bool
path_class_refused p = is_invalid (path_form p.0)

-- "its mask has 8 to 30 ones, and exactly 24 where the address begins with 10"
unfoldable pub ones_refused : Address → ℕ → Bool
ones_refused a n = not (between 8 30 n) || (in_net10 a && not (eqb n 24))

-- the bits that a mask of n ones leaves are all ones
abbrev pub host_bits_all_ones : Address → ℕ → Bool
host_bits_all_ones a n = eqb (a.0 % 2 ^ (32 - n)) (2 ^ (32 - n) - 1)

-- by the form: ones and then zeros, or not
unfoldable pub form_refused : Address → Option ℕ → Bool
form_refused a None = true
form_refused a (Some n) = ones_refused a n || host_bits_all_ones a n

-- 22 of a port: "host bits are not all ones"
unfoldable pub port_mask_refused : Address → Mask → Bool
port_mask_refused a m = form_refused a (mask_form m.0)

-- 24: "an MTU of 1 to 8,191"
abbrev pub largest_mtu : ℕ
largest_mtu = 8191

abbrev pub mtu_refused : ℕ → Bool
mtu_refused mtu = not (between 1 largest_mtu mtu)

-- 24: a yes/no number that is neither 0 nor 1 (docs/DECISIONS.md, Settings)
abbrev pub flag_refused : ℕ → Bool
flag_refused v = not (eqb v 0 || eqb v 1)

-- 21: the place is none of so many, which are numbered from 0
abbrev pub place_refused : ℕ → ℕ → Bool
place_refused place places = not (ltb place places)
