-- The meaning of addresses: what it rests on, and what it does not. Assumes nothing.
use Prim.Native.Nat.{ℕ, ◌<◌}
use mathlib.Core.Path.{◌≡◌, refl}
use mathlib.Core.Bool.{false}
use native.Mathlib.Omega.{arith}
use Rattle.std.proofs.Common.{Some}
use Rattle.checks.proofs.Bools.{true_false}
use Rattle.header.specs.declared.Addresses.{Addresses}
use Rattle.header.specs.declared.Addresses.TheVariants.{BasicPath, ExtendedPath, BasicEndSystem, ExtendedEndSystem, Ipv6}
use Rattle.networks.specs.Networks.{domain_of}
use Rattle.meaning.specs.Names.{filled_in, aim_of, origin_of, is_basic}
use Rattle.meaning.specs.declared.Aim.TheVariants.{Node, Path}

-- what the code hands together
pub path_filled : (port z v : ℕ) → v ≡ filled_in port z → Path (record { 0 = v }) ≡ aim_of port (BasicPath z)
unfolding aim_of
path_filled port z v e = rw e

pub node_filled : (port z s v : ℕ) → v ≡ filled_in port z → Node (record { 0 = v }) ≡ aim_of port (BasicEndSystem z s)
unfolding aim_of
node_filled port z s v e = rw e

pub from_filled : (port d z v : ℕ) → v ≡ filled_in port z → Some (record { 0 = v }) ≡ origin_of port (BasicEndSystem d z)
unfolding origin_of
from_filled port d z v e = rw e

-- the meaning law: at two ports of one domain, the same addresses name the same systems, paths and sources
pub same_domain_same_aim : (port other : ℕ) (a : Addresses) → domain_of (record { 0 = port }) ≡ domain_of (record { 0 = other }) → aim_of port a ≡ aim_of other a
unfolding aim_of
same_domain_same_aim port other (BasicPath z) e = rw e
same_domain_same_aim port other (ExtendedPath p) e = refl
same_domain_same_aim port other (BasicEndSystem z s) e = rw e
same_domain_same_aim port other (ExtendedEndSystem d s) e = refl
same_domain_same_aim port other (Ipv6 d s) e = refl

pub same_domain_same_origin : (port other : ℕ) (a : Addresses) → domain_of (record { 0 = port }) ≡ domain_of (record { 0 = other }) → origin_of port a ≡ origin_of other a
unfolding origin_of
same_domain_same_origin port other (BasicPath z) e = refl
same_domain_same_origin port other (ExtendedPath p) e = refl
same_domain_same_origin port other (BasicEndSystem d z) e = rw e
same_domain_same_origin port other (ExtendedEndSystem d s) e = refl
same_domain_same_origin port other (Ipv6 d s) e = refl

-- and at any two ports where no address has one octet
pub extended_same_aim : (port other : ℕ) (a : Addresses) → is_basic a ≡ false → aim_of port a ≡ aim_of other a
unfolding aim_of
extended_same_aim port other (BasicPath z) e = true_false e
extended_same_aim port other (ExtendedPath p) e = refl
extended_same_aim port other (BasicEndSystem z s) e = true_false e
extended_same_aim port other (ExtendedEndSystem d s) e = refl
extended_same_aim port other (Ipv6 d s) e = refl

pub extended_same_origin : (port other : ℕ) (a : Addresses) → is_basic a ≡ false → origin_of port a ≡ origin_of other a
unfolding origin_of
extended_same_origin port other (BasicPath z) e = true_false e
extended_same_origin port other (ExtendedPath p) e = refl
extended_same_origin port other (BasicEndSystem d z) e = true_false e
extended_same_origin port other (ExtendedEndSystem d s) e = refl
extended_same_origin port other (Ipv6 d s) e = refl

-- why that matters: in two domains, one octet names two systems
pub other_domain_other_node : (port other z : ℕ) → z < 256 → filled_in port z ≡ filled_in other z → domain_of (record { 0 = port }) ≡ domain_of (record { 0 = other })
other_domain_other_node port other z small e = omega arith
