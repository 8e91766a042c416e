-- The meaning law on the wire: page 02, W-214, "The address in the rewritten header always names the same system that the arriving octet named". And that
-- nothing is added but where it is asked for and lacking. Assumes nothing.
use native.Mathlib.Omega.{arith}
use Prim.Native.Nat.{ℕ, ◌-◌}
use mathlib.Core.Path.{◌≡◌, refl, sym, ◌∙◌}
use mathlib.Core.Bool.{Bool, true, false, ◌&&◌}
use mathlib.Core.Logic.{◌↔◌}
use lib.Dec.{eqb}
use borrow.Author.Tests.{eqb-true, eq-eqb}
use Rattle.std.specs.Prelude.{Option, Some, None}
use Rattle.checks.specs.Order.{pick}
use Rattle.checks.proofs.Bools.{true_false, and_true}
use Rattle.header.specs.declared.Addresses.{Addresses}
use Rattle.header.specs.declared.Addresses.TheVariants.{BasicPath, ExtendedPath, BasicEndSystem, ExtendedEndSystem, Ipv6}
use Rattle.header.specs.declared.Fields.{Fields}
use Rattle.meaning.specs.Names.{aim_of, origin_of, is_basic, is_bound}
use Rattle.meaning.proofs.Laws.{same_domain_same_aim, same_domain_same_origin, extended_same_aim, extended_same_origin}
use Rattle.networks.specs.Networks.{domain_of}
use Rattle.next_leg.specs.Leg.{asks_hops, asks_checksum, adds_hops, adds_checksum, adds, widened, first_hops, hops_next, next_fields}

-- ---- addresses, widened or in one domain

-- but for a path of one octet, widened addresses have more than one octet each
widened_wide : (arrival : ℕ) (a : Addresses) → (is_bound a ≡ 1 → ⊥) → is_basic (widened arrival a) ≡ false
widened_wide arrival (BasicPath z) free = absurd (free refl)
widened_wide arrival (ExtendedPath p) free = refl
widened_wide arrival (BasicEndSystem d s) free = refl
widened_wide arrival (ExtendedEndSystem d s) free = refl
widened_wide arrival (Ipv6 d s) free = refl

-- at the port that they came in by, they name what they named
widened_aim : (arrival : ℕ) (a : Addresses) → aim_of arrival (widened arrival a) ≡ aim_of arrival a
unfolding aim_of
widened_aim arrival (BasicPath z) = refl
widened_aim arrival (ExtendedPath p) = refl
widened_aim arrival (BasicEndSystem d s) = refl
widened_aim arrival (ExtendedEndSystem d s) = refl
widened_aim arrival (Ipv6 d s) = refl

widened_origin : (arrival : ℕ) (a : Addresses) → origin_of arrival (widened arrival a) ≡ origin_of arrival a
unfolding origin_of
widened_origin arrival (BasicPath z) = refl
widened_origin arrival (ExtendedPath p) = refl
widened_origin arrival (BasicEndSystem d s) = refl
widened_origin arrival (ExtendedEndSystem d s) = refl
widened_origin arrival (Ipv6 d s) = refl

-- ---- on the wire: out is the address of the port that the copy goes out by, which lies in the arrival port's domain unless far; a path of one octet is
-- never sent far (refusal 13)

-- a name that ports of one domain share, that extended addresses have at any port, and that widening keeps
module _ {X : Type 0} (named : ℕ → Addresses → X)
    (nearby : (port other : ℕ) (a : Addresses) → domain_of (record { 0 = port }) ≡ domain_of (record { 0 = other }) → named port a ≡ named other a)
    (anywhere : (port other : ℕ) (a : Addresses) → is_basic a ≡ false → named port a ≡ named other a)
    (kept : (arrival : ℕ) (a : Addresses) → named arrival (widened arrival a) ≡ named arrival a) where
  same_named : (out arrival code : ℕ) (far : Bool) (f : Fields) → (far ≡ false → domain_of (record { 0 = out }) ≡ domain_of (record { 0 = arrival }))
      → (is_bound f.addresses ≡ 1 → far ≡ false) → named out (next_fields far arrival code f).addresses ≡ named arrival f.addresses
  unfolding next_fields
  same_named out arrival code true f home bound =
      let wide = widened_wide arrival f.addresses (λ b. true_false (bound b)) in
      anywhere out arrival (widened arrival f.addresses) wide ∙ kept arrival f.addresses
  same_named out arrival code false f home bound = nearby out arrival f.addresses (home refl)

-- the addresses that go out name there what those that came named at the arrival port: the destination
pub same_aim : (out arrival code : ℕ) (far : Bool) (f : Fields) → (far ≡ false → domain_of (record { 0 = out }) ≡ domain_of (record { 0 = arrival }))
    → (is_bound f.addresses ≡ 1 → far ≡ false) → aim_of out (next_fields far arrival code f).addresses ≡ aim_of arrival f.addresses
same_aim = same_named aim_of same_domain_same_aim extended_same_aim widened_aim

-- and the source
pub same_origin : (out arrival code : ℕ) (far : Bool) (f : Fields) → (far ≡ false → domain_of (record { 0 = out }) ≡ domain_of (record { 0 = arrival }))
    → (is_bound f.addresses ≡ 1 → far ≡ false) → origin_of out (next_fields far arrival code f).addresses ≡ origin_of arrival f.addresses
same_origin = same_named origin_of same_domain_same_origin extended_same_origin widened_origin

-- a one-octet address on the wire means that the port is in the same domain
pub stays_home : (arrival code : ℕ) (far : Bool) (f : Fields) → (is_bound f.addresses ≡ 1 → far ≡ false)
    → is_basic (next_fields far arrival code f).addresses ≡ true → far ≡ false
unfolding next_fields
stays_home arrival code true f bound basic = true_false (sym basic ∙ widened_wide arrival f.addresses (λ b. true_false (bound b)))
stays_home arrival code false f bound basic = refl

-- ---- what is added

first_asked : (asked : Bool) → pick asked (Some first_hops) None ≡ Some first_hops → (asked && true) ≡ true
first_asked true e = refl
first_asked false e = cc

hops_exactly : (code : ℕ) (h : Option ℕ) → ((h ≡ None) × (hops_next code h ≡ Some first_hops)) ↔ (adds_hops code h ≡ true)
hops_exactly code None = (λ h. first_asked (asks_hops code) h.1, λ e. (refl, simp (and_true (asks_hops code) true e).0))
hops_exactly code (Some v) = (λ h. cc, λ e. true_false (sym (and_true (asks_hops code) false e).1))

-- a hop count exactly where it is asked for and lacking, and it is 64
pub hops_added : (far : Bool) (arrival code : ℕ) (f : Fields)
    → ((f.hops ≡ None) × ((next_fields far arrival code f).hops ≡ Some first_hops)) ↔ (adds_hops code f.hops ≡ true)
unfolding next_fields
hops_added far arrival code f = hops_exactly code f.hops

-- one that came goes out one less, whatever is asked for
pub hops_lessened : (far : Bool) (arrival code : ℕ) (f : Fields) (v : ℕ) → f.hops ≡ Some v → (next_fields far arrival code f).hops ≡ Some (v - 1)
unfolding next_fields
hops_lessened far arrival code f v e = rw e

checksum_exactly : (asked : Bool) (on : ℕ) → ((on ≡ 0) × (pick asked 1 on ≡ 1)) ↔ ((asked && eqb on 0) ≡ true)
checksum_exactly true on = (λ h. eq-eqb on 0 h.0, λ e. (eqb-true on 0 e, refl))
checksum_exactly false on = (λ h. absurd (omega arith), λ e. true_false (sym e))

-- a checksum likewise
pub checksum_added : (far : Bool) (arrival code : ℕ) (f : Fields)
    → ((f.checksum ≡ 0) × ((next_fields far arrival code f).checksum ≡ 1)) ↔ (adds_checksum code f.checksum ≡ true)
unfolding next_fields
checksum_added far arrival code f = checksum_exactly (asks_checksum code) f.checksum

-- "Copies without a route get no added elements"
pub added_without_route : (f : Fields) → adds 0 f ≡ false
added_without_route f = refl

-- nor does 3, which is no capability (page 01: "both is 4 and 3 is refused")
pub three_adds_nothing : (f : Fields) → adds 3 f ≡ false
three_adds_nothing f = refl
