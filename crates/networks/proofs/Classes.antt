-- The broadcast of the network that an address's class gives: by octets, by its own class, and as that of a subnet. Assumes nothing.
use native.Mathlib.Omega.{arith}
use Prim.Native.Nat.{ℕ, ◌-◌, ◌/◌, ◌^◌, ◌<◌, ◌≤◌}
use mathlib.Core.Path.{◌≡◌, refl, sym, ap, subst, ◌∙◌}
use mathlib.Core.Bool.{Bool, true, false}
use mathlib.Core.Logic.{◌≢◌}
use lib.Dec.{eqb}
use lib.Bits.{bit_or}
use borrow.Author.Tests.{eq-eqb, ne_eqb}
use Rattle.std.proofs.Common.{Option, Some}
use Rattle.checks.specs.Order.{pick}
use Rattle.address.specs.Octets.{dotted, Octet}
use Rattle.address.specs.Class.{between, family_of, class_of}
use Rattle.address.specs.Mask.{mask_of}
use Rattle.address.specs.declared.Address.{Address}
use Rattle.address.specs.declared.Mask.{Mask}
use Rattle.address.specs.declared.Class.{Class}
use Rattle.address.specs.declared.Class.TheVariants.{Unicast, NetBroadcast, ScpsBroadcast}
use Rattle.address.specs.declared.Family.TheVariants.{Net, Scps, Multicast, Invalid}
use Rattle.address.proofs.Clash.{clash}
use Rattle.address.proofs.Families
use Rattle.address.specs.Row.{Row, even, class_a, class_b, class_c, all_scps, class_a_last, class_b_last, class_c_last}
use Rattle.address.proofs.ClassTable.{class_one, class_row}
use Rattle.networks.specs.Networks.{in_net10, last_of, subnet_broadcast, broadcast_in, class_broadcast}
use Rattle.networks.proofs.Subnets.{or_ones, subnet_last}

-- a network of a class has 2 ^ k addresses: by the tests on the way to it
power_is : (t₀ t₁ t₂ t₃ t₄ : Bool) (n : ℕ)
    → pick t₀ Scps (pick t₁ (Net (2 ^ 24)) (pick t₂ (Net (2 ^ 16)) (pick t₃ (Net (2 ^ 8)) (pick t₄ Multicast Invalid)))) ≡ Net n
    → (k : ℕ) × (n ≡ 2 ^ k)
power_is true t₁ t₂ t₃ t₄ n e = clash (cc)
power_is false true t₂ t₃ t₄ n e = (24, let z : 2 ^ 24 ≡ n = cc in sym z)
power_is false false true t₃ t₄ n e = (16, let z : 2 ^ 16 ≡ n = cc in sym z)
power_is false false false true t₄ n e = (8, let z : 2 ^ 8 ≡ n = cc in sym z)
power_is false false false false true n e = clash (cc)
power_is false false false false false n e = clash (cc)

net_power : (x n : ℕ) → family_of x ≡ Net n → (k : ℕ) × (n ≡ 2 ^ k)
unfolding family_of
net_power x n e = power_is (eqb x 10) (between 1 126 x) (between 128 191 x) (between 192 223 x) (between 224 239 x) n e

-- the address a.b.c.d
abbrev pub four_octets : ℕ → ℕ → ℕ → ℕ → Address
four_octets a b c d = record { 0 = dotted a b c d }

abbrev pub at : ℕ → Option Address
at v = Some (record { 0 = v })

-- The last address of the net.
pub in_net : (a : Address) (n : ℕ) → family_of (a.0 / 2 ^ 24) ≡ Net n → class_broadcast a ≡ at (last_of a.0 n)
unfolding class_broadcast broadcast_in
in_net a n e = rw e

-- As the code makes it.
pub in_net_or : (a : Address) (n : ℕ) → family_of (a.0 / 2 ^ 24) ≡ Net n → class_broadcast a ≡ at (bit_or a.0 (n - 1))
in_net_or a n e =
    let p = net_power (a.0 / 2 ^ 24) n e in
    in_net a n e ∙ ap at (subst (λ (h : ℕ). last_of a.0 h ≡ bit_or a.0 (h - 1)) (sym p.1) (sym (or_ones a.0 p.0)))

-- The broadcast of a class network of n bits is that of the subnet under the mask of n ones.
pub class_mask : (a : Address) (m : Mask) (n : ℕ) → family_of (a.0 / 2 ^ 24) ≡ Net (2 ^ (32 - n)) → m.0 ≡ mask_of n
    → class_broadcast a ≡ Some (subnet_broadcast a m)
class_mask a m n net mask = in_net a _ net ∙ ap at (sym (subnet_last a m n mask))

-- By octets: the last 3, 2 or 1 octets are 255, and all but the first in net 10.
module _ (a b c d : ℕ) (hb : Octet b) (hc : Octet c) (hd : Octet d) where
  first : dotted a b c d / 2 ^ 24 ≡ a
  first = omega arith

  pub class_a_broadcast : 1 ≤ a → a ≤ 126 → a ≢ 10 → class_broadcast (four_octets a b c d) ≡ Some (four_octets a 255 255 255)
  class_a_broadcast p q e = in_net _ _ (ap family_of first ∙ Families.class_a a p q e) ∙ ap at (omega arith)

  pub class_b_broadcast : 128 ≤ a → a ≤ 191 → class_broadcast (four_octets a b c d) ≡ Some (four_octets a b 255 255)
  class_b_broadcast p q = in_net _ _ (ap family_of first ∙ Families.class_b a p q) ∙ ap at (omega arith)

  pub class_c_broadcast : 192 ≤ a → a ≤ 223 → class_broadcast (four_octets a b c d) ≡ Some (four_octets a b c 255)
  class_c_broadcast p q = in_net _ _ (ap family_of first ∙ Families.class_c a p q) ∙ ap at (omega arith)

  pub net_10_broadcast : a ≡ 10 → class_broadcast (four_octets a b c d) ≡ Some (four_octets 10 255 255 255)
  unfolding class_broadcast broadcast_in
  net_10_broadcast e = rw (ap family_of (first ∙ e) ∙ Families.scps)

  -- the class of the broadcast, outside net 10 and in it
  outside : {w : ℕ} → a ≢ 10 → Row NetBroadcast w → class_of w ≡ pick (in_net10 (four_octets a b c d)) ScpsBroadcast NetBroadcast
  outside e r = class_one _ _ r ∙ simp (first, ne_eqb a 10 e)

  inside : a ≡ 10 → class_of (dotted 10 255 255 255) ≡ pick (in_net10 (four_octets a b c d)) ScpsBroadcast NetBroadcast
  inside e = class_one _ _ all_scps ∙ simp (first, eq-eqb a 10 e)

-- there is a broadcast, of the class "broadcast of all SCPS" in net 10 and "net broadcast" elsewhere
abbrev pub Classed : Address → Type 0
Classed a = (w : Address) × (class_broadcast a ≡ Some w) × (class_of w.0 ≡ pick (in_net10 a) ScpsBroadcast NetBroadcast)

by_row : {v : ℕ} → Row Unicast v → Classed (record { 0 = v })
by_row (even x y z hx hy hz e) =
    (four_octets 10 255 255 255, net_10_broadcast 10 x y z hx hy (omega arith) refl, inside 10 x y z hx hy (omega arith) refl)
by_row (class_a a b c d p q e hb hc hd f) =
    (four_octets a 255 255 255, class_a_broadcast a b c d hb hc hd p q e, outside a b c d hb hc hd e (class_a_last a p q e))
by_row (class_b a b c d p q hb hc hd f) =
    (four_octets a b 255 255, class_b_broadcast a b c d hb hc hd p q, outside a b c d hb hc hd (omega arith) (class_b_last a b p q hb))
by_row (class_c a b c d p q hb hc hd f) =
    (four_octets a b c 255, class_c_broadcast a b c d hb hc hd p q, outside a b c d hb hc hd (omega arith) (class_c_last a b c p q hb hc))

-- So it is for every unicast address, as a port's is.
pub broadcast_class : (a : Address) → a.0 < 2 ^ 32 → class_of a.0 ≡ Unicast → Classed a
broadcast_class a h e = by_row (subst (λ (c : Class). Row c a.0) e (class_row a.0 h))
