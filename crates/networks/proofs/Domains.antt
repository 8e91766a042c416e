-- Net 10 and its domains: what the first octet and the first three octets say of two addresses. Assumes nothing.
use native.Mathlib.Omega.{arith}
use Prim.Native.Nat.{ℕ, ◌+◌, ◌*◌, ◌/◌, ◌%◌, ◌^◌, ◌≤◌}
use mathlib.Core.Path.{◌≡◌}
use mathlib.Core.Logic.{◌↔◌}
use mathlib.Core.Bool.{true}
use borrow.Author.Tests.{eq-eqb, eqb-true}
use Rattle.address.specs.Octets.{dotted, Octet}
use Rattle.address.specs.declared.Address.{Address}
use Rattle.networks.specs.Networks.{in_net10, domain_of}

-- Net 10 is the addresses from 10.0.0.0 to 10.255.255.255.
pub net_10_range : (a : Address) → (in_net10 a ≡ true) ↔ ((dotted 10 0 0 0 ≤ a.0) × (a.0 ≤ dotted 10 255 255 255))
net_10_range a = (
  λ e. let f : a.0 / 2 ^ 24 ≡ 10 = eqb-true _ _ e in (omega arith, omega arith),
  λ h. eq-eqb (a.0 / 2 ^ 24) 10 (omega arith),
)

-- Two addresses are in one domain exactly where their first three octets are the same.
pub same_domain_lem : (a b c d e f g h : ℕ) → Octet b → Octet c → Octet d → Octet f → Octet g → Octet h
    → (domain_of (record { 0 = dotted a b c d }) ≡ domain_of (record { 0 = dotted e f g h })) ↔ ((a ≡ e) × (b ≡ f) × (c ≡ g))
same_domain_lem a b c d e f g h hb hc hd hf hg hh = omega arith

-- An address is its domain and its last octet.
pub domain_last : (a : Address) → domain_of a * 256 + a.0 % 256 ≡ a.0
domain_last a = omega arith

-- An octet that is put behind a domain makes an address of that domain.
pub domain_filled : (a : Address) (z : ℕ) → Octet z → domain_of (record { 0 = domain_of a * 256 + z }) ≡ domain_of a
domain_filled a z h = omega arith
