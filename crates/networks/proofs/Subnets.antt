-- The broadcast of a subnet: its bits under the mask are the address's and the others are ones; under a mask of n ones it is the last
-- of the 2 ^ (32 - n) addresses that the mask leaves together. Assumes nothing.
use native.Mathlib.Omega.{arith}
use Prim.Native.Nat.{ℕ, ◌-◌, ◌%◌, ◌^◌, ◌<◌, ◌≤◌, max}
use mathlib.Core.Path.{◌≡◌, ap, ◌∙◌}
use mathlib.Core.Logic.{◌↔◌}
use lib.Pow.{pow_pos, pow_mono, split}
use lib.Bits.{bit_and, bit_or, and_mask, and_lt, or_lt, or_add_and}
use Rattle.address.specs.Mask.{mask_of}
use Rattle.address.specs.declared.Address.{Address}
use Rattle.address.specs.declared.Mask.{Mask}
use Rattle.networks.specs.Networks.{last_of, subnet_broadcast}
use Rattle.networks.proofs.Bits.{bit, bit_small, and_bit, or_bit, not_bit, same_bits}

-- k ones over the lowest bits reach the last of 2 ^ k addresses
pub or_ones : (v k : ℕ) → bit_or v (2 ^ k - 1) ≡ last_of v (2 ^ k)
or_ones v k = omega (arith, or_add_and v (2 ^ k - 1), and_mask v k, split v k)

module _ (a : Address) (m : Mask) (fits : m.0 < 2 ^ 32) (p : ℕ) (low : p < 32) where
  broadcast_bit : bit p (subnet_broadcast a m).0 ≡ max (bit p a.0) (1 - bit p m.0)
  unfolding subnet_broadcast
  broadcast_bit = or_bit p a.0 (2 ^ 32 - 1 - m.0) ∙ ap (max (bit p a.0)) (not_bit 32 p m.0 fits low)

  -- A bit that the mask covers is the address's.
  pub covered : bit p m.0 ≡ 1 → bit p (subnet_broadcast a m).0 ≡ bit p a.0
  covered e = omega (arith, broadcast_bit)

  -- A host bit is one.
  pub host : bit p m.0 ≡ 0 → bit p (subnet_broadcast a m).0 ≡ 1
  host e = omega (arith, broadcast_bit, bit_small p a.0)

module _ (a : Address) (m : Mask) (a-fits : a.0 < 2 ^ 32) (m-fits : m.0 < 2 ^ 32) where
  pub broadcast_fits : (subnet_broadcast a m).0 < 2 ^ 32
  unfolding subnet_broadcast
  broadcast_fits = or_lt 32 a.0 (2 ^ 32 - 1 - m.0) a-fits (omega arith)

  -- The address and the broadcast are in the same subnet.
  pub same_subnet : bit_and (subnet_broadcast a m).0 m.0 ≡ bit_and a.0 m.0
  same_subnet = same_bits 32 _ _ (and_lt 32 _ _ broadcast_fits m-fits) (and_lt 32 _ _ a-fits m-fits) bits
    where
      bits : (p : ℕ) → p < 32 → bit p (bit_and (subnet_broadcast a m).0 m.0) ≡ bit p (bit_and a.0 m.0)
      bits p h =
          omega (
            arith,
            and_bit p (subnet_broadcast a m).0 m.0,
            and_bit p a.0 m.0,
            broadcast_bit a m m-fits p h,
            bit_small p a.0,
            bit_small p m.0,
          )

-- Under a mask of n ones the broadcast is the last address of the subnet.
pub subnet_last : (a : Address) (m : Mask) (n : ℕ) → m.0 ≡ mask_of n → (subnet_broadcast a m).0 ≡ last_of a.0 (2 ^ (32 - n))
unfolding subnet_broadcast
subnet_last a m n e =
    let within : 32 - n ≤ 32 = omega arith in
    let hosts : 2 ^ 32 - 1 - m.0 ≡ 2 ^ (32 - n) - 1 = omega (arith, pow_pos (32 - n), pow_mono within) in
    ap (bit_or a.0) hosts ∙ or_ones a.0 (32 - n)

-- An address is its own subnet's broadcast exactly where its host bits are all ones.
pub own_broadcast_lem : (a : Address) (m : Mask) (n : ℕ) → m.0 ≡ mask_of n
    → ((subnet_broadcast a m).0 ≡ a.0) ↔ (a.0 % 2 ^ (32 - n) ≡ 2 ^ (32 - n) - 1)
own_broadcast_lem a m n e = (
  λ f. omega (arith, subnet_last a m n e, split a.0 (32 - n)),
  λ f. omega (arith, subnet_last a m n e, split a.0 (32 - n)),
)
