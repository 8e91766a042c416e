-- When a port's mask is taken, refusal 22. Assumes nothing.
use native.Mathlib.Omega.{arith}
use Prim.Native.Nat.{ℕ, ◌-◌, ◌/◌, ◌%◌, ◌^◌, ◌≤◌}
use mathlib.Core.Path.{◌≡◌, refl}
use mathlib.Core.Logic.{◌↔◌, ◌≢◌}
use mathlib.Core.Bool.{false}
use borrow.Author.Tests.{eq-eqb, ne_eqb, eqb-true, eqb-false}
use Rattle.std.proofs.Common.{Option, Some, None}
use Rattle.checks.proofs.Bools.{true_false, or_false, and_not_false, and_not}
use Rattle.address.specs.Mask.{mask_of, mask_form}
use Rattle.address.specs.declared.Address.{Address}
use Rattle.address.specs.declared.Mask.{Mask}
use Rattle.address.proofs.Masks.{form_ones}
use Rattle.networks.specs.Networks.{subnet_broadcast}
use Rattle.networks.proofs.Subnets.{own_broadcast_lem}
use Rattle.settings.specs.Refusals.{ones_refused, host_bits_all_ones, form_refused, port_mask_refused}
use Rattle.settings.proofs.Answers.{both_false}
use Rattle.settings.proofs.Values.{range_taken}

-- Its ones are taken exactly where they are 8 to 30, and 24 where the first octet is 10.
pub ones_taken : (a : Address) (n : ℕ) → (ones_refused a n ≡ false) ↔ ((8 ≤ n) × (n ≤ 30) × (a.0 / 2 ^ 24 ≡ 10 → n ≡ 24))
unfolding ones_refused
ones_taken a n = (
  λ e.
      let p = or_false _ _ e in
      let r = (range_taken 8 30 n).0 p.0 in
      (r.0, r.1, λ ten. eqb-true n 24 (and_not_false _ _ p.1 (eq-eqb _ _ ten))),
  λ h.
      both_false _ _ ((range_taken 8 30 n).1 (h.0, h.1))
      (and_not _ _ (λ ten. eq-eqb n 24 (h.2 (eqb-true _ _ ten)))),
)

-- a mask of n ones, 8 to 30 and exactly 24 where the first octet is 10, and the bits that it leaves of the address are not all ones
abbrev pub GoodMask : Address → Mask → Type 0
GoodMask a m =
    (n : ℕ)
    × (m.0 ≡ mask_of n)
    × (8 ≤ n)
    × (n ≤ 30)
    × (a.0 / 2 ^ 24 ≡ 10 → n ≡ 24)
    × (a.0 % 2 ^ (32 - n) ≢ 2 ^ (32 - n) - 1)

-- The mask is taken exactly where it is such a one.
pub mask_taken : (a : Address) (m : Mask) → (port_mask_refused a m ≡ false) ↔ GoodMask a m
unfolding port_mask_refused form_refused
mask_taken a m = (there (mask_form m.0) refl, back)
  where
    there : (f : Option ℕ) → mask_form m.0 ≡ f → form_refused a f ≡ false → GoodMask a m
    there None e r = true_false r
    there (Some n) e r =
        let p = or_false _ _ r in
        let ones = (ones_taken a n).0 p.0 in
        (n, ((form_ones m.0 n).0 e).1, ones.0, ones.1, ones.2, eqb-false _ _ p.1)

    back : GoodMask a m → form_refused a (mask_form m.0) ≡ false
    back g =
        rw ((form_ones m.0 g.0).1 (omega arith, g.1))
        (both_false _ _ ((ones_taken a g.0).1 (g.2, g.3, g.4)) (ne_eqb _ _ g.5))

-- Of a mask of n ones, as the code tests it: the address is not its own subnet's broadcast.
pub broadcast_taken : (a : Address) (m : Mask) (n : ℕ) → mask_form m.0 ≡ Some n
    → (port_mask_refused a m ≡ false) ↔ ((ones_refused a n ≡ false) × ((subnet_broadcast a m).0 ≢ a.0))
unfolding port_mask_refused form_refused
broadcast_taken a m n e =
    let own = own_broadcast_lem a m n ((form_ones m.0 n).0 e).1 in (
      λ r. let p = or_false (ones_refused a n) (host_bits_all_ones a n) (rw e at r) in (p.0, λ b. eqb-false _ _ p.1 (own.0 b)),
      λ h. rw e (both_false _ _ h.0 (ne_eqb _ _ (λ b. h.1 (own.1 b)))),
    )
