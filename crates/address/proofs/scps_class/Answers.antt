-- `address::scps_class` meets its contract: each return has the tests that its definition asks. Assumes nothing.
use Prim.Native.Nat.{◌%◌}
use mathlib.Core.Path.{◌≡◌, sym}
use lib.Dec.{eqb}
use borrow.Author.Tests.{eq-eqb, ne_eqb}
use Rattle.checks.specs.Order.{pick}
use Rattle.address.specs.Class.{scps_class}
use Rattle.address.specs.declared.Class.TheVariants.{Multicast, Unicast}
use Rattle.address.proofs.scps_class.Goals as goal
use Rattle.address.proofs.scps_class.Goals.{Else-z-eq254}

pub returns-then-rest-eq16777215 : goal.returns-then-rest-eq16777215
unfolding scps_class
returns-then-rest-eq16777215 c = simp (eq-eqb _ _ c.if-rest-eq16777215.true)

pub returns-then-z-eq255 : goal.returns-then-z-eq255
unfolding scps_class
returns-then-z-eq255 c = simp (ne_eqb _ _ c.if-rest-eq16777215.false, eq-eqb _ _ c.if-z-eq255.true)

pub returns-then-z-eq254 : goal.returns-then-z-eq254
unfolding scps_class
returns-then-z-eq254 c = simp (ne_eqb _ _ c.if-rest-eq16777215.false, ne_eqb _ _ c.if-z-eq255.false, eq-eqb _ _ c.if-z-eq254.true)

-- past the broadcasts and the identifier that is none, the multicast flag decides
past_three : (c : Else-z-eq254) → let rest = c.args.rest in
    pick (eqb (rest % 256 % 2) 1) Multicast Unicast ≡ scps_class rest
unfolding scps_class
past_three c = sym (simp (ne_eqb _ _ c.if-rest-eq16777215.false, ne_eqb _ _ c.if-z-eq255.false, ne_eqb _ _ c.if-z-eq254.false))

pub returns-then-z-eq1 : goal.returns-then-z-eq1
returns-then-z-eq1 c = rw (← past_three c.before) (simp (eq-eqb _ _ c.if-z-eq1.true))

pub returns : goal.returns
returns c = rw (← past_three c.before) (simp (ne_eqb _ _ c.if-z-eq1.false))
