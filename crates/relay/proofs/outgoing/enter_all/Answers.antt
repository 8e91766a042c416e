-- `relay::outgoing::enter_all` meets its contract: after p turns the first p ports have their entry. Assumes nothing.
use native.Mathlib.Omega.{arith}
use Rattle.relay.proofs.outgoing.Entries.{nobody_yet, one_further, all_entered}
use borrow.Author.Rules.{rules}
use Rattle.relay.proofs.outgoing.enter_all.Goals as goal

pub loop-p-init : goal.loop-p-init
loop-p-init c = (omega arith, (c.told-mission, λ b. nobody_yet b _ _ _))

pub loop-p-preserved : goal.loop-p-preserved
loop-p-preserved c = (omega arith, (search rules, λ b. one_further b _ _ _ _ (c.loop-p.invariant.1.1 b) (c.enter_if.ensures b)))

pub returns : goal.returns
returns c b = all_entered b _ _ _ _ c.loop-p-test.false c.loop-p.invariant.0 (c.loop-p.invariant.1.1 b)
