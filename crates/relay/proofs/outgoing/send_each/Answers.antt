-- `relay::outgoing::send_each` meets its contract. Assumes nothing.
use native.Mathlib.Omega.{arith}
use mathlib.Core.Path.{refl}
use Rattle.relay.proofs.outgoing.Headers.{none_sent, one_further, all_sent}
use borrow.Author.Rules.{rules}
use Rattle.relay.proofs.outgoing.send_each.Goals as goal

pub loop-p-init : goal.loop-p-init
loop-p-init c = (omega arith, (refl, none_sent _ _ _ _ _))

pub send_if-requires : goal.send_if-requires
send_if-requires c = (c.loop-p-test.true, (omega (arith, c.requires.0, c.loop-p.invariant.1.0), c.requires.1))

pub loop-p-preserved : goal.loop-p-preserved
loop-p-preserved c = (omega arith, (search rules, one_further _ _ _ _ _ _ c.loop-p.invariant.1.1 c.send_if.ensures))

pub returns : goal.returns
returns c = all_sent _ _ _ _ _ _ c.loop-p-test.false c.loop-p.invariant.0 c.loop-p.invariant.1.1
