-- `relay::outgoing::send_if` meets its contract. Assumes nothing.
use native.Mathlib.Omega.{arith}
use Rattle.relay.proofs.outgoing.Headers.{not_sent_lem, wide_enough, far_sent, near_sent}
use Rattle.relay.proofs.outgoing.send_if.Goals as goal

pub returns-then-took-p-ne1 : goal.returns-then-took-p-ne1
returns-then-took-p-ne1 c = not_sent_lem _ _ _ _ _ _ c.if-took-p-ne1.true

pub put_front-requires : goal.put_front-requires
put_front-requires c = omega (arith, wide_enough c.args.p c.args.output.now (omega (arith, c.requires)), c.requires.1.1.1)

pub returns-then-far-p-eq1 : goal.returns-then-far-p-eq1
returns-then-far-p-eq1 c = far_sent c.args.took c.args.far _ _ c.args.p c.args.output.now (omega arith) (omega (arith, c.requires)) c.if-far-p-eq1.true c.requires.1.1.1 c.put_front.ensures

pub put_front-requires-2 : goal.put_front-requires-2
put_front-requires-2 c = omega (arith, wide_enough c.args.p c.args.output.now (omega (arith, c.requires)), c.requires.1.1.0)

pub returns : goal.returns
returns c = near_sent c.args.took c.args.far _ _ c.args.p c.args.output.now (omega arith) (omega (arith, c.requires)) (λ e. omega (arith, e)) c.requires.1.1.0 c.put_front-2.ensures
