-- `relay::outgoing::enter_if` meets its contract. Assumes nothing.
use native.Mathlib.Omega.{arith}
use Rattle.relay.proofs.outgoing.Entries.{not_in, is_in}
use Rattle.relay.proofs.outgoing.enter_if.Goals as goal

pub returns-then-took-only_port-eq0 : goal.returns-then-took-only_port-eq0
returns-then-took-only_port-eq0 c b = not_in b _ _ _ _ c.only_port.ensures c.if-took-only_port-eq0.true

pub returns : goal.returns
returns c b = is_in b _ _ _ _ c.only_port.ensures (λ e. omega (arith, e)) (c.enter.ensures b)
