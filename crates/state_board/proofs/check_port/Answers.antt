-- `state_board::check_port` meets its contract. Assumes nothing.
use Rattle.state_board.proofs.SetUp.{over_seven, not_ready, set_up_lem}
use Rattle.state_board.proofs.check_port.Goals as goal

pub returns-then-port-ge-PORTS : goal.returns-then-port-ge-PORTS
returns-then-port-ge-PORTS c = over_seven _ _ c.if-port-ge-PORTS.true

pub returns-then-seen_port-eq0 : goal.returns-then-seen_port-eq0
returns-then-seen_port-eq0 c = not_ready _ _ c.if-port-ge-PORTS.false c.seen_port.ensures c.if-seen_port-eq0.true

pub returns : goal.returns
returns c = set_up_lem _ _ c.if-port-ge-PORTS.false c.seen_port.ensures c.if-seen_port-eq0.false
