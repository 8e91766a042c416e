-- `sets::only_port` meets its contract. Assumes nothing.
use Rattle.sets.proofs.Loops.{only_shifted, only_none}
use Rattle.sets.proofs.only_port.Goals as goal

pub returns-then-port-lt-PORTS : goal.returns-then-port-lt-PORTS
returns-then-port-lt-PORTS c = only_shifted _ c.if-port-lt-PORTS.true

pub returns : goal.returns
returns c = only_none _ c.if-port-lt-PORTS.false
