-- `route_calls::own_ports` meets its contract. Assumes nothing.
use Rattle.std.proofs.Common.{rules}
use Rattle.route_calls.proofs.Cases.{no_ports, has_ports}
use Rattle.route_calls.proofs.own_ports.Goals as goal

pub returns-in_default : goal.returns-in_default
returns-in_default c = no_ports _ _ (search rules)

pub returns : goal.returns
returns c = has_ports _ _ (search rules) (rw (← c.in-Ok.ensures.1.same) c.ready_ports.ensures)
