-- `route_calls::ordered` meets its contract. Assumes nothing.
use Rattle.route_calls.proofs.Cases.{order_is}
use Rattle.route_calls.proofs.ordered.Goals as goal

pub returns : goal.returns
returns c = order_is _ _ _ _ c.own_ports-own.ensures c.order_refusal-refusal.ensures
