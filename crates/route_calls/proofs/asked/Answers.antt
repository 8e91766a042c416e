-- `route_calls::asked` meets its contract. Assumes nothing.
use Rattle.std.proofs.Common.{rules}
use Rattle.route_calls.proofs.Cases.{query_many, query_no_board, query_no_mission, query_best}
use Rattle.route_calls.proofs.asked.Goals as goal

pub returns-then-count-gt-ROUTES : goal.returns-then-count-gt-ROUTES
returns-then-count-gt-ROUTES c = query_many _ _ _ _ c.if-count-gt-ROUTES.true c.refused.ensures

pub returns-in_default : goal.returns-in_default
returns-in_default c = query_no_board _ _ _ _ c.if-count-gt-ROUTES.false (search rules) c.refused-in_default.ensures

pub returns-in_default-try_from : goal.returns-in_default-try_from
returns-in_default-try_from c = query_no_mission _ _ _ _ c.if-count-gt-ROUTES.false (search rules) c.refused-in_default-try_from.ensures

pub returns : goal.returns
returns c = query_best _ _ _ _ c.if-count-gt-ROUTES.false (search rules) (search rules) _ _
    (rw (← c.in-Ok-try_from.ensures.1.same) c.number_of-number.ensures) (rw (← c.in-Ok.ensures.1.same) c.ready_ports.ensures)
