-- `relay::before_named` meets its contract. Assumes nothing.
use Rattle.std.proofs.Common.{rules}
use Rattle.relay.proofs.Asking.{asked_long, asked_no_board, asked_no_mission, asked_right}
use Rattle.relay.proofs.before_named.Goals as goal

pub returns-then-count : goal.returns-then-count
returns-then-count c = asked_long _ _ _ _ _ _ _ c.if-count.true c.refused.ensures

pub returns-in_default : goal.returns-in_default
returns-in_default c = asked_no_board _ _ _ _ _ _ _ c.if-count.false (search rules) c.refused-in_default.ensures

pub returns-in_default-try_from : goal.returns-in_default-try_from
returns-in_default-try_from c = asked_no_mission _ _ _ _ _ _ _ c.if-count.false (search rules) c.refused-in_default-try_from.ensures

pub judge-requires : goal.judge-requires
judge-requires c = rw (c.in-Ok.ensures.1.same, c.in-Ok-try_from.ensures.1.same) (c.requires (search rules) (search rules))

pub returns : goal.returns
returns c = asked_right _ _ _ _ _ _ _ c.if-count.false (search rules) (search rules)
    (rw (← c.in-Ok.ensures.1.same, ← c.in-Ok-try_from.ensures.1.same) c.judge.ensures)
