-- `answering::before` meets its contract. Assumes nothing.
use Rattle.std.proofs.Common.{rules}
use Rattle.answering.proofs.Asking.{asked_long, asked_no_board, asked_no_mission, asked_right}
use Rattle.answering.proofs.before.Goals as goal

pub returns-then-count-gt-ROUTES : goal.returns-then-count-gt-ROUTES
returns-then-count-gt-ROUTES c = asked_long _ _ _ _ _ _ c.if-count-gt-ROUTES.true c.no_answer.ensures

pub returns-in_default : goal.returns-in_default
returns-in_default c = asked_no_board _ _ _ _ _ _ (assumption) (search rules) c.no_answer-in_default.ensures

pub returns-in_default-try_from : goal.returns-in_default-try_from
returns-in_default-try_from c = asked_no_mission _ _ _ _ _ _ (assumption) (search rules) c.no_answer-in_default-try_from.ensures

pub returns : goal.returns
returns c = asked_right _ _ _ _ _ _ (assumption) (search rules) (search rules)
    (rw (← c.in-Ok.ensures.1.same, ← c.in-Ok-try_from.ensures.1.same) c.answer.ensures)
