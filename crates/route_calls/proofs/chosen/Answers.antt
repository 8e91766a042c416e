-- `route_calls::chosen` meets its contract. Assumes nothing.
use Rattle.route_calls.proofs.Cases.{chosen_new, chosen_old}
use Rattle.route_calls.proofs.chosen.Goals as goal

pub returns-then-answer-eq0 : goal.returns-then-answer-eq0
returns-then-answer-eq0 c = chosen_new _ _ _ c.answer.ensures c.if-answer-eq0.true

-- the test before is found by what it says
pub returns : goal.returns
returns c = chosen_old _ _ _ c.answer.ensures (assumption)
