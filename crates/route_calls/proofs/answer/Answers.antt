-- `route_calls::answer` meets its contract. Assumes nothing.
use Rattle.route_calls.proofs.Cases.{answer_refused, answer_none, answer_here, answer_elsewhere}
use Rattle.route_calls.proofs.answer.Goals as goal

pub returns-then-o-ne0 : goal.returns-then-o-ne0
returns-then-o-ne0 c = answer_refused _ _ c.if-o-ne0.true

pub returns-in_default : goal.returns-in_default
returns-in_default c = answer_none _ _ c.if-o-ne0.false c.in_default.is

pub returns-then-place_of-o : goal.returns-then-place_of-o
returns-then-place_of-o c = answer_elsewhere _ _ c.if-o-ne0.false _ c.in-Some.is c.place_of.ensures c.if-place_of-o.true

pub returns : goal.returns
returns c = answer_here _ _ c.if-o-ne0.false _ c.in-Some.is c.place_of.ensures c.if-place_of-o.false
