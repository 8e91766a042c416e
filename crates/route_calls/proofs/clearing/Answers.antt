-- `route_calls::clearing` meets its contract. Assumes nothing.
use Rattle.route_calls.proofs.Cases.{emptying_many, emptying_beyond, emptying_taken}
use Rattle.route_calls.proofs.clearing.Goals as goal

pub returns-then-count-gt-ROUTES : goal.returns-then-count-gt-ROUTES
returns-then-count-gt-ROUTES c = emptying_many _ _ c.if-count-gt-ROUTES.true

pub returns-then-count-at : goal.returns-then-count-at
returns-then-count-at c = emptying_beyond _ _ c.if-count-gt-ROUTES.false c.if-count-at.true

-- the test before is found by what it says
pub returns : goal.returns
returns c = emptying_taken _ _ c.if-count-gt-ROUTES.false (assumption)
