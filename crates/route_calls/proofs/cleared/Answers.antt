-- `route_calls::cleared` meets its contract. Assumes nothing.
use Rattle.route_calls.proofs.Cases.{cleared_old, cleared_new}
use Rattle.route_calls.proofs.cleared.Goals as goal

pub returns-then-e-ne0 : goal.returns-then-e-ne0
returns-then-e-ne0 c = cleared_old _ _ c.if-e-ne0.true

-- the test before is found by what it says
pub returns : goal.returns
returns c = cleared_new _ _ (assumption) c.empty_record.ensures
