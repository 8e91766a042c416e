-- `route_calls::search_number` meets its contract. Assumes nothing.
use Rattle.route_calls.proofs.Cases.{number_refused, number_found}
use Rattle.route_calls.proofs.search_number.Goals as goal

pub returns-then-q-ne0 : goal.returns-then-q-ne0
returns-then-q-ne0 c = number_refused _ _ c.if-q-ne0.true

-- the test before is found by what it says
pub returns : goal.returns
returns c = number_found _ _ (assumption) c.scan_number.ensures
