-- `route_calls::scan_number` meets its contract. Assumes nothing.
use Rattle.route_calls.proofs.Cases.{scan_none, scan_some}
use Rattle.route_calls.proofs.scan_number.Goals as goal

pub returns-in_default : goal.returns-in_default
returns-in_default c = scan_none _ c.in_default.is

pub returns : goal.returns
returns c = scan_some _ _ c.in-Some.is c.count_ones-ones.ensures c.parts.ensures
