-- `route_calls::parts` meets its contract. Assumes nothing.
use Rattle.route_calls.proofs.Cases.{parts_are}
use Rattle.route_calls.proofs.parts.Goals as goal

pub returns : goal.returns
returns c = parts_are _ _ _
