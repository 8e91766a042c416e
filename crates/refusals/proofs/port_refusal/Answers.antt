-- `refusals::port_refusal` meets its contract: past the test of the place it is one. Assumes nothing.
use Rattle.refusals.proofs.Places.{tested_there}
use Rattle.refusals.proofs.port_refusal.Goals as goal

pub check_unwritten-requires : goal.check_unwritten-requires
check_unwritten-requires c = tested_there _ _ _ c.check_place.ensures c.in-Passed.is
