-- `state_mission::number_of` reads its part of the state. Assumes nothing.
use Rattle.state.proofs.Reading.{number_read}
use Rattle.state_mission.proofs.number_of.Goals as goal

pub returns : goal.returns
returns c = number_read _
