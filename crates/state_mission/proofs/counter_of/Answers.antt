-- `state_mission::counter_of` reads its part of the state. Assumes nothing.
use Rattle.state.proofs.Reading.{counter_read}
use Rattle.state_mission.proofs.counter_of.Goals as goal

pub returns : goal.returns
returns c = counter_read _ _ c.requires
