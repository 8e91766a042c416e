-- `state_places::group_of` reads its part of the state. Assumes nothing.
use Rattle.state.proofs.Reading.{group_read}
use Rattle.state_places.proofs.group_of.Goals as goal

pub returns : goal.returns
returns c = group_read _ _ _ c.requires c.read_group.ensures
