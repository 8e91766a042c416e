-- `state_places::path_of` reads its part of the state. Assumes nothing.
use Rattle.state.proofs.Reading.{path_read}
use Rattle.state_places.proofs.path_of.Goals as goal

pub returns : goal.returns
returns c = path_read _ _ _ c.requires c.read_path.ensures
