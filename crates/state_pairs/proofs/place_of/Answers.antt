-- `state_pairs::place_of` reads its part of the state. Assumes nothing.
use Rattle.state.proofs.Reading.{pair_read}
use Rattle.state_pairs.proofs.place_of.Goals as goal

pub returns : goal.returns
returns c = pair_read _ _ _ c.requires c.read_pair.ensures
