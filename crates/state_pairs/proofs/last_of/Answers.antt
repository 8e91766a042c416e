-- `state_pairs::last_of` reads its part of the state. Assumes nothing.
use Rattle.state.proofs.Reading.{last_read}
use Rattle.state_pairs.proofs.last_of.Goals as goal

pub returns : goal.returns
returns c = last_read _
