-- `state_board::owned_of` reads its part of the board. Assumes nothing.
use Rattle.state.proofs.Reading.{owned_read}
use Rattle.state_board.proofs.owned_of.Goals as goal

pub returns : goal.returns
returns c = owned_read _ _ _ c.requires c.read_owned.ensures
