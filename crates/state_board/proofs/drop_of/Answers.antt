-- `state_board::drop_of` reads its part of the board. Assumes nothing.
use Rattle.state.proofs.Reading.{drop_read}
use Rattle.state_board.proofs.drop_of.Goals as goal

pub returns : goal.returns
returns c = drop_read _
