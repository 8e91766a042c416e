-- `state_board::lifetime_of` reads its part of the board. Assumes nothing.
use Rattle.state.proofs.Reading.{lifetime_read}
use Rattle.state_board.proofs.lifetime_of.Goals as goal

pub returns : goal.returns
returns c = lifetime_read _
