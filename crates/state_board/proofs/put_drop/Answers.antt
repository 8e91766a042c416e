-- `state_board::put_drop` leaves every other part of the board. Assumes nothing.
use Rattle.state.proofs.Writing.{drop_written}
use Rattle.state_board.proofs.put_drop.Goals as goal

pub returns : goal.returns
returns c = drop_written _ c.told-board _
