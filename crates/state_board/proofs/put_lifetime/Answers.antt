-- `state_board::put_lifetime` leaves every other part of the board. Assumes nothing.
use Rattle.state.proofs.Writing.{lifetime_written}
use Rattle.state_board.proofs.put_lifetime.Goals as goal

pub returns : goal.returns
returns c = lifetime_written _ c.told-board _
