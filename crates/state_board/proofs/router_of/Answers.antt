-- `state_board::router_of` reads its part of the board. Assumes nothing.
use Rattle.state.proofs.Reading.{router_read}
use Rattle.state_board.proofs.router_of.Goals as goal

pub returns : goal.returns
returns c = router_read _
