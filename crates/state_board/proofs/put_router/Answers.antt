-- `state_board::put_router` leaves every other part of the board. Assumes nothing.
use Rattle.state.proofs.Writing.{router_written}
use Rattle.state_board.proofs.put_router.Goals as goal

pub returns : goal.returns
returns c = router_written _ c.told-board _
