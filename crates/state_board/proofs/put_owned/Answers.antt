-- `state_board::put_owned` leaves every other part of the board. Assumes nothing.
use Rattle.state.proofs.Writing.{owned_written}
use Rattle.state_board.proofs.put_owned.Goals as goal

pub returns : goal.returns
returns c = owned_written c.args.board.now c.told-board c.args.p c.args.x _ c.requires
    c.write_owned.ensures
