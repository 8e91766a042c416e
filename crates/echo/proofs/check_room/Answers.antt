-- `echo::check_room` meets its contract. Assumes nothing.
use Rattle.echo.proofs.Laws.{no_front, no_rest, all_fits}
use Rattle.echo.proofs.check_room.Goals as goal

pub returns-then-room-from : goal.returns-then-room-from
returns-then-room-from c = no_front _ _ _ c.if-room-from.true

pub returns-then-room-from-2 : goal.returns-then-room-from-2
returns-then-room-from-2 c = no_rest _ _ _ c.if-room-from.false c.if-room-from-2.true

pub returns : goal.returns
returns c = all_fits _ _ _ c.if-room-from.false c.if-room-from-2.false
