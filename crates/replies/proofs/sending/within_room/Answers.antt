-- `replies::sending::within_room` meets its contract. Assumes nothing.
use Rattle.replies.proofs.Going.{over_room, under_room}
use Rattle.replies.proofs.sending.within_room.Goals as goal

pub returns-then-room-size : goal.returns-then-room-size
returns-then-room-size c = over_room _ _ c.if-room-size.true

pub returns : goal.returns
returns c = under_room _ _ c.if-room-size.false
