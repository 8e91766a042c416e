-- `replies::sending::sought_for` meets its contract. Assumes nothing.
use Rattle.replies.proofs.Going.{sought_told}
use Rattle.replies.proofs.sending.sought_for.Goals as goal

pub returns : goal.returns
returns c = sought_told c.args.a c.args.code c.args.room c.domain_of.ensures c.wire_length.ensures.0 c.within_room.ensures c.wire_length-2.ensures.0 c.within_room-2.ensures
