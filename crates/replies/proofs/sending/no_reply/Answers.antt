-- `replies::sending::no_reply` meets its contract. Assumes nothing.
use Rattle.replies.proofs.Going.{none_goes}
use Rattle.replies.proofs.sending.no_reply.Goals as goal

pub returns : goal.returns
returns c = none_goes _ c.ruling_of.ensures
