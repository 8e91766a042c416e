-- `replies::sending::reply_by` meets its contract. Assumes nothing.
use Rattle.replies.proofs.Going.{by_port, by_none}
use Rattle.replies.proofs.sending.reply_by.Goals as goal

pub returns-in-Some : goal.returns-in-Some
returns-in-Some c = by_port _ c.args.a c.args.room _ _ c.in-Some.is c.sought_for.ensures c.wanted-s.ensures c.reply_among.ensures

pub returns-in-None : goal.returns-in-None
returns-in-None c = by_none _ c.args.a c.args.room c.in-None.is c.ruling_of.ensures
