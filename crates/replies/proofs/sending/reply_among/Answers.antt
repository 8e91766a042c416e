-- `replies::sending::reply_among` meets its contract. Assumes nothing.
use Rattle.replies.proofs.Going.{among_told}
use Rattle.replies.proofs.sending.reply_among.Goals as goal

pub returns : goal.returns
returns c = among_told c.args.a c.args.set c.args.code c.args.s c.large_enough.ensures c.ruling_of-ruling.ensures c.except-far.ensures c.octets_by.ensures
