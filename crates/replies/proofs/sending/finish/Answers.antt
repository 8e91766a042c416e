-- `replies::sending::finish` meets its contract. Assumes nothing.
use Rattle.replies.proofs.Going.{not_made, is_made_lem}
use Rattle.replies.proofs.sending.finish.Goals as goal

pub returns-then-a-eq0 : goal.returns-then-a-eq0
returns-then-a-eq0 c = not_made _ _ _ _ c.if-a-eq0.true c.no_reply.ensures

pub reply_by-requires : goal.reply_by-requires
reply_by-requires c = c.requires c.if-a-eq0.false

pub returns : goal.returns
returns c = is_made_lem _ _ _ _ c.if-a-eq0.false c.reply_by.ensures
