-- `answering::pass_over` meets its contract. Assumes nothing.
use Rattle.answering.proofs.Left.{passed_over}
use Rattle.answering.proofs.pass_over.Goals as goal

pub returns : goal.returns
returns c = passed_over _ c.ruling_of.ensures c.reply_number.ensures
