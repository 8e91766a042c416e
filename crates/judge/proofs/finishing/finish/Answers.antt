-- `judge::finishing::finish` meets its contract. Assumes nothing.
use Rattle.judge.proofs.Finished.{finish_told}
use Rattle.judge.proofs.finishing.finish.Goals as goal

pub returns : goal.returns
returns c = finish_told _ _ _ c.requires.0 c.local_of-local.ensures c.line_of-wish.ensures c.code_of.ensures c.rule-ruled.ensures
