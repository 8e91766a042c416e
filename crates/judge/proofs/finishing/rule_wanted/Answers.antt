-- `judge::finishing::rule_wanted` meets its contract. Assumes nothing.
use Rattle.judge.proofs.Wanted.{among_told}
use Rattle.judge.proofs.finishing.rule_wanted.Goals as goal

pub returns : goal.returns
returns c = among_told _ _ _ _ _ c.lengths_next-q.ensures.0 c.sought_of.ensures c.wanted-s.ensures c.granted_among-granted.ensures c.ruling_of-ruling.ensures c.legs_of.ensures
