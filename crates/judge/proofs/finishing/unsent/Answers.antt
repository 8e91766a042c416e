-- `judge::finishing::unsent` meets its contract. Assumes nothing.
use Rattle.judge.proofs.finishing.unsent.Goals as goal

pub returns : goal.returns
returns c = cc
