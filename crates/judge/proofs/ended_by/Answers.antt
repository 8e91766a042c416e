-- `judge::ended_by` meets its contract. Assumes nothing.
use Rattle.judge.proofs.ended_by.Goals as goal

pub returns : goal.returns
returns c = cc
