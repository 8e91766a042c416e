-- `judge::refused` meets its contract. Assumes nothing.
use Rattle.judge.proofs.refused.Goals as goal

pub returns : goal.returns
returns c = cc
