-- `judge::ruling::sought_of` meets its contract. Assumes nothing.
use Rattle.judge.proofs.ruling.sought_of.Goals as goal

pub returns : goal.returns
returns c = cc
