-- `judge::ruling::case_of` meets its contract. Assumes nothing.
use Rattle.judge.proofs.ruling.case_of.Goals as goal

pub returns : goal.returns
returns c = cc
