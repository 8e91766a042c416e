-- `meaning::flood::pair_of` meets its contract. Assumes nothing.
use Rattle.meaning.specs.Flood.{pair_of}
use Rattle.meaning.proofs.flood.pair_of.Goals as goal

pub returns : goal.returns
unfolding pair_of
returns c = cc
