-- `route_calls::word_of` meets its contract. Assumes nothing.
use Rattle.route_calls.proofs.word_of.Goals as goal

pub returns : goal.returns
returns c = c.word_of.ensures
