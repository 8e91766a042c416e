-- `octets::word_at` meets its contract: four octets are two pairs. Assumes nothing.
use Rattle.octets.proofs.Laws.{two_pairs}
use Rattle.octets.proofs.word_at.Goals as goal

pub returns : goal.returns
returns c = two_pairs _ _ _ _ c.pair-2.ensures.value c.pair.ensures.value
