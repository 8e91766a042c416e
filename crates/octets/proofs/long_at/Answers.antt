-- `octets::long_at` meets its contract: eight octets are two words. Assumes nothing.
use mathlib.Core.Path.{◌∙◌}
use Rattle.octets.proofs.Laws.{two_words}
use Rattle.octets.proofs.long_at.Goals as goal

pub returns : goal.returns
returns c = c.joined.ensures ∙ two_words _ _ _ _ c.word_at.ensures c.word_at-2.ensures
