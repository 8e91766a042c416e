-- `next_leg::checksum_next` meets its contract. Assumes nothing.
use mathlib.Core.Path.{sym, ◌∙◌}
use Rattle.next_leg.proofs.checksum_next.Goals as goal

pub returns-then-asks_checksum : goal.returns-then-asks_checksum
returns-then-asks_checksum c = simp (sym c.asks_checksum.ensures ∙ c.if-asks_checksum.true)

pub returns : goal.returns
returns c = simp (sym c.asks_checksum.ensures ∙ c.if-asks_checksum.false)
