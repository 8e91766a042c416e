-- `writer::front::presence` meets its contract: one test. Assumes nothing.
use borrow.Author.Tests.{eq-eqb, ne_eqb}
use Rattle.writer.proofs.front.presence.Goals as goal

pub returns-then-octet-eq0 : goal.returns-then-octet-eq0
returns-then-octet-eq0 c = simp (eq-eqb _ _ c.if-octet-eq0.true)

pub returns-else-octet-eq0 : goal.returns-else-octet-eq0
returns-else-octet-eq0 c = simp (ne_eqb _ _ c.if-octet-eq0.false)
