-- `next_leg::asks_checksum` meets its contract. Assumes nothing.
use borrow.Author.Tests.{eq-eqb, ne_eqb}
use Rattle.next_leg.proofs.asks_checksum.Goals as goal

pub returns-then-code-eq1 : goal.returns-then-code-eq1
returns-then-code-eq1 c = simp (eq-eqb _ _ c.if-code-eq1.true)

pub returns : goal.returns
returns c = simp (ne_eqb _ _ c.if-code-eq1.false)
