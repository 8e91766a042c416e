-- `next_leg::asks_hops` meets its contract. Assumes nothing.
use borrow.Author.Tests.{eq-eqb, ne_eqb}
use Rattle.next_leg.proofs.asks_hops.Goals as goal

pub returns-then-code-eq2 : goal.returns-then-code-eq2
returns-then-code-eq2 c = simp (eq-eqb _ _ c.if-code-eq2.true)

pub returns : goal.returns
returns c = simp (ne_eqb _ _ c.if-code-eq2.false)
