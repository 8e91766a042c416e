-- `meaning::is_carried` meets its contract. Assumes nothing.
use borrow.Author.Tests.{eq-eqb, ne_eqb}
use Rattle.meaning.proofs.is_carried.Goals as goal

pub returns-then-routing-eq0 : goal.returns-then-routing-eq0
returns-then-routing-eq0 c = simp (eq-eqb _ _ c.if-routing-eq0.true)

pub returns : goal.returns
returns c = simp (ne_eqb _ _ c.if-routing-eq0.false)
