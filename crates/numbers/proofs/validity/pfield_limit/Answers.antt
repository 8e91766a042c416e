-- `numbers::validity::pfield_limit` meets its contract, test by test. Assumes nothing.
use borrow.Author.Tests.{eq-eqb, ne_eqb}
use Rattle.numbers.proofs.validity.pfield_limit.Goals as goal

pub returns-then-format-eq2 : goal.returns-then-format-eq2
returns-then-format-eq2 c = simp (eq-eqb _ _ c.if-format-eq2.true)

pub returns : goal.returns
returns c = simp (ne_eqb _ _ c.if-format-eq2.false)
