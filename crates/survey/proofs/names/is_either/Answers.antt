-- `survey::names::is_either` meets its contract. Assumes nothing.
use borrow.Author.Tests.{eq-eqb, ne_eqb}
use Rattle.survey.proofs.names.is_either.Goals as goal

pub returns-then-x-a : goal.returns-then-x-a
returns-then-x-a c = simp (eq-eqb _ _ c.if-x-a.true)

pub returns : goal.returns
returns c = simp (ne_eqb _ _ c.if-x-a.false)
