-- `sent_on::lessen` meets its contract. Assumes nothing.
use borrow.Author.Tests.{eq-eqb, ne_eqb}
use Rattle.header.specs.Onward.{lessened}
use Rattle.sent_on.proofs.lessen.Goals as goal

pub returns-then-on-eq1 : goal.returns-then-on-eq1
unfolding lessened
returns-then-on-eq1 c = simp (eq-eqb _ _ c.if-on-eq1.true, c.one_less.ensures)

pub returns-else-on-eq1 : goal.returns-else-on-eq1
unfolding lessened
returns-else-on-eq1 c = simp (ne_eqb _ _ c.if-on-eq1.false)
