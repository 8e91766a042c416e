-- `numbers::validity::check_wide` meets its contract, test by test. Assumes nothing.
use borrow.Author.Tests.{eq-eqb, ne_eqb, le-leb, lt-leb}
use Rattle.numbers.proofs.validity.check_wide.Goals as goal

pub returns-then-w-ne0 : goal.returns-then-w-ne0
returns-then-w-ne0 c = simp (ne_eqb _ _ c.if-w-ne0.true)

pub returns-then-limit-w : goal.returns-then-limit-w
returns-then-limit-w c = simp (eq-eqb _ _ c.if-w-ne0.false, le-leb _ _ c.if-limit-w.true)

pub returns : goal.returns
returns c = simp (eq-eqb _ _ c.if-w-ne0.false, lt-leb _ _ c.if-limit-w.false)
