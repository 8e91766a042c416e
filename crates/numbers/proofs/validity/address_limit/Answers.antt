-- `numbers::validity::address_limit` meets its contract, test by test. Assumes nothing.
use borrow.Author.Tests.{eq-eqb, ne_eqb}
use Rattle.numbers.proofs.validity.address_limit.Goals as goal

pub returns-then-on-eq0 : goal.returns-then-on-eq0
returns-then-on-eq0 c = simp (eq-eqb _ _ c.if-on-eq0.true)

pub returns-then-extended-eq1 : goal.returns-then-extended-eq1
returns-then-extended-eq1 c = simp (ne_eqb _ _ c.if-on-eq0.false, eq-eqb _ _ c.if-extended-eq1.true)

pub returns : goal.returns
returns c = simp (ne_eqb _ _ c.if-on-eq0.false, ne_eqb _ _ c.if-extended-eq1.false)
