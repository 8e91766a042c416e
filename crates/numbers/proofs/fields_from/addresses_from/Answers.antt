-- `numbers::fields_from::addresses_from` meets its contract, by the tests of the three flags. Assumes nothing.
use borrow.Author.Tests.{eq-eqb, ne_eqb}
use Rattle.numbers.specs.Fields.{addresses_from}
use Rattle.numbers.proofs.fields_from.addresses_from.Goals as goal

pub returns-then-n-eq1 : goal.returns-then-n-eq1
unfolding addresses_from
returns-then-n-eq1 c = simp (eq-eqb _ _ c.if-n-eq1.true, c.six_from.ensures, c.six_from-then-n-eq1.ensures)

pub returns-then-n-eq1-3 : goal.returns-then-n-eq1-3
unfolding addresses_from
returns-then-n-eq1-3 c = simp (ne_eqb _ _ c.if-n-eq1.false, eq-eqb _ _ c.if-n-eq1-2.true, eq-eqb _ _ c.if-n-eq1-3.true)

pub returns-then-n-eq1-2 : goal.returns-then-n-eq1-2
unfolding addresses_from
returns-then-n-eq1-2 c = simp (ne_eqb _ _ c.if-n-eq1.false, eq-eqb _ _ c.if-n-eq1-2.true, ne_eqb _ _ c.if-n-eq1-3.false)

pub returns-then-n-eq1-4 : goal.returns-then-n-eq1-4
unfolding addresses_from
returns-then-n-eq1-4 c = simp (ne_eqb _ _ c.if-n-eq1.false, ne_eqb _ _ c.if-n-eq1-2.false, eq-eqb _ _ c.if-n-eq1-4.true)

pub returns : goal.returns
unfolding addresses_from
returns c = simp (ne_eqb _ _ c.if-n-eq1.false, ne_eqb _ _ c.if-n-eq1-2.false, ne_eqb _ _ c.if-n-eq1-4.false)
