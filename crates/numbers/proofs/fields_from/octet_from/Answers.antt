-- `numbers::fields_from::octet_from` meets its contract, by the test of the flag. Assumes nothing.
use borrow.Author.Tests.{eq-eqb, ne_eqb}
use Rattle.numbers.specs.Fields.{octet_from}
use Rattle.numbers.proofs.fields_from.octet_from.Goals as goal

pub returns-then-on-eq0 : goal.returns-then-on-eq0
unfolding octet_from
returns-then-on-eq0 c = simp (eq-eqb _ _ c.if-on-eq0.true)

pub returns : goal.returns
unfolding octet_from
returns c = simp (ne_eqb _ _ c.if-on-eq0.false)
