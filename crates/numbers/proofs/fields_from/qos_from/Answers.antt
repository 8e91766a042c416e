-- `numbers::fields_from::qos_from` meets its contract, by the test of the flag. Assumes nothing.
use borrow.Author.Tests.{eq-eqb, ne_eqb}
use Rattle.numbers.specs.Fields.{qos_from}
use Rattle.numbers.proofs.fields_from.qos_from.Goals as goal

pub returns-then-n-eq0 : goal.returns-then-n-eq0
unfolding qos_from
returns-then-n-eq0 c = simp (eq-eqb _ _ c.if-n-eq0.true)

pub returns : goal.returns
unfolding qos_from
returns c = simp (ne_eqb _ _ c.if-n-eq0.false)
