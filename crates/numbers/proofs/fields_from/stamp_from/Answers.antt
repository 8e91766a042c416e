-- `numbers::fields_from::stamp_from` meets its contract, format by format. Assumes nothing.
use borrow.Author.Tests.{ne_eqb}
use Rattle.numbers.specs.Fields.{stamp_from}
use Rattle.numbers.proofs.fields_from.stamp_from.Goals as goal

pub returns-in-0 : goal.returns-in-0
unfolding stamp_from
returns-in-0 c = simp c.in-0.is

pub returns-in-1 : goal.returns-in-1
unfolding stamp_from
returns-in-1 c = simp c.in-1.is

pub returns-in-2 : goal.returns-in-2
unfolding stamp_from
returns-in-2 c = simp c.in-2.is

pub returns-in_default : goal.returns-in_default
unfolding stamp_from
returns-in_default c = search ne_eqb
