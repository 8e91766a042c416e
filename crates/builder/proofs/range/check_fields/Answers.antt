-- `builder::range::check_fields` meets its contract, number by number; basic QOS and the timestamp are what their own checks answer. Assumes nothing.
use borrow.Author.Rules.{rules}
use Rattle.header.specs.Range.{out_of_range}
use Rattle.builder.proofs.range.check_fields.Goals as goal

pub returns-then-f-ge16 : goal.returns-then-f-ge16
unfolding out_of_range
returns-then-f-ge16 c = search rules

pub returns-in_default : goal.returns-in_default
unfolding out_of_range
returns-in_default c = search rules

pub returns : goal.returns
unfolding out_of_range
returns c = search rules
