-- `builder::range::check_time` meets its contract: one test against the bound that `numbers_in` answers. Assumes nothing.
use borrow.Author.Tests.{le-leb, lt-leb}
use Rattle.builder.proofs.range.check_time.Goals as goal

pub returns-then-numbers_in-time : goal.returns-then-numbers_in-time
returns-then-numbers_in-time c = rw (← c.numbers_in.ensures) (simp (le-leb _ _ c.if-numbers_in-time.true))

pub returns : goal.returns
returns c = rw (← c.numbers_in.ensures) (simp (lt-leb _ _ c.if-numbers_in-time.false))
