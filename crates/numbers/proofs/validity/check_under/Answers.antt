-- `numbers::validity::check_under` meets its contract, test by test. Assumes nothing.
use borrow.Author.Tests.{le-leb, lt-leb}
use Rattle.numbers.specs.Out.{any_over}
use Rattle.numbers.proofs.validity.check_under.Goals as goal

pub returns-then-limit-x : goal.returns-then-limit-x
unfolding any_over
returns-then-limit-x c = simp (le-leb _ _ c.if-limit-x.true)

pub returns-then-limit-y : goal.returns-then-limit-y
unfolding any_over
returns-then-limit-y c = simp (lt-leb _ _ c.if-limit-x.false, le-leb _ _ c.if-limit-y.true)

pub returns-then-limit-z : goal.returns-then-limit-z
unfolding any_over
returns-then-limit-z c = simp (lt-leb _ _ c.if-limit-x.false, lt-leb _ _ c.if-limit-y.false, le-leb _ _ c.if-limit-z.true)

pub returns : goal.returns
unfolding any_over
returns c = simp (lt-leb _ _ c.if-limit-x.false, lt-leb _ _ c.if-limit-y.false, lt-leb _ _ c.if-limit-z.false)
