-- `reader::check_start` meets its contract: one test of the length. Assumes nothing.
use borrow.Author.Tests.{lt-ltb, le-ltb}
use Rattle.reader.proofs.check_start.Goals as goal

pub returns-then-s-lt3 : goal.returns-then-s-lt3
returns-then-s-lt3 c = simp (lt-ltb _ _ c.if-s-lt3.true)

pub returns : goal.returns
returns c = simp (le-ltb _ _ c.if-s-lt3.false)
