-- `reader::check_whole` meets its contract: one test of the length. Assumes nothing.
use borrow.Author.Tests.{lt-ltb, le-ltb}
use Rattle.reader.proofs.check_whole.Goals as goal

pub returns-then-s-k : goal.returns-then-s-k
returns-then-s-k c = simp (lt-ltb _ _ c.if-s-k.true)

pub returns : goal.returns
returns c = simp (le-ltb _ _ c.if-s-k.false)
