-- `header::limits::check_data` meets its contract: one test of the data. Assumes nothing.
use borrow.Author.Tests.{lt-ltb, le-ltb}
use Rattle.header.proofs.limits.check_data.Goals as goal

pub returns-then-n-gt-MOST_DATA : goal.returns-then-n-gt-MOST_DATA
returns-then-n-gt-MOST_DATA c = simp (lt-ltb _ _ c.if-n-gt-MOST_DATA.true)

pub returns : goal.returns
returns c = simp (le-ltb _ _ c.if-n-gt-MOST_DATA.false)
