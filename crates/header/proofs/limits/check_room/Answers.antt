-- `header::limits::check_room` meets its contract: one test of the output's room. Assumes nothing.
use borrow.Author.Tests.{lt-ltb, le-ltb}
use Rattle.header.proofs.limits.check_room.Goals as goal

pub returns-then-room-lt-LONGEST_HEADER : goal.returns-then-room-lt-LONGEST_HEADER
returns-then-room-lt-LONGEST_HEADER c = simp (lt-ltb _ _ c.if-room-lt-LONGEST_HEADER.true)

pub returns : goal.returns
returns c = simp (le-ltb _ _ c.if-room-lt-LONGEST_HEADER.false)
