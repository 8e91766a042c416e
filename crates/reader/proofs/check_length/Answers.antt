-- `reader::check_length` meets its contract: the length field against the octets lent, then against the header. Assumes nothing.
use borrow.Author.Tests.{lt-ltb, le-ltb}
use Rattle.reader.proofs.check_length.Goals as goal

pub returns-then-s-length : goal.returns-then-s-length
returns-then-s-length c = rw (← c.length_at-length.ensures) (simp (lt-ltb _ _ c.if-s-length.true))

pub returns-then-length-l : goal.returns-then-length-l
returns-then-length-l c = rw (← c.length_at-length.ensures) (simp (le-ltb _ _ c.if-s-length.false, lt-ltb _ _ c.if-length-l.true))

pub returns : goal.returns
returns c = rw (← c.length_at-length.ensures) (simp (le-ltb _ _ c.if-s-length.false, le-ltb _ _ c.if-length-l.false))
