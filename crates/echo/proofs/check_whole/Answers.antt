-- `echo::check_whole` meets its contract. Assumes nothing.
use borrow.Author.Tests.{eq-eqb, ne_eqb, lt-ltb, le-ltb}
use Rattle.echo.proofs.check_whole.Goals as goal

pub returns-then-octet_at-ne-REPLY_TYPE : goal.returns-then-octet_at-ne-REPLY_TYPE
returns-then-octet_at-ne-REPLY_TYPE c = rw (← c.octet_at.ensures) (simp (ne_eqb _ _ c.if-octet_at-ne-REPLY_TYPE.true))

pub returns-then-s-lt-REPLY_SIZE : goal.returns-then-s-lt-REPLY_SIZE
returns-then-s-lt-REPLY_SIZE c = rw (← c.octet_at.ensures) (simp (eq-eqb _ _ c.if-octet_at-ne-REPLY_TYPE.false, lt-ltb _ _ c.if-s-lt-REPLY_SIZE.true))

pub returns : goal.returns
returns c = rw (← c.octet_at.ensures) (simp (eq-eqb _ _ c.if-octet_at-ne-REPLY_TYPE.false, le-ltb _ _ c.if-s-lt-REPLY_SIZE.false))
