-- `echo::kind_in` meets its contract. Assumes nothing.
use borrow.Author.Tests.{eq-eqb, ne_eqb}
use Rattle.echo.proofs.kind_in.Goals as goal

pub returns-then-octet_at-eq-REQUEST_TYPE : goal.returns-then-octet_at-eq-REQUEST_TYPE
returns-then-octet_at-eq-REQUEST_TYPE c = rw (← c.octet_at.ensures) (simp (eq-eqb _ _ c.if-octet_at-eq-REQUEST_TYPE.true))

pub seen_in-requires : goal.seen_in-requires
seen_in-requires c = c.requires (rw (← c.octet_at.ensures) (ne_eqb _ _ c.if-octet_at-eq-REQUEST_TYPE.false))

pub returns : goal.returns
returns c = rw (← c.octet_at.ensures) (simp (ne_eqb _ _ c.if-octet_at-eq-REQUEST_TYPE.false, c.seen_in.ensures))
