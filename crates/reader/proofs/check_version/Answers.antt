-- `reader::check_version` meets its contract: one test of the first octet. Assumes nothing.
use borrow.Author.Tests.{eq-eqb, ne_eqb}
use Rattle.reader.proofs.check_version.Goals as goal

pub returns-then-octet_at-ne1 : goal.returns-then-octet_at-ne1
returns-then-octet_at-ne1 c = rw (← c.octet_at.ensures) (simp (ne_eqb _ _ c.if-octet_at-ne1.true))

pub returns : goal.returns
returns c = rw (← c.octet_at.ensures) (simp (eq-eqb _ _ c.if-octet_at-ne1.false))
