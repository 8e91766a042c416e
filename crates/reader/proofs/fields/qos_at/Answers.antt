-- `reader::fields::qos_at` meets its contract, absent and present. Assumes nothing.
use borrow.Author.Tests.{eq-eqb, ne_eqb}
use Rattle.header.specs.Read.{qos_of}
use Rattle.reader.proofs.fields.qos_at.Goals as goal

pub returns-then-on-eq0 : goal.returns-then-on-eq0
unfolding qos_of
returns-then-on-eq0 c = simp (eq-eqb _ _ c.if-on-eq0.true)

pub returns : goal.returns
unfolding qos_of
returns c = simp (ne_eqb _ _ c.if-on-eq0.false, ← c.octet_within-octet.ensures)
