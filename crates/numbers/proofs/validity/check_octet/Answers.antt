-- `numbers::validity::check_octet` meets its contract, test by test; the limit is 1 where the element is absent. Assumes nothing.
use borrow.Author.Tests.{eq-eqb, ne_eqb, le-leb, lt-leb}
use Rattle.numbers.specs.Out.{octet_out}
use Rattle.numbers.proofs.validity.check_octet.Goals as goal

pub returns-then-on-ge2 : goal.returns-then-on-ge2
unfolding octet_out
returns-then-on-ge2 c = simp (le-leb _ _ c.if-on-ge2.true)

pub returns-then-v-ge1 : goal.returns-then-v-ge1
unfolding octet_out
returns-then-v-ge1 c = simp (lt-leb _ _ c.if-on-ge2.false, eq-eqb _ _ c.if-on-eq0.true, le-leb _ _ c.if-v-ge1.true)

pub returns-then-on-eq0 : goal.returns-then-on-eq0
unfolding octet_out
returns-then-on-eq0 c = simp (lt-leb _ _ c.if-on-ge2.false, eq-eqb _ _ c.if-on-eq0.true, lt-leb _ _ c.if-v-ge1.false)

pub returns-then-v-ge256 : goal.returns-then-v-ge256
unfolding octet_out
returns-then-v-ge256 c = simp (lt-leb _ _ c.if-on-ge2.false, ne_eqb _ _ c.if-on-eq0.false, le-leb _ _ c.if-v-ge256.true)

pub returns : goal.returns
unfolding octet_out
returns c = simp (lt-leb _ _ c.if-on-ge2.false, ne_eqb _ _ c.if-on-eq0.false, lt-leb _ _ c.if-v-ge256.false)
