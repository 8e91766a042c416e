-- `layout::check_ipv6` meets its contract, test by test. Assumes nothing.
use borrow.Author.Tests.{eq-eqb, ne_eqb}
use Rattle.layout.proofs.check_ipv6.Goals as goal

pub returns-then-ipv6-ne1 : goal.returns-then-ipv6-ne1
returns-then-ipv6-ne1 c = simp (ne_eqb _ _ c.if-ipv6-ne1.true)

pub returns-then-extended-eq1 : goal.returns-then-extended-eq1
returns-then-extended-eq1 c = simp (eq-eqb _ _ c.if-ipv6-ne1.false, eq-eqb _ _ c.if-extended-eq1.true)

pub returns-then-sourced-eq0 : goal.returns-then-sourced-eq0
returns-then-sourced-eq0 c = simp (eq-eqb _ _ c.if-ipv6-ne1.false, ne_eqb _ _ c.if-extended-eq1.false, eq-eqb _ _ c.if-sourced-eq0.true)

pub returns : goal.returns
returns c = simp (eq-eqb _ _ c.if-ipv6-ne1.false, ne_eqb _ _ c.if-extended-eq1.false, ne_eqb _ _ c.if-sourced-eq0.false)
