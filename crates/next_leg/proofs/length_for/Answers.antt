-- `next_leg::length_for` meets its contract. Assumes nothing.
use borrow.Author.Tests.{eq-eqb, ne_eqb}
use Rattle.next_leg.proofs.length_for.Goals as goal

pub returns-then-far-eq0 : goal.returns-then-far-eq0
returns-then-far-eq0 c = simp (eq-eqb _ _ c.if-far-eq0.true)

pub returns : goal.returns
returns c = simp (ne_eqb _ _ c.if-far-eq0.false)
