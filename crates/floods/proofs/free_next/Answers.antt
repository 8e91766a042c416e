-- `floods::free_next` meets its contract. Assumes nothing.
use borrow.Author.Tests.{eq-eqb, ne_eqb}
use native.Mathlib.Numerals.{add-one}
use Rattle.floods.proofs.free_next.Goals as goal

pub returns-then-free-i : goal.returns-then-free-i
returns-then-free-i c = simp (ne_eqb _ _ c.if-free-i.true)

pub returns-then-x-eq0 : goal.returns-then-x-eq0
returns-then-x-eq0 c = search eq-eqb

pub returns : goal.returns
returns c = simp (eq-eqb _ _ c.if-free-i.false, ne_eqb _ _ c.if-x-eq0.false) (add-one _)
