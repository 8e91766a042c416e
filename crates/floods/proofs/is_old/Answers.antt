-- `floods::is_old` meets its contract. Assumes nothing.
use borrow.Author.Tests.{eq-eqb, ne_eqb}
use Rattle.floods.specs.Sweep.{is_old}
use Rattle.floods.proofs.Sweeping.{younger}
use Rattle.floods.proofs.is_old.Goals as goal

pub returns-then-x-eq0 : goal.returns-then-x-eq0
unfolding is_old
returns-then-x-eq0 c = simp (eq-eqb _ _ c.if-x-eq0.true)

pub returns-then-second-x : goal.returns-then-second-x
returns-then-second-x c = younger _ _ c.args.x c.if-x-eq0.false c.if-second-x.true

pub returns : goal.returns
unfolding is_old
returns c = simp (ne_eqb _ _ c.if-x-eq0.false)
