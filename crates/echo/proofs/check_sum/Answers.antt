-- `echo::check_sum` meets its contract. Assumes nothing.
use borrow.Author.Tests.{eq-eqb, ne_eqb}
use Rattle.echo.proofs.check_sum.Goals as goal

pub returns-then-pair_at-sum_asked : goal.returns-then-pair_at-sum_asked
returns-then-pair_at-sum_asked c = rw (← c.pair_at.ensures, ← c.sum_asked.ensures) (simp (ne_eqb _ _ c.if-pair_at-sum_asked.true))

pub returns : goal.returns
returns c = rw (← c.pair_at.ensures, ← c.sum_asked.ensures) (simp (eq-eqb _ _ c.if-pair_at-sum_asked.false))
