-- `echo::sum_asked` meets its contract. Assumes nothing.
use native.Mathlib.Omega.{arith}
use Rattle.echo.proofs.Sums.{asked}
use Rattle.echo.proofs.sum_asked.Goals as goal

pub returns : goal.returns
returns c = asked c.args.s.now _ _ _ (λ i. (c.shared_slice_known-1.given i).fits) (omega (arith, c.requires)) c.pair_at-before.ensures
    c.ones_sum-behind.ensures.value c.brought_round.ensures
