-- `echo::seen_in` meets its contract. Assumes nothing.
use Rattle.echo.proofs.seen_in.Goals as goal

pub returns : goal.returns
returns c = cc
