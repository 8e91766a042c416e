-- `queue::Queue::fresh` meets its contract. Assumes nothing.
use mathlib.Core.Path.{refl}
use Rattle.queue.specs.Queue.{fresh}
use Rattle.queue.proofs.Queue.fresh.Goals as goal

pub returns : goal.returns
unfolding fresh
returns c = refl
