-- `state_queues::read_count` reads the last of a queue's words. Assumes nothing.
use Rattle.state.specs.Layout.{queue_of}
use borrow.Author.Rules.{rules}
use Rattle.state_queues.proofs.read_count.Goals as goal

pub returns : goal.returns
unfolding queue_of
returns c = search rules
