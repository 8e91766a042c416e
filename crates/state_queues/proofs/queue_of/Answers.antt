-- `state_queues::queue_of` reads its part of the state. Assumes nothing.
use Rattle.state.proofs.Reading.{queue_read}
use Rattle.state_queues.proofs.queue_of.Goals as goal

pub returns : goal.returns
returns c = queue_read _ _ _ c.requires c.read_queue.ensures
