-- `state_queues::count_of` reads one word of its part. Assumes nothing.
use Rattle.state.proofs.Reading.{queue_read}
use mathlib.Core.Path.{refl, ap, ◌∙◌}
use Rattle.queue.specs.declared.Queue.{Queue}
use Rattle.state_queues.proofs.count_of.Goals as goal

pub returns : goal.returns
returns c = c.read_count.ensures ∙ ap (λ (q : Queue). q.count) (queue_read _ _ _ c.requires refl)
