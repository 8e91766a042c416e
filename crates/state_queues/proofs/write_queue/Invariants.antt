-- `state_queues::write_queue` leaves the queue's words: after i turns the first i words are those of its entries. Assumes nothing.
use Prim.Native.Nat.{◌≤◌}
use mathlib.Core.Path.{◌≡◌}
use Rattle.words.proofs.Fill.{fill}
use Rattle.state.specs.Layout.{queue_words}
use Rattle.state_queues.proofs.write_queue.Given as goal

abbrev pub invariant-loop-i : goal.invariant-loop-i
invariant-loop-i l = (l.i ≤ 32) × (l.s ≡ fill l.initial.s (queue_words l.q) l.i)
