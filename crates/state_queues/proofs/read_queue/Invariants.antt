-- `state_queues::read_queue` reads the queue: after i turns the first i entries are those of the words. Assumes nothing.
use Prim.Native.Nat.{◌≤◌}
use mathlib.Core.Path.{◌≡◌}
use Rattle.words.proofs.Fill.{fill}
use Rattle.state_queues.proofs.Queues.{entries_of}
use Rattle.state_queues.proofs.read_queue.Given as goal

abbrev pub invariant-loop-i : goal.invariant-loop-i
invariant-loop-i l = (l.i ≤ 32) × (l.entries ≡ fill l.initial.entries (entries_of l.s) l.i)
