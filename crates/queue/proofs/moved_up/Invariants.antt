-- The free places of the new array are filled from the front.
use Rattle.std.proofs.Common.{◌≡◌}
use Rattle.queue.specs.Queue.{free}
use Rattle.queue.proofs.Steps.{moved}
use Rattle.queue.proofs.moved_up.Given as goal

abbrev pub invariant-loop-i : goal.invariant-loop-i
invariant-loop-i l = l.out ≡ moved free l.entries l.i
