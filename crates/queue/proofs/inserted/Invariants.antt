-- The places from the one that is come to on are open, and the newcomer's is the one that was found.
use Rattle.std.proofs.Common.{◌≡◌, ◌≤◌, take}
use Rattle.queue.specs.Queue.{precedence_of}
use Rattle.queue.proofs.Steps.{Place, shifted}
use Rattle.queue.proofs.inserted.Given as goal

abbrev pub invariant-loop-i : goal.invariant-loop-i
invariant-loop-i l =
    (l.place ≤ l.i) × (l.out ≡ shifted l.fn.entries l.i l.n) × Place precedence_of l.newcomer l.place (take l.n l.fn.entries)
