-- One entry more has moved.
use Rattle.std.proofs.Common.{arith}
use Rattle.queue.specs.Queue.{free}
use Rattle.queue.proofs.Steps.{move_turn}
use Rattle.queue.proofs.moved_up.Goals as goal

pub loop-i-preserved : goal.loop-i-preserved
loop-i-preserved c =
    rw c.loop-i.invariant (move_turn free c.args.entries (omega arith) c.loop-i.i _ c.loop-i-test.true)
