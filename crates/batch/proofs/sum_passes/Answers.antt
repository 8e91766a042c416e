-- The laws of where the items begin.
use Rattle.std.proofs.Common.{arith}
use Rattle.batch.proofs.Sums.{starts, start_more, one_passes, none_passes}
use Rattle.batch.proofs.sum_passes.Goals as goal

pub loop-length-init : goal.loop-length-init
loop-length-init c = omega (arith, starts c.args.lengths.now)

pub returns-then-left-n : goal.returns-then-left-n
returns-then-left-n c = one_passes _ _ _ _ c.loop-length.invariant c.loop-length-test.true c.if-left-n.true

pub loop-length-preserved : goal.loop-length-preserved
loop-length-preserved c = omega (arith, c.loop-length.invariant, start_more c.args.lengths.now c.loop-length.length-index)

pub returns : goal.returns
returns c = none_passes _ _ _ _ c.loop-length.invariant (omega arith) c.loop-length-test.false
