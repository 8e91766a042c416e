-- The sum so far, with the words still ahead added to it, is alike to the plain sum of all.
use Rattle.std.proofs.Common.{◌+◌, ◌*◌, ◌<◌, drop}
use Rattle.checksum.specs.Sum.{words}
use Rattle.checksum.proofs.Words.{plain}
use Rattle.checksum.proofs.TwoAtOnce.{Alike}
use Rattle.checksum.proofs.ones_sum.Given as goal

abbrev pub invariant-loop-i : goal.invariant-loop-i
invariant-loop-i l =
    (l.sum < 8589934592) × Alike (l.sum + plain (words (drop (4 * l.i) l.fn.s))) (plain (words l.fn.s))
