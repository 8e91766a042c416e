-- What is left and the lengths before this item are the octets.
use Rattle.std.proofs.Common.{◌+◌, ◌≡◌}
use Rattle.batch.specs.Items.{start_of}
use Rattle.batch.proofs.sum_passes.Given as goal

abbrev pub invariant-loop-length : goal.invariant-loop-length
invariant-loop-length l = l.left + start_of l.lengths l.length-index ≡ l.octets
