-- `tally::count_at` meets its contract. Assumes nothing.
use Rattle.std.proofs.Common.{rules}
use Rattle.tally.specs.Tally.{counted_at}
use Rattle.tally.proofs.count_at.Goals as goal

pub returns-in-Some : goal.returns-in-Some
unfolding counted_at
returns-in-Some c = search rules

pub returns-in_default : goal.returns-in_default
unfolding counted_at
returns-in_default c = search rules
