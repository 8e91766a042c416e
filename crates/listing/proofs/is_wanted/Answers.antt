-- `listing::is_wanted` meets its contract. Assumes nothing.
use Rattle.std.proofs.Common.{rules}
use Rattle.listing.specs.Scan.{is_wanted}
use Rattle.listing.proofs.is_wanted.Goals as goal

pub returns-in-Best : goal.returns-in-Best
unfolding is_wanted
returns-in-Best c = search rules

pub returns-in-Same : goal.returns-in-Same
unfolding is_wanted
returns-in-Same c = search rules
