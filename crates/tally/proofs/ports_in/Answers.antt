-- `tally::ports_in` meets its contract. Assumes nothing.
use mathlib.Core.Path.{sym}
use Rattle.address.proofs.Ones.{ones_counted}
use borrow.Author.Rules.{rules}
use Rattle.tally.proofs.ports_in.Goals as goal

pub returns : goal.returns
returns c = sym (ones_counted _ (search rules))
