-- `floods::keep` meets its contract. Assumes nothing.
use Rattle.floods.proofs.Keeping.{nothing_kept, pair_kept}
use borrow.Author.Rules.{rules}
use Rattle.floods.proofs.keep.Goals as goal

pub returns-in_default : goal.returns-in_default
returns-in_default c = nothing_kept c.args.f _ _ _ λ place e. c.in_default.not-New place e

pub put_pair-requires : goal.put_pair-requires
put_pair-requires c = rw c.in-New.is at c.requires

pub returns : goal.returns
returns c = pair_kept c.args.f _ _ _ c.in-New.is c.pair_of-pair.ensures c.put_pair.ensures
