-- `replies::seen_for` meets its contract. Assumes nothing.
use Rattle.replies.proofs.Making.{seen_told}
use Rattle.replies.proofs.seen_for.Goals as goal

pub returns : goal.returns
returns c = seen_told _ _ c.hops_in.ensures c.stamp_format.ensures c.stamp_number.ensures
