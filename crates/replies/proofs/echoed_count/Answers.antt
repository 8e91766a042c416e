-- `replies::echoed_count` meets its contract. Assumes nothing.
use Rattle.replies.proofs.Making.{least_told}
use Rattle.replies.proofs.echoed_count.Goals as goal

pub returns : goal.returns
returns c = least_told _ _ _ c.least.ensures c.least-2.ensures
