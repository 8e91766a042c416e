-- `replies::least` meets its contract. Assumes nothing.
use Rattle.replies.proofs.Making.{least_is_first, least_is_second}
use Rattle.replies.proofs.least.Goals as goal

pub returns-then-a-b : goal.returns-then-a-b
returns-then-a-b c = least_is_first _ _ c.if-a-b.true

pub returns : goal.returns
returns c = least_is_second _ _ c.if-a-b.false
