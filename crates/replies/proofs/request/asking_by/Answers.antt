-- `replies::request::asking_by` meets its contract. Assumes nothing.
use Rattle.replies.proofs.Chosen.{asks_by}
use Rattle.replies.proofs.request.asking_by.Goals as goal

pub returns-in-Request : goal.returns-in-Request
returns-in-Request c = asks_by _ _ c.in-Request.is
