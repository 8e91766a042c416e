-- `harpjuniper_messages::seen_in` meets its contract. Assumes nothing.
use Rattle.harpjuniper_messages.proofs.seen_in.Goals as goal

pub returns-in-Request : goal.returns-in-Request
returns-in-Request c = rw c.in-Request.is
