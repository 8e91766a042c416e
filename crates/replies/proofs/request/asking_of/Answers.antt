-- `replies::request::asking_of` meets its contract. Assumes nothing.
use Rattle.echo.proofs.Refusals.{reading_told}
use Rattle.replies.proofs.Chosen.{asks_of}
use Rattle.replies.proofs.request.asking_of.Goals as goal

pub returns : goal.returns
returns c = asks_of c.args.h _ (reading_told _ _ c.read_message.ensures) c.asking_in.ensures
