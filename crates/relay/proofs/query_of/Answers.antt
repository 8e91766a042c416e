-- `relay::query_of` meets its contract. Assumes nothing.
use Rattle.relay.proofs.Asking.{queried}
use Rattle.relay.proofs.query_of.Goals as goal

pub returns : goal.returns
returns c = queried c.args.a c.is_searched.ensures c.best_if.ensures c.address_in.ensures
