-- `next_leg::fields_next` meets its contract. Assumes nothing.
use Rattle.next_leg.proofs.Made.{fields_made}
use Rattle.next_leg.proofs.fields_next.Goals as goal

pub returns : goal.returns
returns c = fields_made _ _ _ _ c.addresses_next.ensures c.hops_next.ensures c.checksum_next.ensures
