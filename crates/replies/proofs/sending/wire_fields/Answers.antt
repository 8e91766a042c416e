-- `replies::sending::wire_fields` meets its contract. Assumes nothing.
use Rattle.replies.proofs.Going.{fields_wired}
use Rattle.replies.proofs.sending.wire_fields.Goals as goal

pub returns : goal.returns
returns c = fields_wired _ c.args.a _ c.addresses_next.ensures c.checksum_next.ensures
