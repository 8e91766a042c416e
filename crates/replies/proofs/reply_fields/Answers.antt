-- `replies::reply_fields` meets its contract. Assumes nothing.
use Rattle.replies.proofs.Making.{fields_turned}
use Rattle.replies.proofs.reply_fields.Goals as goal

pub returns : goal.returns
returns c = fields_turned _ _ _ c.reply_addresses.ensures c.reply_qos.ensures
