-- `replies::make_reply` meets its contract. Assumes nothing.
use native.Mathlib.Omega.{arith}
use Rattle.replies.proofs.Making.{own_small, own_size, no_room, reply_made_lem}
use Rattle.replies.proofs.make_reply.Goals as goal

pub header_size-size-requires : goal.header_size-size-requires
header_size-size-requires c = own_small _ _ _ c.reply_fields-fields.ensures

pub overflow_add-size : goal.overflow_add-size
overflow_add-size c = omega (arith, own_size _ _ _ c.reply_fields-fields.ensures c.header_size-size.ensures)

pub returns-then-mtu-size : goal.returns-then-mtu-size
returns-then-mtu-size c = no_room c.args.a c.args.s _ _ c.is_owned.ensures c.reply_fields-fields.ensures c.header_size-size.ensures c.if-mtu-size.true c.no_answer.ensures

pub returns : goal.returns
returns c = reply_made_lem c.args.a c.args.s _ _ c.is_owned.ensures c.reply_fields-fields.ensures c.header_size-size.ensures c.if-mtu-size.false c.seen_for.ensures c.echoed_count.ensures c.origin_of.ensures c.source_in.ensures
