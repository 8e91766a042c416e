-- `tally::reply::count_reply` meets its contract. Assumes nothing.
use Rattle.tally.proofs.Moves.{made_told, unsent_told, discard_told, reply_moved}
use Rattle.tally.proofs.reply.count_reply.Goals as goal

pub count_at-requires : goal.count_at-requires
count_at-requires c = made_told c.args.ruling.onward c.made_counter.ensures

pub count_at-requires-2 : goal.count_at-requires-2
count_at-requires-2 c = unsent_told c.args.ruling.onward c.unsent_counter.ensures

pub count_at-requires-3 : goal.count_at-requires-3
count_at-requires-3 c = discard_told c.args.ruling.dropped c.discard_counter.ensures

pub returns : goal.returns
returns c = reply_moved _ c.args.ruling c.ports_in-dropped.ensures c.made_counter.ensures c.count_at.ensures c.unsent_counter.ensures c.count_at-2.ensures c.discard_counter.ensures c.count_at-3.ensures
