-- `tally::count_ruling` meets its contract: three moves one after the other. Assumes nothing.
use Rattle.tally.proofs.Moves.{local_told, onward_told, discard_told, ruling_moved}
use Rattle.tally.proofs.count_ruling.Goals as goal

pub count_at-requires : goal.count_at-requires
count_at-requires c = local_told c.args.ruling.local c.local_counter.ensures

pub count_at-requires-2 : goal.count_at-requires-2
count_at-requires-2 c = onward_told c.args.ruling.onward c.onward_counter.ensures

pub count_at-requires-3 : goal.count_at-requires-3
count_at-requires-3 c = discard_told c.args.ruling.dropped c.discard_counter.ensures

pub returns : goal.returns
returns c = ruling_moved _ c.args.ruling c.ports_in-dropped.ensures c.local_counter.ensures c.count_at.ensures c.onward_counter.ensures c.count_at-2.ensures c.discard_counter.ensures c.count_at-3.ensures
