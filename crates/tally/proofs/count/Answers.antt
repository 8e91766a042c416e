-- `tally::count` meets its contract. Assumes nothing.
use Rattle.tally.proofs.Moves.{receipt_told, number_told, ending_moved}
use Rattle.tally.proofs.count.Goals as goal

pub count_at-requires : goal.count_at-requires
count_at-requires c = receipt_told c.args.e.refusal c.receipt_counter.ensures

pub count_at-requires-2 : goal.count_at-requires-2
count_at-requires-2 c = number_told c.args.e.refusal c.counter_for.ensures

pub returns : goal.returns
returns c = ending_moved _ c.args.e c.receipt_counter.ensures c.count_at.ensures c.counter_for.ensures c.count_at-2.ensures c.count_ruling.ensures
