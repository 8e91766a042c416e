-- `batch::names_in` meets its contract. Assumes nothing.
use Rattle.std.proofs.Common.{rules}
use Rattle.batch.proofs.Planning.{named, none_on_board, none_of_mission}
use Rattle.batch.proofs.names_in.Goals as goal

pub returns-in_default : goal.returns-in_default
returns-in_default c = none_on_board _ _ _ (search rules) c.no_names.ensures

pub returns-in_default-try_from : goal.returns-in_default-try_from
returns-in_default-try_from c = none_of_mission _ _ _ (search rules) c.no_names-in_default-try_from.ensures

pub returns : goal.returns
returns c = rw (← c.in-Ok.ensures.1.same, ← c.in-Ok-try_from.ensures.1.same)
    (named _ _ _ (search rules) (search rules) c.number_of.ensures c.names_of.ensures)
