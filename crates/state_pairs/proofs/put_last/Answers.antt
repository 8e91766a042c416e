-- `state_pairs::put_last` leaves every other part of the state. Assumes nothing.
use Rattle.state.proofs.Writing.{last_written}
use Rattle.state_pairs.proofs.put_last.Goals as goal

pub returns : goal.returns
returns c = last_written _ c.told-mission _
