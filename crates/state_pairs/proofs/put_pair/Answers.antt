-- `state_pairs::put_pair` leaves every other part of the state. Assumes nothing.
use Rattle.state.proofs.Writing.{pair_written}
use Rattle.state_pairs.proofs.put_pair.Goals as goal

pub returns : goal.returns
returns c = pair_written c.args.mission.now c.told-mission c.args.i c.args.x _ c.requires
    c.write_pair.ensures
