-- `state_places::put_group` leaves every other part of the state. Assumes nothing.
use Rattle.state.proofs.Writing.{group_written}
use Rattle.state_places.proofs.put_group.Goals as goal

pub returns : goal.returns
returns c = group_written c.args.mission.now c.told-mission c.args.i c.args.x _ c.requires
    c.write_group.ensures
