-- `state_places::put_path` leaves every other part of the state. Assumes nothing.
use Rattle.state.proofs.Writing.{path_written}
use Rattle.state_places.proofs.put_path.Goals as goal

pub returns : goal.returns
returns c = path_written c.args.mission.now c.told-mission c.args.i c.args.x _ c.requires
    c.write_path.ensures
