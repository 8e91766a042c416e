-- `state_mission::add_count` leaves every other part of the state. Assumes nothing.
use Rattle.state.proofs.Writing.{counter_added}
use Rattle.state_mission.proofs.add_count.Goals as goal

pub returns : goal.returns
returns c = rw c.wrapping_add_u32.ensures.value
    (counter_added c.args.mission.now c.told-mission c.args.i c.args.n c.requires)
