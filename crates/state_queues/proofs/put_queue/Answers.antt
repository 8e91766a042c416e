-- `state_queues::put_queue` leaves every other part of the state. Assumes nothing.
use native.Mathlib.Omega.{arith}
use mathlib.Core.Path.{◌≡◌}
use lib.ListN.{length}
use Rattle.state.proofs.Writing.{queue_written}
use Rattle.state_queues.proofs.Held.{held}
use Rattle.state_queues.proofs.put_queue.Goals as goal

pub returns : goal.returns
returns c = let q = c.args.q in
    let wide : length q.entries ≡ 32 = omega arith in
    queue_written c.args.mission.now c.told-mission c.args.p q _ wide
    (held q.entries _ c.well_formed.1.1.0.1.1.0.1.1) c.requires c.write_queue.ensures
