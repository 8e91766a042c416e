-- `relay::outgoing::enter` meets its contract. Assumes nothing.
use Rattle.state.specs.Layout.{decode}
use Rattle.relay.proofs.outgoing.Entries.{one_entered}
use Rattle.relay.proofs.outgoing.enter.Goals as goal

pub returns : goal.returns
returns c b = one_entered b (decode c.args.mission.now) c.args.p _ c.queue_of-q.ensures c.put-put.ensures c.put_queue.ensures
