-- `taking::take` meets its contract. Assumes nothing.
use Rattle.state_board.proofs.SetUp.{passed_port}
use Rattle.taking.proofs.Outcomes.{no_port_lem, nothing_waits, one_handed}
use Rattle.taking.proofs.take.Goals as goal

pub returns-in_default : goal.returns-in_default
returns-in_default c = let t = no_port_lem _ _ _ c.number_of-number.ensures c.check_port.ensures c.in_default.is in record { value = t.0; mission_after = t.1 }

pub queue_of-q-requires : goal.queue_of-q-requires
queue_of-q-requires c = passed_port _ _ c.check_port.ensures c.in-Passed.is

pub returns-in_default-head : goal.returns-in_default-head
returns-in_default-head c = let t = nothing_waits _ _ _ c.number_of-number.ensures c.check_port.ensures c.in-Passed.is c.queue_of-q.ensures c.take-taken.ensures c.in_default-head.is in record { value = t.0; mission_after = t.1 }

pub put_queue-requires : goal.put_queue-requires
put_queue-requires c = passed_port _ _ c.check_port.ensures c.in-Passed.is

pub returns : goal.returns
returns c = let t = one_handed _ _ _ c.number_of-number.ensures c.check_port.ensures c.in-Passed.is c.queue_of-q.ensures c.take-taken.ensures _ c.in-Some.is c.put_queue.ensures in record { value = t.0; mission_after = t.1 }
