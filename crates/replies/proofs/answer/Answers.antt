-- `replies::answer` meets its contract. Assumes nothing.
use Rattle.state_board.proofs.SetUp.{passed_port}
use Rattle.judge.proofs.Stages.{port_told, port_seen}
use Rattle.replies.proofs.Answered.{no_port_lem, little_room, answered}
use Rattle.replies.proofs.answer.Goals as goal

pub returns-in_default : goal.returns-in_default
returns-in_default c = no_port_lem _ _ _ _ _ _ (port_told _ _ c.number_of-number.ensures c.check_port.ensures) c.in_default.is c.no_answer.ensures

pub seen_port-p-requires : goal.seen_port-p-requires
seen_port-p-requires c = passed_port _ _ c.check_port.ensures c.in-Passed.is

pub returns-then-room-p : goal.returns-then-room-p
returns-then-room-p c = little_room _ _ _ _ _ _ (port_told _ _ c.number_of-number.ensures c.check_port.ensures) c.in-Passed.is (port_seen _ _ c.number_of-number.ensures c.seen_port-p.ensures) c.if-room-p.true c.no_answer-then-room-p.ensures

pub returns : goal.returns
returns c = answered _ _ _ _ _ _ (port_told _ _ c.number_of-number.ensures c.check_port.ensures) c.in-Passed.is (port_seen _ _ c.number_of-number.ensures c.seen_port-p.ensures) c.if-room-p.false c.only_port.ensures c.answer_octets.ensures
