-- `judge::judge` meets its contract. Assumes nothing.
use Rattle.state_board.proofs.SetUp.{passed_port}
use Rattle.judge.proofs.Stages.{port_told, port_seen, no_port_lem, no_room, past_second, judged}
use Rattle.judge.proofs.judge.Goals as goal

pub returns-in_default : goal.returns-in_default
returns-in_default c = no_port_lem _ _ _ _ _ _ (port_told _ _ c.number_of-number.ensures c.check_port.ensures) c.in_default.is c.refused.ensures

pub returns-then-room-lt-OUTPUT_ROOM : goal.returns-then-room-lt-OUTPUT_ROOM
returns-then-room-lt-OUTPUT_ROOM c = no_room _ _ _ _ _ _ (port_told _ _ c.number_of-number.ensures c.check_port.ensures) c.in-Passed.is c.if-room-lt-OUTPUT_ROOM.true c.refused-then-room-lt-OUTPUT_ROOM.ensures

pub returns-then-second-last_of : goal.returns-then-second-last_of
returns-then-second-last_of c = past_second _ _ _ _ _ _ (port_told _ _ c.number_of-number.ensures c.check_port.ensures) c.in-Passed.is c.if-room-lt-OUTPUT_ROOM.false c.last_of.ensures c.if-second-last_of.true c.refused-then-second-last_of.ensures

pub seen_port-p-requires : goal.seen_port-p-requires
seen_port-p-requires c = passed_port _ _ c.check_port.ensures c.in-Passed.is

pub returns : goal.returns
returns c = judged _ _ _ _ _ _ (port_told _ _ c.number_of-number.ensures c.check_port.ensures) c.in-Passed.is c.if-room-lt-OUTPUT_ROOM.false c.last_of.ensures c.if-second-last_of.false (port_seen _ _ c.number_of-number.ensures c.seen_port-p.ensures) c.only_port.ensures c.ask_octets.ensures
