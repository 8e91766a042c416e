-- What is required holds of both halves of a turn; its steps are handed together by `heard`.
use Rattle.harpjuniper_batch.proofs.Steps.{heard}
use Rattle.harpjuniper_batch.proofs.hear_item.Goals as goal

pub ask-a-requires : goal.ask-a-requires
ask-a-requires c = c.requires.0

pub finish-requires : goal.finish-requires
finish-requires c = c.requires.1 c.ask-a.result c.ask-a.ensures

pub returns : goal.returns
returns c =
    heard c.args.board.now c.args.mission.now c.args.routes.now c.args.lengths.now c.args.ports.now c.args.slots.now c.args.seconds.now
    c.args.octets.now c.args.answers.now c.args.output.now c.args.i c.args.at c.ask-a.result c.ask-a.ensures c.query_of-q.result
    c.query_of-q.ensures c.scan-s.result c.scan-s.ensures c.finish.result c.finish.new.mission c.finish.new.answers c.finish.new.output
    c.finish.ensures
