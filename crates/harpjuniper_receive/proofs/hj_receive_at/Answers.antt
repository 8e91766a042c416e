-- The steps of the call, handed together by `received`.
use Rattle.std.proofs.Common.{length}
use Rattle.harpjuniper_receive.proofs.Told.{follows, received}
use Rattle.harpjuniper_receive.proofs.hj_receive_at.Goals as goal

pub after-requires : goal.after-requires
after-requires c =
    follows c.args.board.now c.args.mission.now c.args.second c.args.octets.now (length c.args.output.now) (length c.args.routes.now) c.args.port
    c.before-a.result c.before-a.ensures

pub returns : goal.returns
returns c =
    received c.args.board.now c.args.mission.now c.args.routes.now c.args.port c.args.slot c.args.second c.args.octets.now c.args.output.now
    c.after.result c.after.new.mission c.after.new.output c.before-a.result c.query_of-q.result c.scan-s.result
    c.before-a.ensures c.query_of-q.ensures c.scan-s.ensures c.after.ensures
