-- The steps of the call, handed together by `search_told_lem`.
use Rattle.harpjuniper_routes.proofs.Told.{search_told_lem}
use Rattle.harpjuniper_routes.proofs.hj_search.Goals as goal

pub returns : goal.returns
returns c =
    search_told_lem c.args.routes.now c.args.address c.args.board.now c.args.mission.now c.asked-q.result c.scan-s.result c.search_number.result
    c.asked-q.ensures c.scan-s.ensures c.search_number.ensures
