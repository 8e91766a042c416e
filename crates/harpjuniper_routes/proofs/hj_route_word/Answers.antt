-- The steps of the call, handed together by `word_told`.
use Rattle.harpjuniper_routes.proofs.Told.{word_told}
use Rattle.harpjuniper_routes.proofs.hj_route_word.Goals as goal

pub returns : goal.returns
returns c =
    word_told c.args.routes.now c.args.place c.args.word c.index-at.result c.record_at-x.result c.record_word.result
    c.index-at.ensures c.record_at-x.ensures c.record_word.ensures
