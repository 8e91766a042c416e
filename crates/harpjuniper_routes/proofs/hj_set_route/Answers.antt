-- The steps of the call, handed together by `set_told`.
use Rattle.adjust.specs.Settled.{new_record}
use Rattle.harpjuniper_routes.proofs.Told.{set_told}
use Rattle.harpjuniper_routes.proofs.hj_set_route.Goals as goal

pub returns : goal.returns
returns c =
    set_told c.args.routes.now c.args.place
    (new_record c.args.prefix c.args.mask c.args.port c.args.availability c.args.capabilities c.args.mission)
    c.args.board.now c.ordered-o.result c.same_query-q.result c.scan-s.result c.record_at-old.result c.chosen-x.result c.set_at.new.list
    c.answer-refusal.result c.ordered-o.ensures c.same_query-q.ensures c.scan-s.ensures (rw (← c.place_of.ensures) c.record_at-old.ensures) c.chosen-x.ensures
    (rw (← c.place_of-2.ensures) c.set_at.ensures) c.answer-refusal.ensures
