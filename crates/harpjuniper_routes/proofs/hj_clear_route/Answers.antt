-- The steps of the call, handed together by `clear_told`.
use Rattle.harpjuniper_routes.proofs.Told.{clear_told}
use Rattle.harpjuniper_routes.proofs.hj_clear_route.Goals as goal

pub returns : goal.returns
returns c =
    clear_told c.args.routes.now c.args.place c.clearing-e.result c.record_at-old.result c.cleared-x.result c.set_at.new.list
    c.clearing-e.ensures c.record_at-old.ensures c.cleared-x.ensures c.set_at.ensures
