-- `adjust::groups_and_paths::set_group` meets its contract. Assumes nothing.
use borrow.Author.Rules.{rules}
use mathlib.Core.Path.{◌≡◌, refl, ap, ◌∙◌}
use Rattle.checks.specs.Order.{number_in}
use Rattle.sets.specs.Limits.{group_places}
use Rattle.state.specs.Seen.{seated}
use Rattle.state.specs.Layout.{decode_board, decode}
use Rattle.refusals.specs.Lists.{group_refusals}
use Rattle.refusals.proofs.Places.{place_there}
use Rattle.adjust.proofs.Settled.{own_of, refused, taken, told_number, some_number}
use Rattle.adjust.proofs.groups_and_paths.set_group.Goals as goal

pub returns-in_err-group_refusal : goal.returns-in_err-group_refusal
returns-in_err-group_refusal c = let t = refused (own_of (decode c.args.mission.now)) _ _ _ _ (told_number (group_refusals (seated (decode_board c.args.board.now) (decode c.args.mission.now)) c.args.place c.args.address c.args.send c.args.subscribed) _ c.group_refusal.ensures) (some_number _ _ c.in_err-group_refusal.was) in
    let told : c.from_residual.result ≡ c.group_refusal.result = search rules in record { answer = ap number_in told ∙ t.0; left = t.1 }

pub put_group-requires : goal.put_group-requires
put_group-requires c = place_there _ group_places _ _ refl (told_number (group_refusals (seated (decode_board c.args.board.now) (decode c.args.mission.now)) c.args.place c.args.address c.args.send c.args.subscribed) _ c.group_refusal.ensures) (ap number_in c.in_ok-group_refusal.was)

pub returns : goal.returns
returns c = let t = taken (own_of (decode c.args.mission.now)) _ _ _ _ (told_number (group_refusals (seated (decode_board c.args.board.now) (decode c.args.mission.now)) c.args.place c.args.address c.args.send c.args.subscribed) _ c.group_refusal.ensures) _ (ap number_in c.in_ok-group_refusal.was) c.put_group.ensures in record { answer = t.0; left = t.1 }
