-- `adjust::groups_and_paths::set_path` meets its contract. Assumes nothing.
use borrow.Author.Rules.{rules}
use mathlib.Core.Path.{◌≡◌, refl, ap, ◌∙◌}
use Rattle.checks.specs.Order.{number_in}
use Rattle.sets.specs.Limits.{path_places}
use Rattle.state.specs.Seen.{seated}
use Rattle.state.specs.Layout.{decode_board, decode}
use Rattle.refusals.specs.Lists.{path_refusals}
use Rattle.refusals.proofs.Places.{place_there}
use Rattle.adjust.proofs.Settled.{own_of, refused, taken, told_number, some_number}
use Rattle.adjust.proofs.groups_and_paths.set_path.Goals as goal

pub returns-in_err-path_refusal : goal.returns-in_err-path_refusal
returns-in_err-path_refusal c = let t = refused (own_of (decode c.args.mission.now)) _ _ _ _ (told_number (path_refusals (seated (decode_board c.args.board.now) (decode c.args.mission.now)) c.args.place c.args.path c.args.send c.args.here) _ c.path_refusal.ensures) (some_number _ _ c.in_err-path_refusal.was) in
    let told : c.from_residual.result ≡ c.path_refusal.result = search rules in record { answer = ap number_in told ∙ t.0; left = t.1 }

pub put_path-requires : goal.put_path-requires
put_path-requires c = place_there _ path_places _ _ refl (told_number (path_refusals (seated (decode_board c.args.board.now) (decode c.args.mission.now)) c.args.place c.args.path c.args.send c.args.here) _ c.path_refusal.ensures) (ap number_in c.in_ok-path_refusal.was)

pub returns : goal.returns
returns c = let t = taken (own_of (decode c.args.mission.now)) _ _ _ _ (told_number (path_refusals (seated (decode_board c.args.board.now) (decode c.args.mission.now)) c.args.place c.args.path c.args.send c.args.here) _ c.path_refusal.ensures) _ (ap number_in c.in_ok-path_refusal.was) c.put_path.ensures in record { answer = t.0; left = t.1 }
