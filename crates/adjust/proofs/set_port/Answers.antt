-- `adjust::set_port` meets its contract. Assumes nothing.
use borrow.Author.Rules.{rules}
use mathlib.Core.Path.{◌≡◌, refl, ap, ◌∙◌}
use Rattle.checks.specs.Order.{number_in}
use Rattle.sets.specs.Limits.{port_count}
use Rattle.state.specs.Layout.{decode_board}
use Rattle.refusals.specs.Lists.{port_refusals}
use Rattle.refusals.proofs.Places.{place_there}
use Rattle.adjust.proofs.Settled.{whole, refused, taken, told_number, some_number}
use Rattle.adjust.proofs.set_port.Goals as goal

pub returns-in_err-port_refusal : goal.returns-in_err-port_refusal
returns-in_err-port_refusal c = let t = refused whole _ _ _ _ (told_number (port_refusals (decode_board c.args.board.now) c.args.port c.args.address c.args.mask c.args.mtu c.args.mission) _ c.port_refusal.ensures) (some_number _ _ c.in_err-port_refusal.was) in
    let told : c.from_residual.result ≡ c.port_refusal.result = search rules in record { answer = ap number_in told ∙ t.0; left = t.1 }

pub put_owned-requires : goal.put_owned-requires
put_owned-requires c = place_there _ port_count _ _ refl (told_number (port_refusals (decode_board c.args.board.now) c.args.port c.args.address c.args.mask c.args.mtu c.args.mission) _ c.port_refusal.ensures) (ap number_in c.in_ok-port_refusal.was)

pub returns : goal.returns
returns c = let t = taken whole _ _ _ _ (told_number (port_refusals (decode_board c.args.board.now) c.args.port c.args.address c.args.mask c.args.mtu c.args.mission) _ c.port_refusal.ensures) _ (ap number_in c.in_ok-port_refusal.was) c.put_owned.ensures in record { answer = t.0; left = t.1 }
