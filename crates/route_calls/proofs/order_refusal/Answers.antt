-- `route_calls::order_refusal` meets its contract. Assumes nothing.
use Rattle.std.proofs.Common.{rules}
use mathlib.Core.Path.{◌≡◌, ◌∙◌}
use Rattle.checks.specs.Order.{first_of}
use Rattle.listing.specs.Listed.{refusals_of, checks_of}
use Rattle.adjust.proofs.Settled.{told_number}
use Rattle.route_calls.proofs.Cases.{order_no_board, order_many, order-beyond, order-judged}
use Rattle.route_calls.proofs.order_refusal.Goals as goal

pub returns-in_default : goal.returns-in_default
returns-in_default c = order_no_board _ _ _ _ _ (search rules)

pub returns-then-count-gt-ROUTES : goal.returns-then-count-gt-ROUTES
returns-then-count-gt-ROUTES c = order_many _ _ _ _ _ (search rules) c.if-count-gt-ROUTES.true

pub returns-in_default-check_place : goal.returns-in_default-check_place
returns-in_default-check_place c = order-beyond _ _ _ _ _ (search rules) c.if-count-gt-ROUTES.false c.check_place.ensures c.in_default-check_place.is

pub returns : goal.returns
returns c =
    let told : c.number_in.result ≡ first_of (checks_of c.args.x c.all_ready.result c.args.own) =
    c.number_in.ensures ∙ told_number (refusals_of c.args.x c.all_ready.result c.args.own) _ c.record_refusal.ensures in
    order-judged _ _ _ _ _ (search rules) c.if-count-gt-ROUTES.false c.check_place.ensures c.in-Passed.is
    (rw (← c.in-Ok.ensures.1.same) c.all_ready.ensures) told
