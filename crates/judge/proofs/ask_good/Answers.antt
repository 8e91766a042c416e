-- `judge::ask_good` meets its contract. Assumes nothing.
use Rattle.state.specs.Seen.{seated}
use Rattle.state.specs.Layout.{decode_board, decode}
use mathlib.Core.Path.{sym, ◌∙◌}
use Rattle.checks.proofs.Laws.{passed_false, failed_true}
use Rattle.judge.proofs.Stages.{good_refused, good_unmarked, good_asked}
use Rattle.judge.proofs.ask_good.Goals as goal

pub returns-then-l-ne0 : goal.returns-then-l-ne0
returns-then-l-ne0 c = good_refused (seated (decode_board c.args.board.now) (decode c.args.mission.now)) (decode c.args.mission.now).number c.args.at c.args.h c.args.n c.args.x c.ask_aim-l.ensures c.if-l-ne0.true c.refused.ensures

pub returns-in_default : goal.returns-in_default
returns-in_default c = good_unmarked (seated (decode_board c.args.board.now) (decode c.args.mission.now)) (decode c.args.mission.now).number c.args.at c.args.h c.args.n c.args.x c.ask_aim-l.ensures c.if-l-ne0.false (failed_true _ (sym c.check_marked.ensures ∙ c.in_default.is)) c.refused-in_default.ensures

pub returns : goal.returns
returns c = good_asked (seated (decode_board c.args.board.now) (decode c.args.mission.now)) (decode c.args.mission.now).number c.args.at c.args.h c.args.n c.args.x c.ask_aim-l.ensures c.if-l-ne0.false (passed_false _ (sym c.check_marked.ensures ∙ c.in-Passed.is)) c.router_of-router.ensures c.flood_of-flood.ensures c.case_of.ensures c.destination_of.ensures c.number_of.ensures c.precedence_of.ensures
