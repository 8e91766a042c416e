-- `harpjuniper_reads::hj_get_router` meets its contract. Assumes nothing.
use Rattle.std.proofs.Common.{◌∙◌, rules}
use Rattle.lent_state.proofs.Calls.{board_held_told, board_other_told}
use Rattle.harpjuniper_reads.proofs.hj_get_router.Goals as goal

pub returns-in_default : goal.returns-in_default
returns-in_default c = c.refusal_number.ensures ∙ board_other_told _ (search rules) _ _

pub returns : goal.returns
returns c = board_held_told c.args.board.now (search rules) _ _ (rw (← c.in-Ok.ensures.1.same) c.router_of.ensures)
