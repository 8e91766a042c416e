-- `harpjuniper_reads::hj_last_second` meets its contract. Assumes nothing.
use Rattle.std.proofs.Common.{◌∙◌, rules}
use Rattle.lent_state.proofs.Calls.{held_told, other_told}
use Rattle.harpjuniper_reads.proofs.hj_last_second.Goals as goal

pub returns-in_default : goal.returns-in_default
returns-in_default c = c.refusal_number.ensures ∙ other_told _ (search rules) _ _

pub returns : goal.returns
returns c = held_told c.args.mission.now (search rules) _ _ (rw (← c.in-Ok.ensures.1.same) c.last_of.ensures)
