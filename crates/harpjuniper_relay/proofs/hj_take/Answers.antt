-- `harpjuniper_relay::hj_take` meets its contract. Assumes nothing.
use Rattle.std.proofs.Common.{◌≡◌, ◌∙◌, ap, rules}
use Rattle.lent_state.proofs.Calls.{both_held_told, no_board_told, no_board_changed, no_mission_told}
use Rattle.answers.specs.Answers.{taking_number}
use Rattle.harpjuniper_relay.proofs.Kept.{both_kept, both_left}
use Rattle.harpjuniper_relay.proofs.hj_take.Goals as goal

pub returns-in_default-clause-value : goal.returns-in_default-clause-value
returns-in_default-clause-value c = c.refusal_number.ensures ∙ no_board_told _ _ (search rules) _ _

pub returns-in_default-clause-mission_after : goal.returns-in_default-clause-mission_after
returns-in_default-clause-mission_after c = no_board_changed _ _ (search rules) _

pub returns-in_default-as_mut_array-clause-value : goal.returns-in_default-as_mut_array-clause-value
returns-in_default-as_mut_array-clause-value c = c.refusal_number-in_default-as_mut_array.ensures ∙ no_mission_told _ _ (search rules) _ _

pub returns-in_default-as_mut_array-clause-mission_after : goal.returns-in_default-as_mut_array-clause-mission_after
returns-in_default-as_mut_array-clause-mission_after c = both_kept _ _ _ (search rules) (search rules) _

pub returns-clause-value : goal.returns-clause-value
returns-clause-value c = let same_board : c.in-Ok.board.now ≡ c.args.board.now = search rules in
    let same : c.in-Some.mission.now ≡ c.args.mission.now = search rules in
    both_held_told c.args.board.now c.args.mission.now (search rules) (search rules) _ _ (rw (← same_board, ← same) (c.taking_number.ensures ∙ ap taking_number (c.numbered.ensures ∙ c.take.ensures.value)))

pub returns-clause-mission_after : goal.returns-clause-mission_after
returns-clause-mission_after c = let same_board : c.in-Ok.board.now ≡ c.args.board.now = search rules in
    let same : c.in-Some.mission.now ≡ c.args.mission.now = search rules in
    both_left c.args.board.now c.args.mission.now c.take.new.mission _ (search rules) (search rules) _ (search rules) (search rules)
    (rw (← same_board, ← same) c.take.ensures.mission_after)
