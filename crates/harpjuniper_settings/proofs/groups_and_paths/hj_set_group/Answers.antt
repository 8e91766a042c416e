-- `harpjuniper_settings::hj_set_group` meets its contract. Assumes nothing.
use Rattle.std.proofs.Common.{◌≡◌, ◌∙◌, length, rules}
use Rattle.state.specs.Layout.{board_words, mission_words}
use Rattle.lent_state.proofs.Calls.{both_held_told, no_board_told, no_board_changed, no_mission_told}
use Rattle.harpjuniper_settings.proofs.Kept.{both_kept, both_left}
use Rattle.harpjuniper_settings.proofs.groups_and_paths.hj_set_group.Goals as goal

pub returns-in_default-clause-value : goal.returns-in_default-clause-value
returns-in_default-clause-value c = no_board_told _ _ (search rules) _ _

pub returns-in_default-clause-mission_after : goal.returns-in_default-clause-mission_after
returns-in_default-clause-mission_after c = no_board_changed _ _ (search rules) _

pub returns-in_default-as_mut_array-clause-value : goal.returns-in_default-as_mut_array-clause-value
returns-in_default-as_mut_array-clause-value c = no_mission_told _ _ (search rules) _ _

pub returns-in_default-as_mut_array-clause-mission_after : goal.returns-in_default-as_mut_array-clause-mission_after
returns-in_default-as_mut_array-clause-mission_after c = both_kept _ _ _ (search rules) (search rules) _

-- the words are as many as they should be, as they were lent and as they are left
module _ (c : goal.After-number_in) where
  same_board : c.in-Ok.board.now ≡ c.args.board.now
  same_board = search rules

  same : c.in-Some.mission.now ≡ c.args.mission.now
  same = search rules

  right_board : length c.args.board.now ≡ board_words
  right_board = search rules

  right : length c.args.mission.now ≡ mission_words
  right = search rules

  long : length c.set_group.new.mission ≡ mission_words
  long = search rules

pub returns : goal.returns
returns c = record {
  value = both_held_told c.args.board.now c.args.mission.now (right_board c) (right c) _ _ (rw (← same_board c, ← same c) (c.number_in.ensures ∙ c.set_group.ensures.answer));
  mission_after = both_left c.args.board.now c.args.mission.now c.set_group.new.mission _ (right_board c) (right c) _ (long c) (search rules)
      (rw (← same_board c, ← same c) c.set_group.ensures.left);
}
