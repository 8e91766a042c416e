-- `harpjuniper_settings::hj_clear_group` meets its contract. Assumes nothing.
use Rattle.std.proofs.Common.{◌≡◌, ◌∙◌, length, rules}
use Rattle.state.specs.Layout.{mission_words}
use Rattle.lent_state.proofs.Calls.{held_told, other_told}
use Rattle.harpjuniper_settings.proofs.Kept.{kept, left_so}
use Rattle.harpjuniper_settings.proofs.groups_and_paths.hj_clear_group.Goals as goal

pub returns-in_default-clause-value : goal.returns-in_default-clause-value
returns-in_default-clause-value c = other_told _ (search rules) _ _

pub returns-in_default-clause-mission_after : goal.returns-in_default-clause-mission_after
returns-in_default-clause-mission_after c = kept _ _ (search rules) (search rules) _

-- the words are as many as they should be, as they were lent and as they are left
module _ (c : goal.After-number_in) where
  same : c.in-Some.mission.now ≡ c.args.mission.now
  same = search rules

  right : length c.args.mission.now ≡ mission_words
  right = search rules

  long : length c.clear_group.new.mission ≡ mission_words
  long = search rules

pub returns : goal.returns
returns c = record {
  value = held_told c.args.mission.now (right c) _ _ (c.number_in.ensures ∙ c.clear_group.ensures.answer);
  mission_after = left_so c.args.mission.now c.clear_group.new.mission _ (right c) _ (long c) (search rules) (rw (← same c) c.clear_group.ensures.left);
}
