-- `harpjuniper_settings::hj_set_echo_drop` meets its contract. Assumes nothing.
use Rattle.std.proofs.Common.{◌≡◌, ◌∙◌, length, rules}
use Rattle.state.specs.Layout.{board_words}
use Rattle.lent_state.proofs.Calls.{board_held_told, board_other_told}
use Rattle.harpjuniper_settings.proofs.Kept.{board_kept, board_left}
use Rattle.harpjuniper_settings.proofs.hj_set_echo_drop.Goals as goal

pub returns-in_default-clause-value : goal.returns-in_default-clause-value
returns-in_default-clause-value c = board_other_told _ (search rules) _ _

pub returns-in_default-clause-board_after : goal.returns-in_default-clause-board_after
returns-in_default-clause-board_after c = board_kept _ _ (search rules) (search rules) _

-- the words are as many as they should be, as they were lent and as they are left
module _ (c : goal.After-number_in) where
  same : c.in-Some.board.now ≡ c.args.board.now
  same = search rules

  right : length c.args.board.now ≡ board_words
  right = search rules

  long : length c.set_drop.new.board ≡ board_words
  long = search rules

pub returns : goal.returns
returns c = record {
  value = board_held_told c.args.board.now (right c) _ _ (c.number_in.ensures ∙ c.set_drop.ensures.answer);
  board_after = board_left c.args.board.now c.set_drop.new.board _ (right c) _ (long c) (search rules) (rw (← same c) c.set_drop.ensures.left);
}
