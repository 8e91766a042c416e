-- `harpjuniper_settings::hj_set_lifetime` meets its contract. Assumes nothing.
use Rattle.std.proofs.Common.{◌≡◌, refl, length, rules}
use Rattle.state.specs.Layout.{board_words}
use Rattle.lent_state.proofs.Calls.{board_held_told, board_other_told}
use Rattle.harpjuniper_settings.proofs.Kept.{board_kept, board_left}
use Rattle.harpjuniper_settings.proofs.hj_set_lifetime.Goals as goal

pub returns-in_default-clause-value : goal.returns-in_default-clause-value
returns-in_default-clause-value c = board_other_told _ (search rules) _ _

pub returns-in_default-clause-board_after : goal.returns-in_default-clause-board_after
returns-in_default-clause-board_after c = board_kept _ _ (search rules) (search rules) _

pub returns : goal.returns
returns c = let same : c.in-Some.board.now ≡ c.args.board.now = search rules in
    let right : length c.args.board.now ≡ board_words = search rules in
    record {
      value = board_held_told c.args.board.now right _ _ (refl);
      board_after = board_left c.args.board.now c.put_lifetime.new.board _ right _ (search rules) (search rules) (rw (← same) c.put_lifetime.ensures);
    }
