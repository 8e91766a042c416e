-- `harpjuniper_settings::hj_board_words` meets its contract. Assumes nothing.
use Rattle.std.proofs.Common.{refl}
use Rattle.harpjuniper_settings.proofs.hj_board_words.Goals as goal

pub returns : goal.returns
returns c = refl
