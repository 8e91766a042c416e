-- What a call leaves of a mission: the words that it called with as they are afterwards, or, where they are of another number, as they were. Over plain
-- variables. Assumes nothing.
use Rattle.std.proofs.Common.{◌≡◌, ◌∙◌, ap, ℕ, List, length}
use Rattle.state.specs.Seen.{Board, State}
use Rattle.state.specs.Layout.{board_words, decode_board, mission_words, decode}
use Rattle.lent_state.specs.View.{lent, changed_both}
use Rattle.lent_state.proofs.Calls.{no_mission_changed, both_held_changed}

pub both_kept : (b w v : List ℕ) → (length w ≡ mission_words → ⊥) → v ≡ w → (f : Board → State → State) → lent v ≡ changed_both f b w
both_kept b w v wrong same f = ap lent same ∙ no_mission_changed b w wrong f

pub both_left : (b w u v : List ℕ) → length b ≡ board_words → length w ≡ mission_words → (f : Board → State → State) → length v ≡ mission_words → v ≡ u
    → decode u ≡ f (decode_board b) (decode w) → lent v ≡ changed_both f b w
both_left b w u v rightBoard right f long same left = both_held_changed b w rightBoard right f v long (ap decode same ∙ left)
