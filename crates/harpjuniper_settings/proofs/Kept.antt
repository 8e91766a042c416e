-- What a call leaves: the words that it called with as they are afterwards, or, where they are of another number, as they were. Over plain variables.
-- Assumes nothing.
use Rattle.std.proofs.Common.{◌≡◌, ◌∙◌, ap, ℕ, List, length}
use Rattle.state.specs.Seen.{Board, State}
use Rattle.state.specs.Layout.{board_words, decode_board, mission_words, decode}
use Rattle.lent_state.specs.View.{lent_board, lent, changed_board, changed, changed_both}
use Rattle.lent_state.proofs.Calls.{board_other_changed, other_changed, no_mission_changed, board_held_changed, held_changed, both_held_changed}

pub board_kept : (w v : List ℕ) → (length w ≡ board_words → ⊥) → v ≡ w → (f : Board → Board) → lent_board v ≡ changed_board f w
board_kept w v wrong same f = ap lent_board same ∙ board_other_changed w wrong f

pub kept : (w v : List ℕ) → (length w ≡ mission_words → ⊥) → v ≡ w → (f : State → State) → lent v ≡ changed f w
kept w v wrong same f = ap lent same ∙ other_changed w wrong f

pub both_kept : (b w v : List ℕ) → (length w ≡ mission_words → ⊥) → v ≡ w → (f : Board → State → State) → lent v ≡ changed_both f b w
both_kept b w v wrong same f = ap lent same ∙ no_mission_changed b w wrong f

pub board_left : (w u v : List ℕ) → length w ≡ board_words → (f : Board → Board) → length v ≡ board_words → v ≡ u → decode_board u ≡ f (decode_board w)
    → lent_board v ≡ changed_board f w
board_left w u v right f long same left = board_held_changed w right f v long (ap decode_board same ∙ left)

pub left_so : (w u v : List ℕ) → length w ≡ mission_words → (f : State → State) → length v ≡ mission_words → v ≡ u → decode u ≡ f (decode w)
    → lent v ≡ changed f w
left_so w u v right f long same left = held_changed w right f v long (ap decode same ∙ left)

pub both_left : (b w u v : List ℕ) → length b ≡ board_words → length w ≡ mission_words → (f : Board → State → State) → length v ≡ mission_words → v ≡ u
    → decode u ≡ f (decode_board b) (decode w) → lent v ≡ changed_both f b w
both_left b w u v rightBoard right f long same left = both_held_changed b w rightBoard right f v long (ap decode same ∙ left)
