-- Words that are all 0 are a fresh board; so, but for the first, which is its number, are those of a fresh mission. Assumes nothing.
use native.Mathlib.Nat.{le_of_suc-le-suc}
use Prim.Native.Nat.{ℕ, zero, suc, ◌<◌}
use mathlib.Core.Path.{◌≡◌, refl, ap}
use lib.ListN.{length, get_or, set, length-replicate, get_or-replicate}
use Rattle.queue.specs.Queue.{fresh as fresh_queue}
use Rattle.words.specs.Cut.{pieces}
use Rattle.state.specs.Seen.{fresh_board, fresh_mission, fresh_memory, fresh_state}
use Rattle.state.specs.Layout.{board_words, board_of, decode_board, fresh_board_words, mission_words, state_of, decode, fresh_words, queue_of}

-- ---- the board
pub fresh_board_lem : decode_board fresh_board_words ≡ fresh_board
unfolding decode_board board_of fresh_board_words fresh_board pieces
fresh_board_lem = refl

pub fresh_board_length : length fresh_board_words ≡ board_words
unfolding fresh_board_words
fresh_board_length = length-replicate {A = ℕ} board_words 0

pub fresh_board_word : (i : ℕ) → i < board_words → get_or fresh_board_words i 0 ≡ 0
unfolding fresh_board_words
fresh_board_word i h = get_or-replicate {A = ℕ} board_words i 0 0 h

-- ---- a mission's state
module _ (n : ℕ) where
  pub fresh : decode (fresh_words n) ≡ fresh_state n
  unfolding decode state_of fresh_words fresh_state fresh_mission fresh_memory fresh_queue pieces queue_of
  fresh = refl

  pub fresh_length : length (fresh_words n) ≡ mission_words
  unfolding fresh_words
  fresh_length = ap suc (length-replicate {A = ℕ} 731 0)

  -- words that are all 0, and then the number
  pub fresh_numbered : set (fresh_words 0) 0 n ≡ fresh_words n
  unfolding fresh_words
  fresh_numbered = refl

pub fresh_zero : (i : ℕ) → i < mission_words → get_or (fresh_words 0) i 0 ≡ 0
unfolding fresh_words
fresh_zero zero h = refl
fresh_zero (suc i) h = get_or-replicate {A = ℕ} 731 i 0 0 (le_of_suc-le-suc h)
