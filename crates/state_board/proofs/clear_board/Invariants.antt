-- `state_board::clear_board` leaves a fresh board: after i turns the first i words are fresh. Assumes nothing.
use Prim.Native.Nat.{◌≤◌}
use mathlib.Core.Path.{◌≡◌}
use Rattle.words.proofs.Fill.{fill}
use Rattle.state.specs.Layout.{board_words, fresh_board_words}
use Rattle.state_board.proofs.clear_board.Given as goal

abbrev pub invariant-loop-i : goal.invariant-loop-i
invariant-loop-i l = (l.i ≤ board_words) × (l.board ≡ fill l.initial.board fresh_board_words l.i)
