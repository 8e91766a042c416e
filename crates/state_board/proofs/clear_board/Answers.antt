-- `state_board::clear_board` leaves a fresh board: after i turns the first i words are fresh. Assumes nothing.
use native.Mathlib.Omega.{arith}
use mathlib.Core.Path.{refl, sym, ap, ◌∙◌}
use Rattle.words.proofs.Fill.{fill_turn, fill_end}
use Rattle.state.specs.Layout.{decode_board, fresh_board_words}
use Rattle.state.proofs.Fresh.{fresh_board_lem, fresh_board_length, fresh_board_word}
use borrow.Author.Rules.{rules}
use Rattle.state_board.proofs.clear_board.Goals as goal
use Rattle.state_board.proofs.clear_board.Goals.{At-loop-i}

pub loop-i-init : goal.loop-i-init
loop-i-init c = (search rules, refl)

pub loop-i-preserved : goal.loop-i-preserved
loop-i-preserved c = (
  search rules,
  fill_turn c.args.board.now fresh_board_words c.loop-i.board c.loop-i.i 0 0
      (omega (arith, c.told-board)) (omega (arith, fresh_board_length))
      (sym (fresh_board_word c.loop-i.i c.loop-i-test.true)) c.loop-i.invariant.1,
)

pub returns : goal.returns
returns c = ap decode_board
    (fill_end c.args.board.now fresh_board_words c.loop-i.board c.loop-i.i
    (omega (arith, c.told-board)) (omega (arith, fresh_board_length)) c.loop-i.invariant.1)
    ∙ fresh_board_lem
