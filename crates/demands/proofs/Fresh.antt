-- The beginning of a trace: where hj_fresh_board and hj_fresh_mission answered 0, the words hold a fresh board and a fresh mission. Assumes nothing.
use Prim.Native.Nat.{ℕ}
use mathlib.Core.Path.{◌≡◌, refl, sym, ap, ◌∙◌}
use mathlib.Core.Bool.{Bool}
use mathlib.Core.List.{List}
use lib.ListN.{length}
use borrow.Author.Tests.{eq-eqb}
use Rattle.checks.specs.Order.{pick, first_of}
use Rattle.checks.proofs.Bools.{true_false}
use Rattle.state.specs.Seen.{Board, State, fresh_board, fresh_state}
use Rattle.state.specs.Layout.{board_words, mission_words}
use Rattle.refusals.specs.Lists.{mission_checks}
use Rattle.adjust.specs.Settled.{settled_fresh}
use Rattle.lent_state.specs.View.{Lent, Held, Other, lent_board, lent, by_lent, on_lent, told_board, changed_board, told, changed}
use Rattle.lent_state.proofs.Calls.{board_held_told, board_other_told, board_other_changed, held_told, other_told, other_changed}
use Rattle.lent_state.proofs.Same.{board_injective, lent_injective}
use Rattle.contracts.specs.Promised.{Result, hj_fresh_board, hj_fresh_mission}
use Rattle.contracts.specs.Stated.{Says}
use Rattle.contracts.proofs.Rows.{says_row}
use Rattle.demands.specs.Trace.{Customer, first, second, number_of}

-- what is told of a view: 0 only where it is held, for 21 is told of other words
zero_told : {S : Type 0} (f : S → ℕ) (l : Lent S) → by_lent f 21 l ≡ 0 → (s : S) × ((l ≡ Held s) × (f s ≡ 0))
zero_told f (Held s) e = (s, (refl, e))
zero_told f (Other w) e = true_false cc

-- ---- the board
abbrev none : Board → ℕ
none b = 0

abbrev anew : Board → Board
anew b = fresh_board

module _ (w : List ℕ) (x : Result) (says : Says (hj_fresh_board w) x) where
  board_view : told_board none 21 w ≡ 0 → changed_board anew w ≡ Held fresh_board
  unfolding told_board changed_board
  board_view e = let held = zero_told none (lent_board w) e in ap (on_lent anew) held.1.0

  pub fresh_board_holds : x.answer ≡ 0 → lent_board x.left.board ≡ Held fresh_board
  fresh_board_holds e = let row = says_row (hj_fresh_board w) x says in row.board ∙ board_view (sym row.answer ∙ e)

  -- 0 wherever the words are as many as a board has, whatever they are; else 21, and they are left
  pub fresh_board_answers : length w ≡ board_words → x.answer ≡ 0
  fresh_board_answers right = (says_row (hj_fresh_board w) x says).answer ∙ sym (board_held_told w right none 21 refl)

  pub fresh_board_refused : (length w ≡ board_words → ⊥) → (x.answer ≡ 21) × (x.left.board ≡ w)
  fresh_board_refused wrong =
      let row = says_row (hj_fresh_board w) x says in (
        row.answer ∙ sym (board_other_told w wrong none 21),
        board_injective x.left.board w (row.board ∙ sym (board_other_changed w wrong anew)),
      )

-- ---- a mission
module _ (w : List ℕ) (n : ℕ) (x : Result) (says : Says (hj_fresh_mission w n) x) where
  abbrev refusal : State → ℕ
  refusal s = first_of (mission_checks n)

  abbrev left : State → State
  left s = settled_fresh s n

  mission_view : told refusal 21 w ≡ 0 → changed left w ≡ Held (fresh_state n)
  unfolding told changed
  mission_view e =
      let held = zero_told refusal (lent w) e in
      ap (on_lent left) held.1.0 ∙ ap (λ (t : Bool). Held (pick t (fresh_state n) held.0)) (eq-eqb (first_of (mission_checks n)) 0 held.1.1)

  pub fresh_mission_holds : x.answer ≡ 0 → lent x.left.mission ≡ Held (fresh_state n)
  fresh_mission_holds e = let row = says_row (hj_fresh_mission w n) x says in row.mission ∙ mission_view (sym row.answer ∙ e)

  -- what its number makes it, wherever the words are as many as a mission has; else 21, and they are left
  pub fresh_mission_answers : length w ≡ mission_words → x.answer ≡ first_of (mission_checks n)
  fresh_mission_answers right = (says_row (hj_fresh_mission w n) x says).answer ∙ sym (held_told w right refusal 21 refl)

  pub fresh_mission_refused : (length w ≡ mission_words → ⊥) → (x.answer ≡ 21) × (x.left.mission ≡ w)
  fresh_mission_refused wrong =
      let row = says_row (hj_fresh_mission w n) x says in (
        row.answer ∙ sym (other_told w wrong refusal 21),
        lent_injective x.left.mission w (row.mission ∙ sym (other_changed w wrong left)),
      )

-- both missions' numbers are taken
pub number_taken : (who : Customer) → first_of (mission_checks (number_of who)) ≡ 0
unfolding first_of
number_taken first = refl
number_taken second = refl
