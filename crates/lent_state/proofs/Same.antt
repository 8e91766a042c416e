-- Two lists of words with the same view are the same list: what a call is promised to leave is one list of words, and what it answers is one
-- number. Assumes nothing.
use Prim.Native.Nat.{ℕ}
use mathlib.Core.Path.{◌≡◌, refl, sym, ◌∙◌}
use mathlib.Core.Bool.{Bool, true, false}
use mathlib.Core.List.{List}
use lib.ListN.{length}
use lib.Dec.{eqb}
use borrow.Author.Tests.{eqb-true}
use Rattle.checks.specs.Order.{pick}
use Rattle.checks.proofs.Bools.{true_false}
use Rattle.state.specs.Seen.{Board, State}
use Rattle.state.specs.Layout.{board_words, decode_board, mission_words, decode}
use Rattle.state.proofs.Words.{decode_board_injective, decode_injective}
use Rattle.lent_state.specs.View.{Lent, Held, Other, lent_board, lent}

-- ---- any words that are read where they are of a number
module _ {S : Type 0} where
  held_same : (a b : S) → Held a ≡ Held b → a ≡ b
  held_same a b h = cc

  other_same : (v w : List ℕ) → ◌≡◌ {A = Lent S} (Other v) (Other w) → v ≡ w
  other_same v w h = cc

module _ {S : Type 0} (number : ℕ) (read : List ℕ → S) where
  same_case : ((v w : List ℕ) → length v ≡ number → length w ≡ number → read v ≡ read w → v ≡ w) → (t u : Bool) (v w : List ℕ)
      → (t ≡ true → length v ≡ number) → (u ≡ true → length w ≡ number)
      → pick t (Held (read v)) (Other v) ≡ pick u (Held (read w)) (Other w) → v ≡ w
  same_case whole true true v w a b h = whole v w (a refl) (b refl) (held_same (read v) (read w) h)
  same_case whole true false v w a b h = true_false cc
  same_case whole false true v w a b h = true_false cc
  same_case whole false false v w a b h = other_same v w h

  same_view : ((v w : List ℕ) → length v ≡ number → length w ≡ number → read v ≡ read w → v ≡ w) → (v w : List ℕ)
      → pick (eqb (length v) number) (Held (read v)) (Other v) ≡ pick (eqb (length w) number) (Held (read w)) (Other w) → v ≡ w
  same_view whole v w h =
      same_case whole (eqb (length v) number) (eqb (length w) number) v w (eqb-true (length v) number) (eqb-true (length w) number) h

-- ---- the board
pub board_injective : (v w : List ℕ) → lent_board v ≡ lent_board w → v ≡ w
unfolding lent_board
board_injective v w h = same_view board_words decode_board decode_board_injective v w h

-- Two results that a promise allows are equal: the answers, which are equal to one definition, and the words left, which have one view.
pub one_board : {A : Type 0} (answer : A) (left : Lent Board) {x y : A} (v w : List ℕ)
    → x ≡ answer → y ≡ answer → lent_board v ≡ left → lent_board w ≡ left → (x ≡ y) × (v ≡ w)
one_board answer left v w a b c d = (a ∙ sym b, board_injective v w (c ∙ sym d))

-- ---- a mission's state
pub lent_injective : (v w : List ℕ) → lent v ≡ lent w → v ≡ w
unfolding lent
lent_injective v w h = same_view mission_words decode decode_injective v w h

pub one_result : {A : Type 0} (answer : A) (left : Lent State) {x y : A} (v w : List ℕ)
    → x ≡ answer → y ≡ answer → lent v ≡ left → lent w ≡ left → (x ≡ y) × (v ≡ w)
one_result answer left v w a b c d = (a ∙ sym b, lent_injective v w (c ∙ sym d))
