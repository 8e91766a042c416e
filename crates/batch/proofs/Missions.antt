-- What an item leaves for the next: the words hold the same mission, so that the names of its ports serve on. Assumes nothing.
use Prim.Native.Nat.{ℕ}
use mathlib.Core.Path.{◌≡◌, refl, sym, ap, subst, ◌∙◌}
use mathlib.Core.Bool.{Bool, true, false}
use mathlib.Core.List.{List}
use lib.Dec.{eqb}
use lib.ListN.{length}
use borrow.Author.Tests.{eqb-true, eqb-false}
use Rattle.checks.specs.Order.{pick}
use Rattle.checks.proofs.Bools.{true_false}
use Rattle.state.specs.Seen.{Board, State, ports_seen}
use Rattle.state.specs.Layout.{mission_words, decode_board, decode}
use Rattle.lent_state.specs.View.{Lent, Held, Other, by_lent, on_lent, lent_board, lent, told_board, changed, changed_both}
use Rattle.survey.specs.Names.{NamesFor}
use Rattle.survey.specs.declared.names.Names.{Names}
use Rattle.relay.specs.Split.{Naming}

-- ---- words that hold the same mission: the one are of the right number where the other are, and no call changes a mission's number
pub record SameMission (w v : List ℕ) : Type 0 where
  pub right : length v ≡ mission_words → length w ≡ mission_words
  pub number : (decode v).number ≡ (decode w).number

-- words that hold something, and others
is_held : Lent State → Bool
is_held = by_lent (λ (y : State). true) false

held_number : ℕ → Lent State → ℕ
held_number d = by_lent (λ (y : State). y.number) d

module _ (w v : List ℕ) (g : State → State) (same : (y : State) → (g y).number ≡ y.number) where
  by_lengths : (t u : Bool) → eqb (length w) mission_words ≡ t → eqb (length v) mission_words ≡ u
      → pick u (Held (decode v)) (Other v) ≡ on_lent g (pick t (Held (decode w)) (Other w)) → SameMission w v
  unfolding is_held held_number
  by_lengths true true e f is =
      record { right = λ h. eqb-true (length w) mission_words e; number = ap (held_number 0) is ∙ same (decode w) }
  by_lengths true false e f is = true_false (sym (ap is_held is))
  by_lengths false true e f is = true_false (ap is_held is)
  by_lengths false false e f is =
      let all : v ≡ w = cc in
      record { right = λ h. absurd (eqb-false (length v) mission_words f h); number = ap (λ (l : List ℕ). (decode l).number) all }

  pub same_mission : lent v ≡ on_lent g (lent w) → SameMission w v
  unfolding lent
  same_mission is = by_lengths (eqb (length w) mission_words) (eqb (length v) mission_words) refl refl is

-- so whatever the board's words are
pub both_same : (b w v : List ℕ) (f : Board → State → State) → ((x : Board) (y : State) → (f x y).number ≡ y.number) → lent v ≡ changed_both f b w
    → SameMission w v
unfolding told_board changed
both_same b w v f same is = by_board (lent_board b) is
  where
    unchanged : (l : Lent State) → l ≡ on_lent (λ (y : State). y) l
    unchanged (Held y) = refl
    unchanged (Other o) = refl

    by_board : (l : Lent Board) → lent v ≡ by_lent (λ (x : Board). on_lent (f x) (lent w)) (lent w) l → SameMission w v
    by_board (Held x) e = same_mission w v (f x) (same x) e
    by_board (Other o) e = same_mission w v (λ (y : State). y) (λ y. refl) (e ∙ unchanged (lent w))

-- the names of the ports stay
pub still_named : (b w v : List ℕ) (k : Names) → SameMission w v → Naming b w k → Naming b v k
still_named b w v k m named =
    λ held here. subst (λ (n : ℕ). NamesFor (ports_seen n (decode_board b)) k) (sym m.number) (named held (m.right here))
