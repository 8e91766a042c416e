-- A call on what is lent, where the words hold it and where they do not. Assumes nothing.
use Prim.Native.Nat.{ℕ}
use mathlib.Core.Path.{◌≡◌, refl, ap}
use mathlib.Core.List.{List}
use lib.ListN.{length}
use borrow.Author.Tests.{eq-eqb, ne_eqb}
use Rattle.state.specs.Relay.{Relay}
use Rattle.state.specs.Seen.{Board, State, seated, on_seated}
use Rattle.state.specs.Layout.{board_words, decode_board, mission_words, decode}
use Rattle.lent_state.specs.View.{Lent, Held, Other, by_lent, lent_board, lent, told_board, changed_board, told, changed}
use Rattle.lent_state.specs.View.{told_both, changed_both, told_relay, changed_relay}

-- ---- what the words hold is not asked
pub same_by_lent : {S A : Type 0} (f : S → A) (d : A) → ((s : S) → d ≡ f s) → (l : Lent S) → d ≡ by_lent f d l
same_by_lent f d h (Held s) = h s
same_by_lent f d h (Other w) = refl

pub board_same_told : {A : Type 0} (f : Board → A) (d : A) (w : List ℕ) → ((x : Board) → d ≡ f x) → d ≡ told_board f d w
unfolding told_board
board_same_told f d w h = same_by_lent f d h (lent_board w)

pub same_told : {A : Type 0} (f : State → A) (d : A) (w : List ℕ) → ((x : State) → d ≡ f x) → d ≡ told f d w
unfolding told
same_told f d w h = same_by_lent f d h (lent w)

-- ---- the board
module _ (w : List ℕ) (right : length w ≡ board_words) where
  board_is_held : lent_board w ≡ Held (decode_board w)
  unfolding lent_board
  board_is_held = simp (eq-eqb (length w) board_words right)

  pub board_held_told : {A : Type 0} (f : Board → A) (d : A) {x : A} → x ≡ f (decode_board w) → x ≡ told_board f d w
  unfolding told_board
  board_held_told f d e = rw board_is_held e

  pub board_held_changed : (f : Board → Board) (v : List ℕ) → length v ≡ board_words → decode_board v ≡ f (decode_board w) → lent_board v ≡ changed_board f w
  unfolding changed_board lent_board
  board_held_changed f v long e = rw board_is_held (simp (eq-eqb (length v) board_words long) (ap Held e))

  -- a call that answers and changes
  pub board_held_call : {A : Type 0} (f : Board → A) (d : A) (g : Board → Board) {x : A} (v : List ℕ) → length v ≡ board_words
      → x ≡ f (decode_board w) → decode_board v ≡ g (decode_board w) → (x ≡ told_board f d w) × (lent_board v ≡ changed_board g w)
  board_held_call f d g v long answer left = (board_held_told f d answer, board_held_changed g v long left)

module _ (w : List ℕ) (wrong : length w ≡ board_words → ⊥) where
  pub board_other_told : {A : Type 0} (f : Board → A) (d : A) → d ≡ told_board f d w
  unfolding told_board lent_board
  board_other_told f d = simp (ne_eqb (length w) board_words wrong)

  pub board_other_changed : (f : Board → Board) → lent_board w ≡ changed_board f w
  unfolding changed_board lent_board
  board_other_changed f = simp (ne_eqb (length w) board_words wrong)

  pub board_other_call : {A : Type 0} (f : Board → A) (d : A) (g : Board → Board) → (d ≡ told_board f d w) × (lent_board w ≡ changed_board g w)
  board_other_call f d g = (board_other_told f d, board_other_changed g)

-- ---- a mission's state
module _ (w : List ℕ) (right : length w ≡ mission_words) where
  is_held : lent w ≡ Held (decode w)
  unfolding lent
  is_held = simp (eq-eqb (length w) mission_words right)

  pub held_told : {A : Type 0} (f : State → A) (d : A) {x : A} → x ≡ f (decode w) → x ≡ told f d w
  unfolding told
  held_told f d e = rw is_held e

  pub held_changed : (f : State → State) (v : List ℕ) → length v ≡ mission_words → decode v ≡ f (decode w) → lent v ≡ changed f w
  unfolding changed lent
  held_changed f v long e = rw is_held (simp (eq-eqb (length v) mission_words long) (ap Held e))

  -- a call that answers and changes
  pub held_call : {A : Type 0} (f : State → A) (d : A) (g : State → State) {x : A} (v : List ℕ) → length v ≡ mission_words
      → x ≡ f (decode w) → decode v ≡ g (decode w) → (x ≡ told f d w) × (lent v ≡ changed g w)
  held_call f d g v long answer left = (held_told f d answer, held_changed g v long left)

module _ (w : List ℕ) (wrong : length w ≡ mission_words → ⊥) where
  pub other_told : {A : Type 0} (f : State → A) (d : A) → d ≡ told f d w
  unfolding told lent
  other_told f d = simp (ne_eqb (length w) mission_words wrong)

  pub other_changed : (f : State → State) → lent w ≡ changed f w
  unfolding changed lent
  other_changed f = simp (ne_eqb (length w) mission_words wrong)

  pub other_call : {A : Type 0} (f : State → A) (d : A) (g : State → State) → (d ≡ told f d w) × (lent w ≡ changed g w)
  other_call f d g = (other_told f d, other_changed g)

-- ---- both, the board to read
module _ (b w : List ℕ) (rightBoard : length b ≡ board_words) (right : length w ≡ mission_words) where
  pub both_held_told : {A : Type 0} (f : Board → State → A) (d : A) {x : A} → x ≡ f (decode_board b) (decode w) → x ≡ told_both f d b w
  both_held_told f d e = board_held_told b rightBoard (λ (x : Board). told (f x) d w) d (held_told w right (f (decode_board b)) d e)

  pub both_held_changed : (f : Board → State → State) (v : List ℕ) → length v ≡ mission_words → decode v ≡ f (decode_board b) (decode w)
      → lent v ≡ changed_both f b w
  both_held_changed f v long e =
      board_held_told b rightBoard (λ (x : Board). changed (f x) w) (lent w) (held_changed w right (f (decode_board b)) v long e)

  pub both_held_call : {A : Type 0} (f : Board → State → A) (d : A) (g : Board → State → State) {x : A} (v : List ℕ) → length v ≡ mission_words
      → x ≡ f (decode_board b) (decode w) → decode v ≡ g (decode_board b) (decode w) → (x ≡ told_both f d b w) × (lent v ≡ changed_both g b w)
  both_held_call f d g v long answer left = (both_held_told f d answer, both_held_changed g v long left)

  -- one of page 01's calls
  pub relay_held_told : {A : Type 0} (f : Relay → A) (d : A) {x : A} → x ≡ f (seated (decode_board b) (decode w)) → x ≡ told_relay f d b w
  relay_held_told f d e = both_held_told (λ (x : Board) (s : State). f (seated x s)) d e

  pub relay_held_changed : (f : Relay → Relay) (v : List ℕ) → length v ≡ mission_words → decode v ≡ on_seated (decode_board b) f (decode w)
      → lent v ≡ changed_relay f b w
  relay_held_changed f v long e = both_held_changed (λ (x : Board) (s : State). on_seated x f s) v long e

  pub relay_held_call : {A : Type 0} (f : Relay → A) (d : A) (g : Relay → Relay) {x : A} (v : List ℕ) → length v ≡ mission_words
      → x ≡ f (seated (decode_board b) (decode w)) → decode v ≡ on_seated (decode_board b) g (decode w)
      → (x ≡ told_relay f d b w) × (lent v ≡ changed_relay g b w)
  relay_held_call f d g v long answer left = (relay_held_told f d answer, relay_held_changed g v long left)

-- the board's words are wrong
module _ (b w : List ℕ) (wrong : length b ≡ board_words → ⊥) where
  pub no_board_told : {A : Type 0} (f : Board → State → A) (d : A) → d ≡ told_both f d b w
  no_board_told f d = board_other_told b wrong (λ (x : Board). told (f x) d w) d

  pub no_board_changed : (f : Board → State → State) → lent w ≡ changed_both f b w
  no_board_changed f = board_other_told b wrong (λ (x : Board). changed (f x) w) (lent w)

  pub no_board_call : {A : Type 0} (f : Board → State → A) (d : A) (g : Board → State → State)
      → (d ≡ told_both f d b w) × (lent w ≡ changed_both g b w)
  no_board_call f d g = (no_board_told f d, no_board_changed g)

-- the mission's words are wrong
module _ (b w : List ℕ) (wrong : length w ≡ mission_words → ⊥) where
  pub no_mission_told : {A : Type 0} (f : Board → State → A) (d : A) → d ≡ told_both f d b w
  no_mission_told f d = board_same_told (λ (x : Board). told (f x) d w) d b (λ (x : Board). other_told w wrong (f x) d)

  pub no_mission_changed : (f : Board → State → State) → lent w ≡ changed_both f b w
  no_mission_changed f = board_same_told (λ (x : Board). changed (f x) w) (lent w) b (λ (x : Board). other_changed w wrong (f x))

  pub no_mission_call : {A : Type 0} (f : Board → State → A) (d : A) (g : Board → State → State)
      → (d ≡ told_both f d b w) × (lent w ≡ changed_both g b w)
  no_mission_call f d g = (no_mission_told f d, no_mission_changed g)
