-- Words as C lends them: page 01, "Settings" ("With any other state a call still ends in an answer"); page 02, W-208. Assumes nothing.
use Rattle.std.specs.Prelude.{ℕ, Bool, List, length, eqb, ltb}
use Rattle.checks.specs.Order.{pick}
use Rattle.sets.specs.Limits.{route_places}
use Rattle.routes.specs.declared.Record.{Record}
use Rattle.state.specs.Relay.{Relay}
use Rattle.state.specs.Seen.{Board, State, seated, on_seated}
use Rattle.state.specs.Layout.{board_words, decode_board, mission_words, decode}

-- words that hold a board, or a mission's state; or others
pub data Lent (A : Type 0) : Type 0 where
  Held : A → Lent A
  Other : List ℕ → Lent A

unfoldable pub lent_board : List ℕ → Lent Board
lent_board w = pick (eqb (length w) board_words) (Held (decode_board w)) (Other w)

unfoldable pub lent : List ℕ → Lent State
lent w = pick (eqb (length w) mission_words) (Held (decode w)) (Other w)

module _ {S : Type 0} where
  -- what a call answers: by what the words hold, or where they hold nothing
  abbrev pub by_lent : {A : Type 0} → (S → A) → A → Lent S → A
  by_lent f d (Held s) = f s
  by_lent f d (Other w) = d

  -- what a call leaves: that changed, or the words as they were
  abbrev pub on_lent : (S → S) → Lent S → Lent S
  on_lent f (Held s) = Held (f s)
  on_lent f (Other w) = Other w

-- ---- a call that is lent the board alone
unfoldable pub told_board : {A : Type 0} → (Board → A) → A → List ℕ → A
told_board f d w = by_lent f d (lent_board w)

unfoldable pub changed_board : (Board → Board) → List ℕ → Lent Board
changed_board f w = on_lent f (lent_board w)

-- ---- a call that is lent a mission's state alone
unfoldable pub told : {A : Type 0} → (State → A) → A → List ℕ → A
told f d w = by_lent f d (lent w)

unfoldable pub changed : (State → State) → List ℕ → Lent State
changed f w = on_lent f (lent w)

-- ---- a mission's call that is lent the board to read: b is the board's words, w the mission's. Where either are of the wrong number there is no
-- relay, and the mission's words stay.
abbrev pub told_both : {A : Type 0} → (Board → State → A) → A → List ℕ → List ℕ → A
told_both f d b w = told_board (λ (x : Board). told (f x) d w) d b

abbrev pub changed_both : (Board → State → State) → List ℕ → List ℕ → Lent State
changed_both f b w = told_board (λ (x : Board). changed (f x) w) (lent w) b

-- the same of one of page 01's calls, on the relay that the mission sees, the counters left
abbrev pub told_relay : {A : Type 0} → (Relay → A) → A → List ℕ → List ℕ → A
told_relay f d b w = told_both (λ (x : Board) (s : State). f (seated x s)) d b w

abbrev pub changed_relay : (Relay → Relay) → List ℕ → List ℕ → Lent State
changed_relay f b w = changed_both (λ (x : Board) (s : State). on_seated x f s) b w

-- ---- a list that is lent: over 512 records it is refused by 21, before all else (docs/DECISIONS.md)
abbrev pub too_long : List Record → Bool
too_long rs = ltb route_places (length rs)
