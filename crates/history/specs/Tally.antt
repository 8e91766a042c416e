-- What the rules give each counter over a history: page 01, demand 3 and "Refusal numbers"; page 02, W-208 ("Demand 3 holds for each mission by itself").
-- No counter of any state is read here. Assumes nothing.
use Rattle.std.specs.Prelude.{ℕ, ◌+◌, Bool, false, List, [], ◌∷◌, eqb, Option, Some, None}
use Rattle.checks.specs.Order.{pick}
use Rattle.tally.specs.Tally.{Move, counted_all}
use Rattle.state.specs.Seen.{State, fresh_state}
use Rattle.history.specs.Seat.{Seat, fresh_seat, state_of}
use Rattle.history.specs.Calls.{Call}
use Rattle.history.specs.Outcome.{Outcome, outcome, next, seat_after, sum_over}

-- whether a move is of counter i
abbrev pub is_at : Option ℕ → ℕ → Bool
is_at (Some place) i = eqb place i
is_at None i = false

-- how much the moves give counter i
abbrev pub sum_at : List Move → ℕ → ℕ
sum_at [] i = 0
sum_at (move ∷ moves) i = pick (is_at move.0 i) move.1 0 + sum_at moves i

-- how much a history of mission n gives it
abbrev pub tally : ℕ → List Call → ℕ → ℕ
tally n cs i = sum_over (λ (o : Outcome). sum_at o.moves i) n cs

-- ---- the counters as they stand
abbrev pub counters_from : List ℕ → Seat → List Call → List ℕ
counters_from l x [] = l
counters_from l x (c ∷ cs) = counters_from (counted_all l (outcome x c).moves) (next x c) cs

-- all that a history leaves of mission n
abbrev pub state_after : ℕ → List Call → State
state_after n cs = state_of (seat_after n cs) (counters_from (fresh_state n).counters (fresh_seat n) cs)
