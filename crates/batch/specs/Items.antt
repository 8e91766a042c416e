-- The items of a batch (page 02, W-201): "up to 64 datagrams as octets laid end to end, with a list of lengths, ports and slots", and of seconds ("which the
-- caller gives (W-201: per item)", W-207). Assumes nothing.
use Rattle.std.specs.Prelude.{ℕ, zero, suc, ◌+◌, ◌*◌, not, List, [], ◌∷◌, eqb, ltb, length, get_or, take, drop}
use Rattle.checks.specs.Order.{Checks}
use Rattle.sets.specs.Limits.{route_places}
use Rattle.judge.specs.Ending.{output_room}

abbrev pub most_items : ℕ
most_items = 64

-- the lists and the octets, as they are lent
pub record Lists : Type 0 where
  pub lengths : List ℕ
  pub ports : List ℕ
  pub slots : List ℕ
  pub seconds : List ℕ
  pub octets : List ℕ

-- the octets of the first i items
unfoldable pub start_of : List ℕ → ℕ → ℕ
start_of lengths zero = 0
start_of lengths (suc i) = start_of lengths i + get_or lengths i 0

abbrev pub octets_at : List ℕ → List ℕ → ℕ → List ℕ
octets_at lengths octets i = take (get_or lengths i 0) (drop (start_of lengths i) octets)

-- "an output of 50 octets for each" of eight ports (W-214): item i has 400, from 400 × i on
abbrev pub room_at : List ℕ → ℕ → List ℕ
room_at output i = take output_room (drop (output_room * i) output)

-- "Lists of unequal length, lengths that sum to more than the octets lent, more than 64 items, or output room short of 50 each refuse the whole call with
-- 27": the room for the answers counts as one of the lists, and 21 of the list of routes stands before all (docs/DECISIONS.md). The arguments are how many
-- routes, ports, slots, seconds, octets, answers and octets of output there are.
abbrev pub many_checks : List ℕ → ℕ → ℕ → ℕ → ℕ → ℕ → ℕ → ℕ → Checks
many_checks lengths routes ports slots seconds octets answers output =
    (ltb route_places routes, 21)
    ∷ (not (eqb ports (length lengths)), 27)
    ∷ (not (eqb slots (length lengths)), 27)
    ∷ (not (eqb seconds (length lengths)), 27)
    ∷ (not (eqb answers (length lengths)), 27)
    ∷ (ltb most_items (length lengths), 27)
    ∷ (ltb octets (start_of lengths (length lengths)), 27)
    ∷ (ltb output (output_room * length lengths), 27)
    ∷ []
