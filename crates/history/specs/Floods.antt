-- Floods over a history of one mission: page 02, W-207. The pairs that the rules keep are a list here, each with the second in which it came: no place is
-- looked at, and the list follows from what the calls bring and answer. Then the seconds that were accepted, and how often a pair is flooded on.
-- Assumes nothing.
use Rattle.std.specs.Prelude.{ℕ, ◌+◌, ◌-◌, ◌<◌, max, ◌≡◌, Bool, false, not, ◌&&◌, ◌||◌, List, [], ◌∷◌, ◌++◌, length, get_or, eqb, ltb}
use Rattle.checks.specs.Order.{pick, first_of}
use Rattle.sets.specs.Limits.{pair_places}
use Rattle.sets.specs.Sets.{any_below}
use Rattle.header.specs.Read.{header_of}
use Rattle.meaning.specs.Flood.{is_flooded, pair_of}
use Rattle.records.specs.Fresh.{fresh_pair}
use Rattle.records.specs.Held.{same_pair, holds_pair, is_free}
use Rattle.records.specs.declared.Pair.{Pair}
use Rattle.records.specs.declared.PairPlace.{PairPlace}
use Rattle.routes.specs.declared.Record.{Record}
use Rattle.state.specs.Relay.{Memory, pair_at, port_in}
use Rattle.verdict.specs.Numbers.{onward_number}
use Rattle.floods.specs.Sweep.{is_old, sweep_checks}
use Rattle.judge.specs.Remembered.{is_unheard}
use Rattle.page.specs.Table.{aim_at}
use Rattle.page.specs.Memory.{floods_on}
use Rattle.history.specs.Seat.{Seat, fresh_seat, relay_in, relay_with, heard_by}
use Rattle.history.specs.Calls.{MissionCall, sets, hears, echoes, takes, sweeps, looks, Call, operator, own}
use Rattle.history.specs.Outcome.{Answer, number, ended, replied, entry, outcome, next}
use Rattle.history.specs.Answers.{listed}
use Rattle.history.specs.Ledger.{one}

-- the pair of what a port hears, the source as that port fills it in
abbrev pub pair_in : Seat → ℕ → List ℕ → Pair
pair_in x port octets = pair_of (port_in (relay_in x) port).address.0 (header_of octets).fields

-- ---- the pairs that are held
-- a pair with its second stands in a list
abbrev pub Among : PairPlace → List PairPlace → Type 0
Among x l = (i : ℕ) × (i < length l) × (get_or l i fresh_pair ≡ x)

-- or in a place of the memory
abbrev pub HeldIn : PairPlace → Memory → Type 0
HeldIn x k = (i : ℕ) × (i < pair_places) × ((is_free (pair_at k i) ≡ false) × (pair_at k i ≡ x))

abbrev pub has_pair : List PairPlace → Pair → Bool
has_pair [] q = false
has_pair (x ∷ l) q = same_pair x.pair q || has_pair l q

-- a hearing keeps its pair: nothing refuses it; on a router it is flooded, and its destination is no port's address and not limited broadcast; the pair is
-- not in the list, and the list has fewer than 64
abbrev pub asks_pairs : Seat → List Record → ℕ → ℕ → List ℕ → ℕ → Bool
asks_pairs x rs port second octets room =
    eqb (heard_by x rs port second octets room).refusal 0
    && floods_on (relay_with x rs) (aim_at (relay_with x rs) port octets) (header_of octets).fields

abbrev pub keeps_pair : Seat → List Record → ℕ → ℕ → List ℕ → ℕ → List PairPlace → Bool
keeps_pair x rs port second octets room held =
    asks_pairs x rs port second octets room && (not (has_pair held (pair_in x port octets)) && ltb (length held) pair_places)

-- a sweep frees what is older than the lifetime
abbrev pub younger : ℕ → ℕ → List PairPlace → List PairPlace
younger lifetime second [] = []
younger lifetime second (x ∷ l) = pick (ltb lifetime (second - x.second)) (younger lifetime second l) (x ∷ younger lifetime second l)

abbrev pub held_own : Seat → MissionCall → List PairPlace → List PairPlace
held_own x (sets s) held = held
held_own x (hears rs port slot second octets output) held =
    pick (keeps_pair x rs port second octets (length output) held) (held ++ (record { pair = pair_in x port octets; second = second } ∷ [])) held
held_own x (echoes rs port slot octets output) held = held
held_own x (takes port) held = held
held_own x (sweeps second) held = pick (eqb (first_of (sweep_checks x.memory second)) 0) (younger x.board.lifetime second held) held
held_own x (looks l) held = held

abbrev pub held_by : Seat → Call → List PairPlace → List PairPlace
held_by x (operator c) held = held
held_by x (own c) held = held_own x c held

abbrev pub held_from : Seat → List PairPlace → List Call → List PairPlace
held_from x held [] = held
held_from x held (c ∷ cs) = held_from (next x c) (held_by x c held) cs

-- after a history of mission m
abbrev pub held_after : ℕ → List Call → List PairPlace
held_after m cs = held_from (fresh_seat m) [] cs

-- ---- the seconds that are accepted, in turn: of a hearing that 21, 16, 17 and 29 do not end, and of a sweep that is answered by 0
abbrev pub heard_second : ℕ → Answer → List ℕ
heard_second second (number n) = []
heard_second second (ended refusal local onward took) = pick (is_unheard refusal) [] (second ∷ [])
heard_second second (replied refusal onward took) = []
heard_second second (entry e) = []

abbrev pub swept_second : ℕ → Answer → List ℕ
swept_second second (number n) = pick (eqb n 0) (second ∷ []) []
swept_second second (ended refusal local onward took) = []
swept_second second (replied refusal onward took) = []
swept_second second (entry e) = []

abbrev pub accepted_own : MissionCall → Answer → List ℕ
accepted_own (sets s) a = []
accepted_own (hears rs port slot second octets output) a = heard_second second a
accepted_own (echoes rs port slot octets output) a = []
accepted_own (takes port) a = []
accepted_own (sweeps second) a = swept_second second a
accepted_own (looks l) a = []

abbrev pub accepted_by : Call → Answer → List ℕ
accepted_by (operator c) a = []
accepted_by (own c) a = accepted_own c a

abbrev pub accepted_from : Seat → List Call → List ℕ
accepted_from x [] = []
accepted_from x (c ∷ cs) = accepted_by c (outcome x c).answer ++ accepted_from (next x c) cs

abbrev pub accepted_seconds : ℕ → List Call → List ℕ
accepted_seconds m cs = accepted_from (fresh_seat m) cs

-- the greatest of a list, 0 where there is none
abbrev pub greatest : List ℕ → ℕ
greatest [] = 0
greatest (n ∷ l) = max n (greatest l)

-- ---- a pair that is flooded on
module _ (q : Pair) where
  -- a hearing that is flooded with the pair and has ports wanted: ports took an entry, there is none, or 10, 13, 14 or 15 follows
  abbrev pub is_flooded_on : Seat → List Record → ℕ → ℕ → List ℕ → ℕ → Bool
  is_flooded_on x rs port second octets room =
      is_flooded (header_of octets).fields
      && (same_pair (pair_in x port octets) q
      && listed (1 ∷ 10 ∷ 11 ∷ 13 ∷ 14 ∷ 15 ∷ []) (onward_number (heard_by x rs port second octets room).ruling.onward))

  abbrev pub floods_own : Seat → MissionCall → ℕ
  floods_own x (sets s) = 0
  floods_own x (hears rs port slot second octets output) = one (is_flooded_on x rs port second octets (length output))
  floods_own x (echoes rs port slot octets output) = 0
  floods_own x (takes port) = 0
  floods_own x (sweeps second) = 0
  floods_own x (looks l) = 0

  abbrev pub floods_by : Seat → Call → ℕ
  floods_by x (operator c) = 0
  floods_by x (own c) = floods_own x c

  -- how many there are among the calls
  abbrev pub floods_from : Seat → List Call → ℕ
  floods_from x [] = 0
  floods_from x (c ∷ cs) = floods_by x c + floods_from (next x c) cs

  -- the call frees the pair: a sweep that is accepted, while the pair is held and its age is over the lifetime
  abbrev pub frees_own : Seat → MissionCall → Bool
  frees_own x (sets s) = false
  frees_own x (hears rs port slot second octets output) = false
  frees_own x (echoes rs port slot octets output) = false
  frees_own x (takes port) = false
  frees_own x (sweeps second) =
      eqb (first_of (sweep_checks x.memory second)) 0
      && any_below (λ (i : ℕ). holds_pair (pair_at x.memory i) q && is_old x.board.lifetime second (pair_at x.memory i)) pair_places
  frees_own x (looks l) = false

  abbrev pub frees_by : Seat → Call → Bool
  frees_by x (operator c) = false
  frees_by x (own c) = frees_own x c

  -- none of the calls does
  abbrev pub NoneFrees : Seat → List Call → Type 0
  NoneFrees x [] = Unit
  NoneFrees x (c ∷ cs) = (frees_by x c ≡ false) × NoneFrees (next x c) cs
