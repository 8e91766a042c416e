-- What a refused call may leave changed: page 01, demand 1; page 02, W-207 ("demand 1 lets the kept pair and the accepted second stand after a refusal").
-- Settings and queues stand as they were. Of the memory the last second may have moved, and one place that was free may hold the pair; and that of a
-- datagram alone whose number is none of 21, 16, 17 and 29. Assumes nothing.
use Rattle.std.specs.Prelude.{ℕ, ◌≤◌, ◌<◌, ◌≡◌, ◌⊎◌, true, false}
use Rattle.sets.specs.Limits.{pair_places}
use Rattle.records.specs.Held.{is_free}
use Rattle.records.specs.declared.Pair.{Pair}
use Rattle.state.specs.Relay.{Memory, pair_at, put_last, put_pair}
use Rattle.judge.specs.Remembered.{is_unheard}
use Rattle.history.specs.Seat.{Seat}
use Rattle.history.specs.Calls.{MissionCall, sets, hears, echoes, takes, sweeps, looks, Call, operator, own}
use Rattle.history.specs.Outcome.{Answer, number, ended, replied, entry, outcome, next}

-- ---- what is left of a memory k where a second is accepted
-- a pair is kept besides, in a place that was free
pub record KeptIn (k : Memory) (second : ℕ) (left : Memory) : Type 0 where
  pub place : ℕ
  pub pair : Pair
  pub inside : place < pair_places
  pub free : is_free (pair_at k place) ≡ true
  pub kept : left ≡ put_pair (put_last k second) place (record { pair = pair; second = second })

-- the second alone moved, or the second and such a place
abbrev pub Accepted : Memory → ℕ → Memory → Type 0
Accepted k second left = (k.last ≤ second) × ((left ≡ put_last k second) ⊎ KeptIn k second left)

-- by the number that ended the call
pub record HeardStands (refusal second : ℕ) (k left : Memory) : Type 0 where
  pub unheard : is_unheard refusal ≡ true → left ≡ k
  pub heard : is_unheard refusal ≡ false → Accepted k second left

-- ---- a call
abbrev pub refusal_of : Answer → ℕ
refusal_of (number n) = n
refusal_of (ended refusal local onward took) = refusal
refusal_of (replied refusal onward took) = refusal
refusal_of (entry e) = 0

-- a call that hears nothing leaves the memory
abbrev pub OwnStands : MissionCall → Answer → Memory → Memory → Type 0
OwnStands (sets s) a k left = left ≡ k
OwnStands (hears rs port slot second octets output) a k left = HeardStands (refusal_of a) second k left
OwnStands (echoes rs port slot octets output) a k left = left ≡ k
OwnStands (takes port) a k left = left ≡ k
OwnStands (sweeps second) a k left = left ≡ k
OwnStands (looks l) a k left = left ≡ k

abbrev pub MemoryStands : Call → Answer → Memory → Memory → Type 0
MemoryStands (operator c) a k left = left ≡ k
MemoryStands (own c) a k left = OwnStands c a k left

pub record Stands (x : Seat) (c : Call) : Type 0 where
  pub board : (next x c).board ≡ x.board
  pub mission : (next x c).mission ≡ x.mission
  pub memory : MemoryStands c (outcome x c).answer x.memory (next x c).memory
