-- What one call does, and what a history of calls leaves: all that is counted, granted, dropped and handed out, from the settings, the queues and
-- the memory alone. No counter is looked at (page 01 has no rule that reads one), and nothing of the other mission. Assumes nothing.
use Rattle.std.specs.Prelude.{ℕ, ◌+◌, Bool, false, not, ◌||◌, List, [], ◌∷◌, length, eqb, ltb}
use Rattle.checks.specs.Order.{first_of}
use Rattle.queue.specs.declared.Entry.{Entry}
use Rattle.state.specs.Relay.{Mission, Memory}
use Rattle.state.specs.Seen.{Board}
use Rattle.verdict.specs.Numbers.{local_number, onward_number}
use Rattle.judge.specs.declared.Ending.{Ending}
use Rattle.taking.specs.Taking.{take_outcome, taken_relay, Taking}
use Rattle.checks.specs.Told.{Good, Refused}
use Rattle.tally.specs.Tally.{Move, moves_of, reply_moves}
use Rattle.floods.specs.Sweep.{sweep_checks, swept_memory}
use Rattle.relay.specs.Received.{received_relay}
use Rattle.replies.specs.declared.sending.Replied.{Replied}
use Rattle.answering.specs.Echoed.{as_ending}
use Rattle.history.specs.Seat.{Seat, fresh_seat, relay_in, heard_by, memory_by, replied_by}
use Rattle.history.specs.Calls.{
  OperatorCall,
  orders,
  views,
  MissionCall,
  sets,
  hears,
  echoes,
  takes,
  sweeps,
  looks,
  Call,
  operator,
  own,
  order_checks,
  board_left,
  checks_of,
  settle,
}
use Rattle.history.specs.Looks.{view_number, look_number}

-- ---- one call
pub data Answer : Type 0 where
  -- a number alone: of a setting, 0 where it is taken; of a take that is refused; of a sweep; of a look
  number : ℕ → Answer
  -- of a datagram: the refusal, 0 where it was judged; the local half; the onward half; the ports that took an entry
  ended : ℕ → ℕ → ℕ → ℕ → Answer
  -- of an echo request that is answered: the refusal, 0 where there is none; the onward half of the reply, 0 where none is made; the ports that took an entry
  replied : ℕ → ℕ → ℕ → Answer
  -- of a take: what is handed out
  entry : Entry → Answer

-- a refusal: a number, of a datagram as a whole or of its onward half, and likewise of a reply (of a look any number but 0, since a look changes nothing)
abbrev pub is_refusal : Answer → Bool
is_refusal (number n) = not (eqb n 0)
is_refusal (ended refusal local onward took) = not (eqb refusal 0) || ltb 1 onward
is_refusal (replied refusal onward took) = not (eqb refusal 0) || ltb 1 onward
is_refusal (entry e) = false

-- what is handed out, and by which port
pub data Out : Type 0 where
  nothing : Out
  from : ℕ → Entry → Out

pub record Outcome : Type 0 where
  pub answer : Answer
  -- the counters that move
  pub moves : List Move
  -- the ports that are granted a copy; of these, those that take an entry and those that drop it
  pub granted : ℕ
  pub took : ℕ
  pub dropped : ℕ
  pub out : Out

-- nothing is counted and no copy moves
abbrev pub quiet : Answer → Outcome
quiet a = record { answer = a; moves = []; granted = 0; took = 0; dropped = 0; out = nothing }

abbrev pub of_ending : Ending → Outcome
of_ending e =
    record {
      answer = ended e.refusal (local_number e.ruling.local) (onward_number e.ruling.onward) e.ruling.took;
      moves = moves_of e;
      granted = e.ruling.granted;
      took = e.ruling.took;
      dropped = e.ruling.dropped;
      out = nothing;
    }

abbrev pub of_reply : Replied → Outcome
of_reply e =
    record {
      answer = replied e.refusal (onward_number e.ruling.onward) e.ruling.took;
      moves = reply_moves e.ruling;
      granted = e.ruling.granted;
      took = e.ruling.took;
      dropped = e.ruling.dropped;
      out = nothing;
    }

abbrev pub of_taking : ℕ → Taking → Outcome
of_taking p (Good e) = record { answer = entry e; moves = []; granted = 0; took = 0; dropped = 0; out = from p e }
of_taking p (Refused n) = quiet (number n)

-- the operator's call: by the board and the list lent alone
abbrev pub operator_outcome : Board → OperatorCall → Outcome
operator_outcome b (orders o) = quiet (number (first_of (order_checks b o)))
operator_outcome b (views v) = quiet (number (view_number v))

-- the mission's own: page 01's call on what the mission sees
abbrev pub own_outcome : Seat → MissionCall → Outcome
own_outcome x (sets s) = quiet (number (first_of (checks_of (relay_in x) s)))
own_outcome x (hears rs p slot second octets output) = of_ending (heard_by x rs p second octets (length output))
own_outcome x (echoes rs p slot octets output) = of_reply (replied_by x rs p octets (length output))
own_outcome x (takes p) = of_taking p (take_outcome (relay_in x) p)
own_outcome x (sweeps second) = quiet (number (first_of (sweep_checks x.memory second)))
own_outcome x (looks l) = quiet (number (look_number x l))

abbrev pub outcome : Seat → Call → Outcome
outcome x (operator c) = operator_outcome x.board c
outcome x (own c) = own_outcome x c

-- what it leaves: the operator's call changes the board, and the mission's own the mission
abbrev pub next_board : Board → OperatorCall → Board
next_board b (orders o) = board_left b o
next_board b (views v) = b

abbrev pub next_mission : Seat → MissionCall → Mission
next_mission x (sets s) = (settle (relay_in x) s).mission
next_mission x (hears rs p slot second octets output) = (received_relay (relay_in x) slot (heard_by x rs p second octets (length output))).mission
next_mission x (echoes rs p slot octets output) = (received_relay (relay_in x) slot (as_ending (replied_by x rs p octets (length output)))).mission
next_mission x (takes p) = (taken_relay (relay_in x) p).mission
next_mission x (sweeps second) = x.mission
next_mission x (looks l) = x.mission

abbrev pub next_memory : Seat → MissionCall → Memory
next_memory x (sets s) = x.memory
next_memory x (hears rs p slot second octets output) = memory_by x rs p second octets (length output)
next_memory x (echoes rs p slot octets output) = x.memory
next_memory x (takes p) = x.memory
next_memory x (sweeps second) = swept_memory x.board.lifetime second x.memory
next_memory x (looks l) = x.memory

abbrev pub next : Seat → Call → Seat
next x (operator c) = record { board = next_board x.board c; number = x.number; mission = x.mission; memory = x.memory }
next x (own c) = record { board = x.board; number = x.number; mission = next_mission x c; memory = next_memory x c }

-- ---- one call after the other
abbrev pub run_from : Seat → List Call → Seat
run_from x [] = x
run_from x (c ∷ cs) = run_from (next x c) cs

-- the settings in force, the entries that wait and what is remembered after a history of mission n
abbrev pub seat_after : ℕ → List Call → Seat
seat_after n cs = run_from (fresh_seat n) cs

-- the operator's calls of a history, and what they leave of a board by themselves
abbrev pub by_operator : List Call → List OperatorCall
by_operator [] = []
by_operator (operator c ∷ cs) = c ∷ by_operator cs
by_operator (own c ∷ cs) = by_operator cs

abbrev pub board_from : Board → List OperatorCall → Board
board_from b [] = b
board_from b (c ∷ cs) = board_from (next_board b c) cs

-- what is counted of each outcome, over the calls
abbrev pub sum_from : (Outcome → ℕ) → Seat → List Call → ℕ
sum_from f x [] = 0
sum_from f x (c ∷ cs) = f (outcome x c) + sum_from f (next x c) cs

abbrev pub sum_over : (Outcome → ℕ) → ℕ → List Call → ℕ
sum_over f n cs = sum_from f (fresh_seat n) cs
