-- What one mission's history runs on: the operator's board, and of the mission its number and what is its own, with what it remembers (W-207). Its counters are left out, since page 01 has
-- no rule that reads one; the list of routes is lent with each call; and nothing here is the other mission's (page 02, W-208). Assumes nothing.
use Rattle.std.specs.Prelude.{ℕ, List, []}
use Rattle.routes.specs.declared.Record.{Record}
use Rattle.state.specs.Relay.{Mission, Memory, Relay}
use Rattle.state.specs.Seen.{Board, State, fresh_board, fresh_mission, fresh_memory, seated}
use Rattle.listing.specs.Listed.{seen}
use Rattle.relay.specs.Received.{heard_ending, heard_memory}
use Rattle.judge.specs.declared.Ending.{Ending}
use Rattle.replies.specs.declared.Answering.{Answering}
use Rattle.replies.specs.declared.sending.Replied.{Replied}
use Rattle.answering.specs.Echoed.{echo_answering, echo_reply}

pub record Seat : Type 0 where
  pub board : Board
  pub number : ℕ
  pub mission : Mission
  pub memory : Memory

-- "A history begins with a fresh board" and the mission fresh (docs/DECISIONS.md)
abbrev pub fresh_seat : ℕ → Seat
fresh_seat n = record { board = fresh_board; number = n; mission = fresh_mission; memory = fresh_memory }

-- the mission's state with these counters
abbrev pub state_of : Seat → List ℕ → State
state_of x counters = record { number = x.number; mission = x.mission; memory = x.memory; counters = counters }

-- page 01's relay as the mission sees it: in a call that is lent no list, and in one that is lent this list
abbrev pub relay_in : Seat → Relay
relay_in x = seated x.board (state_of x [])

abbrev pub relay_with : Seat → List Record → Relay
relay_with x rs = seen x.board (state_of x []) rs

-- how a datagram ends that comes in by this port in this second
abbrev pub heard_by : Seat → List Record → ℕ → ℕ → List ℕ → ℕ → Ending
heard_by x rs port second octets room = heard_ending x.board (state_of x []) rs port second octets room

-- and what is remembered then
abbrev pub memory_by : Seat → List Record → ℕ → ℕ → List ℕ → ℕ → Memory
memory_by x rs port second octets room = heard_memory x.board (state_of x []) rs port second octets room

-- ---- answering an echo request (W-203): the reply to octets that came in by this port, if one is made, and whether it goes
abbrev pub answering_by : Seat → List Record → ℕ → List ℕ → ℕ → Answering
answering_by x rs port octets room = echo_answering x.board (state_of x []) rs port octets room

abbrev pub replied_by : Seat → List Record → ℕ → List ℕ → ℕ → Replied
replied_by x rs port octets room = echo_reply x.board (state_of x []) rs port octets room
