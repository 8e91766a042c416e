-- Replies over a history: page 02, W-203. Which calls make one, and how many are made. Assumes nothing.
use Rattle.std.specs.Prelude.{ℕ, ◌≤◌, ◌≡◌, Bool, true, false, not, List, eqb}
use Rattle.routes.specs.declared.Record.{Record}
use Rattle.state.specs.Relay.{port_in, port_set_up}
use Rattle.lent_state.specs.View.{too_long}
use Rattle.page.specs.Replies.{RequestAnswered}
use Rattle.history.specs.Seat.{Seat, relay_in, relay_with, replied_by}
use Rattle.history.specs.Outcome.{Answer, number, ended, replied, entry, Outcome, of_reply}
use Rattle.history.specs.Ledger.{one}

-- a reply was made: it has an onward half
abbrev pub is_made : Answer → Bool
is_made (number n) = false
is_made (ended refusal local onward took) = false
is_made (replied refusal onward took) = not (eqb onward 0)
is_made (entry e) = false

abbrev pub made : Outcome → ℕ
made o = one (is_made o.answer)

-- all that is asked of a call that makes one: of the list, the port and the room, and of what came
pub record Answered (x : Seat) (rs : List Record) (port : ℕ) (octets : List ℕ) (room : ℕ) : Type 0 where
  -- 21, 16 and 17 do not refuse it
  pub short : too_long rs ≡ false
  pub ready : port_set_up (relay_in x) port ≡ true
  pub enough : (port_in (relay_in x) port).mtu ≤ room
  -- and the octets are a request that the page has answered, with the routes that the mission sees and the operator's setting
  pub request : RequestAnswered (relay_with x rs) x.board.drop port octets

-- no relay makes a reply to these octets, by whatever port they come in, with whatever routes and room
abbrev pub Unasked : List ℕ → Type 0
Unasked octets = (x : Seat) (rs : List Record) (port room : ℕ) → is_made (of_reply (replied_by x rs port octets room)).answer ≡ false
