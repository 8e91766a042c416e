-- What answering an echo request does to the mission's state: page 02, W-203 ("Answering is a call of its own, counting nothing for the request"; "Demand 3
-- counts replies ..; their copies join its sum"). Nothing is remembered of it. Assumes nothing.
use Rattle.std.specs.Prelude.{ℕ, List}
use Rattle.checks.specs.Order.{pick}
use Rattle.address.specs.declared.Slot.{Slot}
use Rattle.routes.specs.declared.Record.{Record}
use Rattle.state.specs.Seen.{Board, State, seated}
use Rattle.next_leg.specs.Leg.{no_legs}
use Rattle.lookup.specs.ForTarget.{way_for}
use Rattle.verdict.specs.declared.Target.TheVariants.{Route}
use Rattle.lent_state.specs.View.{too_long}
use Rattle.listing.specs.Listed.{seen}
use Rattle.judge.specs.declared.Ending.{Ending}
use Rattle.tally.specs.Tally.{reply_moves, counted_all}
use Rattle.replies.specs.Reply.{no_answer}
use Rattle.replies.specs.Replied.{answering_of, replied_to}
use Rattle.replies.specs.declared.Answering.{Answering}
use Rattle.replies.specs.declared.sending.Replied.{Replied}
use Rattle.relay.specs.Received.{received_relay}

-- a reply waits as a datagram does that was received: the entries that its ending makes
abbrev pub as_ending : Replied → Ending
as_ending e = record { refusal = e.refusal; ruling = e.ruling; precedence = e.precedence; size = 0; legs = no_legs }

-- the port that took it has an entry more, and the mission's counters move
abbrev pub replied_state : Board → State → Slot → Replied → State
replied_state b s slot e =
    record {
      number = s.number;
      mission = (received_relay (seated b s) slot (as_ending e)).mission;
      memory = s.memory;
      counters = counted_all s.counters (reply_moves e.ruling);
    }

-- "A list over 512 records is 21 before all else" (docs/DECISIONS.md); else the reply to these octets, as the mission sees the relay with this list
unfoldable pub echo_answering : Board → State → List Record → ℕ → List ℕ → ℕ → Answering
echo_answering b s rs port octets room = pick (too_long rs) (no_answer 21) (answering_of (seen b s rs) s.number b.drop port octets room)

unfoldable pub echo_reply : Board → State → List Record → ℕ → List ℕ → ℕ → Replied
echo_reply b s rs port octets room =
    let a = echo_answering b s rs port octets room in
    replied_to (seen b s rs) a (way_for (seen b s rs) Route a.destination) room
