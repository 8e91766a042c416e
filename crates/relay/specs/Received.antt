-- What receiving does to the mission's state: page 01, "One received datagram, step by step"; page 02, W-207. Assumes nothing.
use Rattle.std.specs.Prelude.{ℕ, List}
use Rattle.checks.specs.Order.{pick}
use Rattle.address.specs.declared.Slot.{Slot}
use Rattle.queue.specs.declared.Entry.{Entry}
use Rattle.sets.specs.Limits.{port_count}
use Rattle.state.specs.Relay.{Memory, Relay}
use Rattle.state.specs.Seen.{Board, State, seated}
use Rattle.routes.specs.declared.Record.{Record}
use Rattle.lent_state.specs.View.{too_long}
use Rattle.listing.specs.Listed.{seen}
use Rattle.judge.specs.Ending.{ending_of, or_else}
use Rattle.judge.specs.Remembered.{memory_of}
use Rattle.judge.specs.declared.Ending.{Ending}
use Rattle.tally.specs.Tally.{moves_of, counted_all}
use Rattle.relay.specs.Outgoing.{entered_all}

-- what waits for the datagram at a port that took it
abbrev pub new_entry : Slot → Ending → Entry
new_entry slot e = record { slot = slot; precedence = e.precedence }

-- each port that took a copy has an entry more
unfoldable pub received_relay : Relay → Slot → Ending → Relay
received_relay r slot e = entered_all r e.ruling.took (new_entry slot e) port_count

-- this is remembered, and the mission's counters move
abbrev pub received_state : Board → State → Slot → Memory → Ending → State
received_state b s slot k e =
    record {
      number = s.number;
      mission = (received_relay (seated b s) slot e).mission;
      memory = k;
      counters = counted_all s.counters (moves_of e);
    }

-- "A list over 512 records is 21 before all else" (docs/DECISIONS.md); else what page 01's relay gives, as the mission sees it with this list
unfoldable pub heard_ending : Board → State → List Record → ℕ → ℕ → List ℕ → ℕ → Ending
heard_ending b s rs port second octets room = or_else (pick (too_long rs) 21 0) (ending_of (seen b s rs) port second octets room)

unfoldable pub heard_memory : Board → State → List Record → ℕ → ℕ → List ℕ → ℕ → Memory
heard_memory b s rs port second octets room = pick (too_long rs) s.memory (memory_of (seen b s rs) port second octets room)
