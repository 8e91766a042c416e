-- What a batch does: its items are heard one after the other, each as a call of its own would hear it (page 02, W-201: "Answers, queues, counters and outputs must
-- equal those of single calls in the same order, a refused one in the middle included"). There is no second rule: all is a fold of what one datagram does
-- (crate relay, specs/Hearing.antt). b is the board's words, l what the mission's words hold at first. Assumes nothing.
use Rattle.std.specs.Prelude.{ℕ, zero, suc, ◌*◌, List, length, get_or, set, eqb}
use Rattle.checks.specs.Order.{pick, first_of}
use Rattle.octets.specs.Octets.{pasted}
use Rattle.routes.specs.declared.Record.{Record}
use Rattle.state.specs.Seen.{State}
use Rattle.lent_state.specs.View.{Lent}
use Rattle.judge.specs.Ending.{output_room}
use Rattle.relay.specs.Hearing.{answered_in, held_in, sent_in}
use Rattle.batch.specs.Items.{Lists, octets_at, room_at, many_checks}

module _ (b : List ℕ) (l : Lent State) (rs : List Record) (x : Lists) where
  abbrev port_at : ℕ → ℕ
  port_at i = get_or x.ports i 0

  abbrev slot_at : ℕ → ℕ
  slot_at i = get_or x.slots i 0

  abbrev second_at : ℕ → ℕ
  second_at i = get_or x.seconds i 0

  abbrev heard_at : ℕ → List ℕ
  heard_at i = octets_at x.lengths x.octets i

  -- what the mission's words hold after the first i items
  unfoldable pub items_held : ℕ → Lent State
  items_held zero = l
  items_held (suc i) = held_in b (items_held i) rs (port_at i) (slot_at i) (second_at i) (heard_at i) output_room

  -- what item i is answered
  abbrev pub answer_at : ℕ → ℕ
  answer_at i = answered_in b (items_held i) rs (port_at i) (second_at i) (heard_at i) output_room

  -- the answers, and the output, after the first i items
  unfoldable pub items_answered : List ℕ → ℕ → List ℕ
  items_answered answers zero = answers
  items_answered answers (suc i) = set (items_answered answers i) i (answer_at i)

  unfoldable pub items_sent : List ℕ → ℕ → List ℕ
  items_sent output zero = output
  items_sent output (suc i) =
      pasted (items_sent output i) (output_room * i) (sent_in b (items_held i) rs (port_at i) (second_at i) (heard_at i) (room_at output i))

-- how many items are heard: all, or none where the whole call is refused
abbrev pub items_heard : ℕ → ℕ → ℕ
items_heard refusal count = pick (eqb refusal 0) count 0

unfoldable pub many_refusal : List Record → Lists → List ℕ → List ℕ → ℕ
many_refusal rs x answers output =
    first_of
    (many_checks x.lengths (length rs) (length x.ports) (length x.slots) (length x.seconds) (length x.octets) (length answers)
    (length output))

abbrev pub many_heard : List Record → Lists → List ℕ → List ℕ → ℕ
many_heard rs x answers output = items_heard (many_refusal rs x answers output) (length x.lengths)
