-- What one datagram does to what is lent: b is the board's words, and l what the mission's words hold. One call hears one datagram (crate harpjuniper_receive), and
-- a batch as many as it has items (crate batch). Assumes nothing.
use Rattle.std.specs.Prelude.{ℕ, List, length}
use Rattle.checks.specs.Order.{pick}
use Rattle.routes.specs.declared.Record.{Record}
use Rattle.state.specs.Seen.{Board, State}
use Rattle.lent_state.specs.View.{Lent, by_lent, on_lent, told_board, too_long}
use Rattle.answers.specs.Answers.{receive_number}
use Rattle.relay.specs.Outgoing.{sent_output}
use Rattle.relay.specs.Received.{heard_ending, heard_memory, received_state}

-- a list over 512 records is refused by 21 even before the words are counted; words of the wrong number hold no port, 16
abbrev pub answered_in : List ℕ → Lent State → List Record → ℕ → ℕ → List ℕ → ℕ → ℕ
answered_in b l rs port second octets room =
    pick (too_long rs) 21
    (told_board (λ (x : Board). by_lent (λ (s : State). receive_number (heard_ending x s rs port second octets room)) 16 l) 16 b)

abbrev pub held_in : List ℕ → Lent State → List Record → ℕ → ℕ → ℕ → List ℕ → ℕ → Lent State
held_in b l rs port slot second octets room =
    told_board
    (λ (x : Board).
    on_lent
    (λ (s : State).
    received_state x s (record { 0 = slot }) (heard_memory x s rs port second octets room) (heard_ending x s rs port second octets room)) l) l b

abbrev pub sent_in : List ℕ → Lent State → List Record → ℕ → ℕ → List ℕ → List ℕ → List ℕ
sent_in b l rs port second octets output =
    told_board
    (λ (x : Board). by_lent (λ (s : State). sent_output (heard_ending x s rs port second octets (length output)) octets output) output l) output b
