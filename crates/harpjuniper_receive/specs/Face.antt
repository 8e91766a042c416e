-- What receiving answers, leaves and sends on, of the words lent: page 01, "One received datagram, step by step"; page 02, W-208 and W-207. b is
-- the board's words, w the mission's. Assumes nothing.
use Rattle.std.specs.Prelude.{ℕ, ◌≡◌, List, length}
use Rattle.routes.specs.declared.Record.{Record}
use Rattle.state.specs.Seen.{State}
use Rattle.lent_state.specs.View.{Lent, lent}
use Rattle.relay.specs.Hearing.{answered_in, held_in, sent_in}

unfoldable pub receive_answer : List ℕ → List ℕ → List Record → ℕ → ℕ → List ℕ → ℕ → ℕ
receive_answer b w rs port second octets room = answered_in b (lent w) rs port second octets room

unfoldable pub receive_words : List ℕ → List ℕ → List Record → ℕ → ℕ → ℕ → List ℕ → ℕ → Lent State
receive_words b w rs port slot second octets room = held_in b (lent w) rs port slot second octets room

unfoldable pub receive_output : List ℕ → List ℕ → List Record → ℕ → ℕ → List ℕ → List ℕ → List ℕ
receive_output b w rs port second octets output = sent_in b (lent w) rs port second octets output

-- the contract: what is answered, and the words and the output that are left
abbrev pub Receives : List ℕ → List ℕ → List Record → ℕ → ℕ → ℕ → List ℕ → List ℕ → ℕ → List ℕ → List ℕ → Type 0
Receives b w rs port slot second octets output answer words left =
    (answer ≡ receive_answer b w rs port second octets (length output))
    × ((lent words ≡ receive_words b w rs port slot second octets (length output)) × (left ≡ receive_output b w rs port second octets output))
