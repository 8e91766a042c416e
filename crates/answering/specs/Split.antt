-- Answering in two steps, with the scan of the list of routes between them, as receiving is (crate relay). b is the board's words, w the mission's. Assumes nothing.
use Rattle.std.specs.Prelude.{ℕ, ◌≡◌, List, eqb, ltb}
use Rattle.checks.specs.Order.{pick}
use Rattle.sets.specs.Limits.{route_places}
use Rattle.state.specs.Seen.{Board, State, seated}
use Rattle.state.specs.Layout.{decode_board, decode}
use Rattle.lent_state.specs.View.{Lent, told_both, changed_both}
use Rattle.listing.specs.declared.Query.{Query}
use Rattle.listing.specs.declared.Scan.{Scan}
use Rattle.listing.specs.declared.Sought.{Sought}
use Rattle.listing.specs.declared.Sought.TheVariants.{Nothing, Best, Same}
use Rattle.answers.specs.Answers.{reply_number}
use Rattle.relay.specs.Split.{way_in}
use Rattle.replies.specs.Reply.{no_answer}
use Rattle.replies.specs.Replied.{answering_of, replied_to, replied_output}
use Rattle.replies.specs.declared.Answering.{Answering}
use Rattle.replies.specs.declared.sending.Replied.{Replied}
use Rattle.answering.specs.Echoed.{replied_state}

-- ---- before: a list over 512 records is refused by 21 even before the words are counted; words of the wrong number hold no port, 16
unfoldable pub answering_in : List ℕ → List ℕ → ℕ → ℕ → List ℕ → ℕ → Answering
answering_in b w count port octets room =
    pick (ltb route_places count) (no_answer 21)
    (told_both (λ (x : Board) (s : State). answering_of (seated x s) s.number x.drop port octets room) (no_answer 16) b w)

-- what is sought where so many replies are made: nothing, or the best route. There is no more than one; of any other number the same entry is sought
abbrev pub sought_by : ℕ → Sought
sought_by made = pick (eqb made 0) Nothing (pick (eqb made 1) Best Same)

-- what is asked of the list: the best route to the reply's destination, where one is made
abbrev pub query_of : Answering → Query
query_of a =
    record {
      refusal = a.refusal;
      sought = sought_by a.made;
      address = a.destination.0;
      mask = 0;
      mission = a.number;
      own = a.ready;
    }

-- ---- after: with the route that the scan found, if any
unfoldable pub replied_after : List ℕ → List ℕ → Answering → Scan → ℕ → Replied
replied_after b w a s room = replied_to (seated (decode_board b) (decode w)) a (way_in s) room

abbrev pub number_for : Replied → ℕ
number_for e = reply_number e.refusal e.ruling e.octets

abbrev pub words_after : List ℕ → List ℕ → ℕ → Answering → Scan → ℕ → Lent State
words_after b w slot a s room = changed_both (λ (x : Board) (y : State). replied_state x y (record { 0 = slot }) (replied_after b w a s room)) b w

abbrev pub output_after : List ℕ → List ℕ → List ℕ → List ℕ → Answering → Scan → ℕ → List ℕ
output_after b w octets output a s room = replied_output a (replied_after b w a s room) octets output

-- what is asked was asked of these words and octets, with this room: by whatever count of routes, and whatever port
pub record Following (b w octets : List ℕ) (room : ℕ) (a : Answering) : Type 0 where
  pub count : ℕ
  pub port : ℕ
  pub asked : a ≡ answering_in b w count port octets room
