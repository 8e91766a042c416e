-- Receiving in two steps, with the scan of the list of routes between them: the list is lent, and no function but the scan and the exported call sees it
-- (page 02, W-208). b is the board's words, w the mission's. Assumes nothing.
use Rattle.std.specs.Prelude.{ℕ, ◌≡◌, Bool, List, ltb, length, Option}
use Rattle.std.specs.Option.{option_map}
use Rattle.checks.specs.Order.{pick}
use Rattle.address.specs.declared.Slot.{Slot}
use Rattle.sets.specs.Limits.{route_places}
use Rattle.sets.specs.Sets.{only_port}
use Rattle.state.specs.Seen.{Board, State, seated}
use Rattle.state.specs.Layout.{board_words, decode_board, mission_words, decode}
use Rattle.lent_state.specs.View.{Lent, told_both, changed_both}
use Rattle.verdict.specs.declared.Way.{Way}
use Rattle.survey.specs.declared.names.Names.{Names}
use Rattle.listing.specs.declared.Sought.{Sought}
use Rattle.listing.specs.declared.Sought.TheVariants.{Nothing, Best}
use Rattle.listing.specs.declared.Query.{Query}
use Rattle.listing.specs.declared.Match.{Match}
use Rattle.listing.specs.declared.Scan.{Scan}
use Rattle.judge.specs.declared.Asked.{Asked}
use Rattle.judge.specs.declared.Ending.{Ending}
use Rattle.judge.specs.Ending.{refused_by}
use Rattle.judge.specs.Asked.{NamesSeen, refused_asked, datagram_asked, searched_in, address_in, finished_of}
use Rattle.judge.specs.Remembered.{refused_memory, remembered_by}
use Rattle.answers.specs.Answers.{receive_number}
use Rattle.relay.specs.Outgoing.{sent_output}
use Rattle.relay.specs.Received.{received_state}

-- the names that the ports were given beforehand, if any were, are those of the ports that this mission sees on this board
abbrev pub Naming : List ℕ → List ℕ → Names → Type 0
Naming b w k = length b ≡ board_words → length w ≡ mission_words → NamesSeen b w k

-- ---- before: a list over 512 records is refused by 21 even before the words are counted; words of the wrong number hold no port, 16
unfoldable pub asked_of : List ℕ → List ℕ → ℕ → ℕ → ℕ → List ℕ → ℕ → Asked
asked_of b w count port second octets room =
    pick (ltb route_places count) (refused_asked 21)
    (told_both (λ (x : Board) (s : State). datagram_asked (seated x s) s.number port second octets room) (refused_asked 16) b w)

abbrev pub best_if : Bool → Sought
best_if searched = pick searched Best Nothing

-- what is asked of the list: the best route, where the route line decides
abbrev pub query_of : Asked → Query
query_of a =
    record {
      refusal = a.refusal;
      sought = best_if (searched_in a);
      address = address_in a.destination;
      mask = 0;
      mission = a.number;
      own = a.ready;
    }

-- ---- after: the route that the scan found, if any
abbrev pub way_in : Scan → Option Way
way_in s = option_map (λ (found : Match). record { port = only_port found.port; code = found.capabilities }) s.found

unfoldable pub ending_after : List ℕ → List ℕ → Asked → Scan → Ending
ending_after b w a s = finished_of (seated (decode_board b) (decode w)) a (way_in s)

abbrev pub answer_after : List ℕ → List ℕ → Asked → Scan → ℕ
answer_after b w a s = receive_number (ending_after b w a s)

abbrev pub words_after : List ℕ → List ℕ → ℕ → ℕ → Asked → Scan → Lent State
words_after b w slot second a s =
    changed_both (λ (x : Board) (y : State). received_state x y (record { 0 = slot }) (remembered_by second a y.memory) (ending_after b w a s)) b w

abbrev pub output_after : List ℕ → List ℕ → List ℕ → List ℕ → Asked → Scan → List ℕ
output_after b w octets output a s = sent_output (ending_after b w a s) octets output

-- a refusal that counts, and whose second is accepted: not 16, 17, 21 or 29
abbrev pub Counted : ℕ → Type 0
Counted n = (n ≡ 16 → ⊥) × ((n ≡ 17 → ⊥) × ((n ≡ 21 → ⊥) × (n ≡ 29 → ⊥)))

abbrev pub words_refused : List ℕ → List ℕ → Slot → ℕ → ℕ → Lent State
words_refused b w slot second n =
    changed_both (λ (x : Board) (y : State). received_state x y slot (refused_memory second n y.memory) (refused_by n)) b w

-- what is asked was asked of these words and octets, in this second and with this room: by whatever count of routes, and whatever port
pub record Following (b w : List ℕ) (second : ℕ) (octets : List ℕ) (room : ℕ) (a : Asked) : Type 0 where
  pub count : ℕ
  pub port : ℕ
  pub asked : a ≡ asked_of b w count port second octets room
