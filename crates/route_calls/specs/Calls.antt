-- What a call on a list of routes seeks in it, and what it answers and writes once the list is scanned: page 01, "Settings"; page 02, W-202 and W-208.
-- A list over 512 records, and words of the wrong number, are refused by 21 before all else (docs/DECISIONS.md), and then nothing is sought. The
-- definitions read no list, only the number of its records and what a scan found; the crate harpjuniper_routes has what they come to over a list.
-- Assumes nothing.
use Rattle.std.specs.Prelude.{ℕ, Bool, List, [], ◌∷◌, eqb, ltb}
use Rattle.std.specs.Option.{option_map_or}
use Rattle.checks.specs.Order.{pick, Checks, first_of}
use Rattle.checks.specs.Answer.{refusal_number}
use Rattle.address.specs.Mask.{ones_of}
use Rattle.sets.specs.Limits.{route_places}
use Rattle.settings.specs.Refusals.{place_refused}
use Rattle.routes.specs.declared.Record.{Record}
use Rattle.routes.specs.Records.{empty_record}
use Rattle.state.specs.Relay.{ready_of}
use Rattle.state.specs.Seen.{Board, State, ports_seen, all_ports}
use Rattle.lent_state.specs.View.{told_board, told_both}
use Rattle.lent_state.specs.Read.{word_answer, place_answer}
use Rattle.listing.specs.declared.Sought.TheVariants.{Nothing, Best, Same}
use Rattle.listing.specs.declared.Query.{Query}
use Rattle.listing.specs.declared.Match.{Match}
use Rattle.listing.specs.declared.Scan.{Scan}
use Rattle.listing.specs.Listed.{checks_of}
use Rattle.listing.specs.Scan.{found_elsewhere}
use Rattle.route_calls.specs.declared.Order.{Order}
use Rattle.route_calls.specs.declared.Emptying.{Emptying}
use Rattle.route_calls.specs.Search.{search_parts}

-- "up to 512 records": so many are too many
abbrev pub too_many : ℕ → Bool
too_many count = ltb route_places count

-- nothing is sought
abbrev pub refused_query : ℕ → Query
refused_query n = record { refusal = n; sought = Nothing; address = 0; mask = 0; mission = 0; own = 0 }

-- ---- the search of a mission
-- the longest match among the mission's own routes
abbrev pub best_query : Board → State → ℕ → Query
best_query b s address =
    record { refusal = 0; sought = Best; address = address; mask = 0; mission = s.number; own = ready_of (ports_seen s.number b) }

unfoldable pub search_query : List ℕ → List ℕ → ℕ → ℕ → Query
search_query b w count address =
    pick (too_many count) (refused_query 21) (told_both (λ (x : Board) (s : State). best_query x s address) (refused_query 21) b w)

-- what a scan found, as C is told it
unfoldable pub scan_number : Scan → ℕ
scan_number s = option_map_or (λ (found : Match). search_parts 1 found.place (ones_of found.mask) found.port) s.found 0

unfoldable pub search_number : Query → Scan → ℕ
search_number q s = pick (eqb q.refusal 0) (scan_number s) q.refusal

-- ---- the operator's writing of a record
-- the ports of the mission that may use the route
unfoldable pub own_ports : List ℕ → ℕ → ℕ
own_ports w mission = told_board (λ (b : Board). ready_of (ports_seen mission b)) 0 w

-- the tests before that of the same entry
abbrev pub order_checks : Board → ℕ → ℕ → Record → ℕ → Checks
order_checks b count place x own = (too_many count, 21) ∷ (place_refused place count, 21) ∷ checks_of x (ready_of (all_ports b)) own

unfoldable pub order_refusal : List ℕ → ℕ → ℕ → Record → ℕ → ℕ
order_refusal w count place x own = told_board (λ (b : Board). first_of (order_checks b count place x own)) 21 w

abbrev pub order_of : List ℕ → ℕ → ℕ → Record → Order
order_of w count place x =
    record { refusal = order_refusal w count place x (own_ports w x.mission); place = place; own = own_ports w x.mission; route = x }

-- "same prefix, mask and mission", where nothing refuses the record yet
abbrev pub entry_query : Order → Query
entry_query o =
    record {
      refusal = 0;
      sought = Same;
      address = o.route.prefix;
      mask = o.route.mask;
      mission = o.route.mission;
      own = o.own;
    }

unfoldable pub same_query : Order → Query
same_query o = pick (eqb o.refusal 0) (entry_query o) (refused_query o.refusal)

-- 23 where another place has the entry
unfoldable pub order_answer : Order → Scan → ℕ
order_answer o s = pick (eqb o.refusal 0) (pick (found_elsewhere s o.place) 23 0) o.refusal

-- the record that is stored: the old one again where the writing is refused
unfoldable pub chosen_record : Order → Scan → Record → Record
chosen_record o s old = pick (eqb (order_answer o s) 0) o.route old

-- ---- the operator's emptying of a place
abbrev pub emptying_of : ℕ → ℕ → Emptying
emptying_of count place = record { refusal = first_of ((too_many count, 21) ∷ (place_refused place count, 21) ∷ []); place = place }

unfoldable pub cleared_record : Emptying → Record → Record
cleared_record e old = pick (eqb e.refusal 0) empty_record old

-- ---- a record as C reads it
abbrev pub record_words : Record → List ℕ
record_words x = x.filled ∷ x.prefix ∷ x.mask ∷ x.port ∷ x.availability ∷ x.capabilities ∷ x.mission ∷ []

unfoldable pub record_word : ℕ → ℕ → Record → ℕ → ℕ
record_word count place x i = pick (too_many count) (refusal_number 21) (place_answer place count (word_answer (record_words x) i))
