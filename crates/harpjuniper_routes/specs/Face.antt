-- What the calls on a list of routes answer, and the list that they leave: page 01, "Settings"; page 02, W-202 and W-208. b is the board's words, m the
-- mission's, rs the list as lent. A list over 512 records is refused by 21 before all else (docs/DECISIONS.md). Assumes nothing.
use Rattle.std.specs.Prelude.{ℕ, ◌≡◌, List, length}
use Rattle.checks.specs.Order.{pick, first_of}
use Rattle.checks.specs.Answer.{refusal_number}
use Rattle.routes.specs.declared.Record.{Record}
use Rattle.routes.specs.Records.{record_at}
use Rattle.state.specs.Seen.{Board, State}
use Rattle.lent_state.specs.View.{told_board, told_both, too_long}
use Rattle.lent_state.specs.Read.{word_answer, place_answer}
use Rattle.listing.specs.Listed.{seen}
use Rattle.refusals.specs.Lists.{route_checks, clear_route_checks}
use Rattle.adjust.specs.Settled.{new_record, settled_route, cleared_route}
use Rattle.route_calls.specs.Search.{search_answer}
use Rattle.route_calls.specs.Calls.{record_words}

-- the route that an address takes, as the mission sees the list
unfoldable pub search_told : List ℕ → List ℕ → List Record → ℕ → ℕ
search_told b m rs a =
    pick (too_long rs) 21 (told_both (λ (x : Board) (s : State). search_answer (seen x s rs) (record { 0 = a })) 21 b m)

-- word i of the record at a place, as it stands
unfoldable pub route_word_told : List Record → ℕ → ℕ → ℕ
route_word_told rs place i = pick (too_long rs) (refusal_number 21) (place_answer place (length rs) (word_answer (record_words (record_at rs place)) i))

-- ---- the contracts
abbrev pub Searches : List ℕ → List ℕ → List Record → ℕ → ℕ → Type 0
Searches b m rs a answer = answer ≡ search_told b m rs a

abbrev pub SetsRoute : List ℕ → List Record → ℕ → ℕ → ℕ → ℕ → ℕ → ℕ → ℕ → ℕ → List Record → Type 0
SetsRoute b rs i prefix mask port availability capabilities mission answer rs' =
    (answer ≡ told_board (λ (y : Board). first_of (route_checks y rs i (new_record prefix mask port availability capabilities mission))) 21 b)
    × (rs' ≡ told_board (λ (y : Board). settled_route y rs i (new_record prefix mask port availability capabilities mission)) rs b)

abbrev pub ClearsRoute : List Record → ℕ → ℕ → List Record → Type 0
ClearsRoute rs i answer rs' = (answer ≡ first_of (clear_route_checks rs i)) × (rs' ≡ cleared_route rs i)

abbrev pub ReadsRouteWord : List Record → ℕ → ℕ → ℕ → Type 0
ReadsRouteWord rs place i answer = answer ≡ route_word_told rs place i
