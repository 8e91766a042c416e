-- A turn of the batch's loop: one item is judged, its route looked up, and the verdict carried out. What no item changes, the names of the board's ports, is looked
-- at once, in the plan (page 02, W-201: "Crossing the C boundary per datagram is too dear"). Assumes nothing.
use Rattle.std.specs.Prelude.{ℕ, suc, ◌+◌, ◌*◌, ◌<◌, ◌≤◌, List, ◌≡◌, length, get_or, set}
use Rattle.checks.specs.Order.{first_of}
use Rattle.octets.specs.Octets.{pasted}
use Rattle.state.specs.Seen.{ports_seen}
use Rattle.state.specs.Layout.{board_words, decode_board, mission_words, decode}
use Rattle.lent_state.specs.View.{lent}
use Rattle.listing.specs.declared.Scan.{Scan}
use Rattle.listing.specs.Scan.{scan_of}
use Rattle.routes.specs.declared.Record.{Record}
use Rattle.survey.specs.Names.{no_names, NamesOf}
use Rattle.survey.specs.declared.names.Names.{Names}
use Rattle.judge.specs.declared.Asked.{Asked}
use Rattle.judge.specs.Ending.{output_room}
use Rattle.relay.specs.Split.{Naming, asked_of, query_of, answer_after, words_after, output_after, Following}
use Rattle.batch.specs.Items.{start_of, octets_at, room_at, many_checks}
use Rattle.batch.specs.Many.{items_heard}
use Rattle.batch.specs.declared.Plan.{Plan}
use Rattle.batch.specs.declared.Progress.{Progress}

abbrev pub begun_progress : Progress
begun_progress = record { from = 0 }

-- ---- what the steps of a turn ask of each other, of the board's words b and of what the mission's words w, the answers and the output are at that time
-- item i is one of these, and its octets lie within those lent
pub record ItemWithin (lengths : List ℕ) (octets : ℕ) (i : ℕ) (at : Progress) : Type 0 where
  pub inside : i < length lengths
  pub stands : at.from ≡ start_of lengths i
  pub ends : start_of lengths (suc i) ≤ octets

-- the names of the ports that the mission sees on the board, looked at; none where the words are of the wrong number
pub record NamesIn (b w : List ℕ) (k : Names) : Type 0 where
  pub right : length b ≡ board_words → length w ≡ mission_words → NamesOf (ports_seen (decode w).number (decode_board b)) k
  pub wrong_board : (length b ≡ board_words → ⊥) → k ≡ no_names
  pub wrong_mission : (length w ≡ mission_words → ⊥) → k ≡ no_names

-- the names in a plan: a call that is refused asks for none
pub record NamesPlanned (b w : List ℕ) (refusal : ℕ) (k : Names) : Type 0 where
  pub heard : refusal ≡ 0 → NamesIn b w k
  pub refused : (refusal ≡ 0 → ⊥) → k ≡ no_names

-- the plan: what refuses the whole call, how many items are heard, and the names of the ports
abbrev pub Planned : List ℕ → List ℕ → List ℕ → ℕ → ℕ → ℕ → ℕ → ℕ → ℕ → ℕ → Plan → Type 0
Planned b w lengths routes ports slots seconds octets answers output p =
    (p.refusal ≡ first_of (many_checks lengths routes ports slots seconds octets answers output))
    × ((p.items ≡ items_heard p.refusal (length lengths)) × NamesPlanned b w p.refusal p.names)

abbrev pub Askable : List ℕ → List ℕ → List ℕ → List ℕ → List ℕ → List ℕ → ℕ → Progress → Plan → Type 0
Askable b w lengths ports seconds octets i at p =
    ItemWithin lengths (length octets) i at
    × ((length ports ≡ length lengths) × ((length seconds ≡ length lengths) × Naming b w p.names))

-- what one datagram is asked, on the stretch of octets of item i
abbrev pub Asks : List ℕ → List ℕ → ℕ → List ℕ → List ℕ → List ℕ → List ℕ → ℕ → Asked → Type 0
Asks b w routes lengths ports seconds octets i a =
    a ≡ asked_of b w routes (get_or ports i 0) (get_or seconds i 0) (octets_at lengths octets i) output_room

abbrev pub Finishable : List ℕ → List ℕ → List ℕ → List ℕ → List ℕ → List ℕ → List ℕ → List ℕ → ℕ → Progress → Asked → Type 0
Finishable b w lengths slots seconds octets answers output i at a =
    ItemWithin lengths (length octets) i at
    × ((length slots ≡ length lengths)
    × ((length seconds ≡ length lengths)
    × ((length answers ≡ length lengths)
    × ((output_room * suc i ≤ length output) × Following b w (get_or seconds i 0) (octets_at lengths octets i) output_room a))))

-- and what becomes of it: the words, the answer in its place, and the output in its stretch
abbrev pub Finishes : List ℕ → List ℕ → List ℕ → List ℕ → List ℕ → List ℕ → List ℕ → List ℕ → ℕ → Progress → Asked → Scan → Progress → List ℕ → List ℕ → List ℕ → Type 0
Finishes b w lengths slots seconds octets answers output i at a s next words told left =
    (next.from ≡ at.from + get_or lengths i 0)
    × ((lent words ≡ words_after b w (get_or slots i 0) (get_or seconds i 0) a s)
    × ((told ≡ set answers i (answer_after b w a s))
    × (left ≡ pasted output (output_room * i) (output_after b w (octets_at lengths octets i) (room_at output i) a s))))

-- ---- a turn as a whole: what it asks, and what it does, with the scan of the list between
abbrev pub Hearable : List ℕ → List ℕ → ℕ → List ℕ → List ℕ → List ℕ → List ℕ → List ℕ → List ℕ → List ℕ → ℕ → Progress → Plan → Type 0
Hearable b w routes lengths ports slots seconds octets answers output i at p =
    Askable b w lengths ports seconds octets i at p
    × ((a : Asked) → Asks b w routes lengths ports seconds octets i a → Finishable b w lengths slots seconds octets answers output i at a)

abbrev pub ItemHeard : List ℕ → List ℕ → List Record → List ℕ → List ℕ → List ℕ → List ℕ → List ℕ → List ℕ → List ℕ → ℕ → Progress → Progress → List ℕ → List ℕ → List ℕ → Type 0
ItemHeard b w rs lengths ports slots seconds octets answers output i at next words told left =
    let a = asked_of b w (length rs) (get_or ports i 0) (get_or seconds i 0) (octets_at lengths octets i) output_room in
    Finishes b w lengths slots seconds octets answers output i at a (scan_of (query_of a) rs) next words told left
