-- Judged, scanned and finished: where the words hold a board and a mission's state, the ending, and what is remembered, are those of page 01's relay as
-- the mission sees it with the list. Assumes nothing.
use Rattle.std.specs.Prelude.{None}
use Prim.Native.Nat.{ℕ}
use mathlib.Core.Path.{◌≡◌, refl, sym, ap, ◌∙◌}
use mathlib.Core.Bool.{Bool, true, false}
use mathlib.Core.List.{List}
use lib.ListN.{length}
use Rattle.checks.specs.Order.{pick}
use Rattle.sets.specs.Sets.{only_port}
use Rattle.routes.specs.declared.Record.{Record}
use Rattle.routes.specs.declared.Route.{Route}
use Rattle.routes.specs.Search.{search_of}
use Rattle.state.specs.Relay.{Relay, ready_of, all_routes}
use Rattle.state.specs.Seen.{Board, State, ports_seen, seated}
use Rattle.state.specs.Layout.{board_words, mission_words, decode_board, decode}
use Rattle.lent_state.specs.View.{too_long}
use Rattle.lent_state.proofs.Calls.{both_held_told}
use Rattle.header.specs.Read.{read_of, Read}
use Rattle.header.specs.declared.Header.{Header}
use Rattle.checks.specs.Told.{Good, Refused}
use Rattle.meaning.specs.Names.{aim_of}
use Rattle.meaning.specs.declared.Aim.{Aim}
use Rattle.meaning.specs.declared.Aim.TheVariants as aim
use Rattle.lookup.specs.ForTarget.{way_of}
use Rattle.listing.specs.declared.Scan.{Scan}
use Rattle.listing.specs.Scan.{scan_of}
use Rattle.listing.specs.Listed.{routes_seen, seen}
use Rattle.listing.proofs.Loop.{scan_nothing}
use Rattle.listing.proofs.Searched.{search_found}
use Rattle.judge.specs.declared.Asked.{Asked}
use Rattle.judge.specs.Asked.{searched_in, refused_asked, datagram_asked, finished_of}
use Rattle.judge.specs.Ruling.{flood_for}
use Rattle.judge.specs.Ending.{or_else, call_checks, arrival_at, ending_of}
use Rattle.judge.specs.Remembered.{header_memory, octets_memory, memory_of, remembered_by}
use Rattle.judge.specs.declared.ruling.Arrival.{Arrival}
use Rattle.judge.proofs.Finished.{finished_is}
use Rattle.judge.proofs.Searching.{search_asks}
use Rattle.judge.proofs.Remembering.{remembered_is}
use Rattle.relay.specs.Received.{heard_ending, heard_memory}
use Rattle.relay.specs.Split.{asked_of, best_if, query_of, way_in, ending_after}

-- what is remembered is asked of no route
module _ (r : Relay) (rs : List Route) (second : ℕ) where
  flood_same : (at : Arrival) (x : Aim) (h : Header) → flood_for r at x h ≡ flood_for (all_routes r rs) at x h
  flood_same at (aim.Node a) h = refl
  flood_same at (aim.Path p) h = refl
  flood_same at aim.Uncarried h = refl

  octets_same : (at : Arrival) (x : Read) → octets_memory r at second x ≡ octets_memory (all_routes r rs) at second x
  unfolding header_memory
  octets_same at (Good h) = simp (flood_same at (aim_of at.address.0 h.fields.addresses) h)
  octets_same at (Refused n) = refl

  memory_same : (port : ℕ) (octets : List ℕ) (room : ℕ) → memory_of r port second octets room ≡ memory_of (all_routes r rs) port second octets room
  unfolding memory_of call_checks
  memory_same port octets room = simp (octets_same (arrival_at r port) (read_of octets))

module _ (x : Board) (s : State) (rs : List Record) (port second : ℕ) (octets : List ℕ) (room : ℕ) where
  abbrev asked : Asked
  asked = datagram_asked (seated x s) s.number port second octets room

  abbrev scanned : Scan
  scanned = scan_of (query_of asked) rs

  -- the scan found what the search finds
  way_is : searched_in asked ≡ true → way_in scanned ≡ way_of (search_of (record { 0 = (query_of asked).address }) (routes_seen x s.number rs))
  way_is e =
      let asks = search_asks (seated x s) s.number port second octets room e in
      let own : asked.ready ≡ ready_of (ports_seen asked.number x) = asks.1 ∙ ap (λ (n : ℕ). ready_of (ports_seen n x)) (sym asks.0) in
      sym (search_found x (query_of asked) own (ap best_if e) rs way_of (λ (place ones to code : ℕ). record { port = only_port to; code = code }) refl (λ place ones r. refl))
      ∙ ap (λ (n : ℕ). way_of (search_of (record { 0 = (query_of asked).address }) (routes_seen x n rs))) asks.0

  -- nothing is found where nothing is sought
  no_way : searched_in asked ≡ false → way_in scanned ≡ None
  no_way e = ap way_in (scan_nothing rs (query_of asked) (ap best_if e))

  finished : finished_of (seated x s) asked (way_in scanned) ≡ ending_of (seen x s rs) port second octets room
  finished = finished_is (seated x s) (routes_seen x s.number rs) s.number (way_in scanned) port second octets room (way_is, no_way)

  -- unless the list is too long
  unless_long : (t : Bool)
      → finished_of (seated x s) (pick t (refused_asked 21) asked) (way_in (scan_of (query_of (pick t (refused_asked 21) asked)) rs))
      ≡ or_else (pick t 21 0) (ending_of (seen x s rs) port second octets room)
  unfolding finished_of
  unless_long true = refl
  unless_long false = finished

  kept_unless_long : (t : Bool) → remembered_by second (pick t (refused_asked 21) asked) s.memory
      ≡ pick t s.memory (memory_of (seen x s rs) port second octets room)
  unfolding remembered_by
  kept_unless_long true = refl
  kept_unless_long false =
      remembered_is (seated x s) s.number second port octets room
      ∙ memory_same (seated x s) (routes_seen x s.number rs) second port octets room

module _ (b w : List ℕ) (rs : List Record) (port second : ℕ) (octets : List ℕ) (room : ℕ) (right-board : length b ≡ board_words)
    (right : length w ≡ mission_words) where
  abbrev here : Asked
  here = datagram_asked (seated (decode_board b) (decode w)) (decode w).number port second octets room

  asked_here : asked_of b w (length rs) port second octets room ≡ pick (too_long rs) (refused_asked 21) here
  unfolding asked_of
  asked_here =
      ap (λ (a : Asked). pick (too_long rs) (refused_asked 21) a)
      (sym
      (both_held_told b w right-board right (λ (x : Board) (s : State). datagram_asked (seated x s) s.number port second octets room) (refused_asked 16)
      refl))

  pub joined : ending_after b w (asked_of b w (length rs) port second octets room) (scan_of (query_of (asked_of b w (length rs) port second octets room)) rs)
      ≡ heard_ending (decode_board b) (decode w) rs port second octets room
  unfolding ending_after heard_ending
  joined =
      ap (λ (a : Asked). finished_of (seated (decode_board b) (decode w)) a (way_in (scan_of (query_of a) rs))) asked_here
      ∙ unless_long (decode_board b) (decode w) rs port second octets room (too_long rs)

  pub joined_memory : remembered_by second (asked_of b w (length rs) port second octets room) (decode w).memory
      ≡ heard_memory (decode_board b) (decode w) rs port second octets room
  unfolding heard_memory
  joined_memory =
      ap (λ (a : Asked). remembered_by second a (decode w).memory) asked_here
      ∙ kept_unless_long (decode_board b) (decode w) rs port second octets room (too_long rs)
