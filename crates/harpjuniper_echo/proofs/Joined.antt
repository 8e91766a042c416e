-- Made, scanned and sent: where the words hold a board and a mission's state, the reply is that of page 01's relay as the mission sees it with the list.
-- Assumes nothing.
use Rattle.std.specs.Prelude.{Option}
use Prim.Native.Nat.{ℕ}
use mathlib.Core.Path.{◌≡◌, refl, sym, ap, ◌∙◌}
use mathlib.Core.Bool.{Bool, true, false, not}
use mathlib.Core.List.{List}
use lib.Dec.{eqb}
use lib.ListN.{length}
use borrow.Author.Tests.{eqb-true, eqb-false}
use Rattle.checks.specs.Order.{pick}
use Rattle.sets.specs.Sets.{only_port}
use Rattle.routes.specs.declared.Record.{Record}
use Rattle.state.specs.Relay.{ready_of}
use Rattle.state.specs.Seen.{Board, State, ports_seen, seated}
use Rattle.state.specs.Layout.{board_words, mission_words, decode_board, decode}
use Rattle.lent_state.specs.View.{too_long}
use Rattle.lent_state.proofs.Calls.{both_held_told}
use Rattle.verdict.specs.declared.Target.TheVariants.{Route}
use Rattle.verdict.specs.declared.Way.{Way}
use Rattle.lookup.specs.ForTarget.{way_of, way_for}
use Rattle.listing.specs.Scan.{scan_of}
use Rattle.listing.specs.Listed.{routes_seen, seen}
use Rattle.listing.proofs.Searched.{search_found}
use Rattle.routes.specs.Search.{search_of}
use Rattle.replies.specs.Reply.{no_answer}
use Rattle.replies.specs.Replied.{answering_of, replied_to}
use Rattle.replies.specs.declared.Answering.{Answering}
use Rattle.replies.proofs.Routes.{answering_routes, ended_routes}
use Rattle.relay.specs.Split.{way_in}
use Rattle.answering.specs.Echoed.{echo_answering, echo_reply}
use Rattle.answering.specs.Split.{answering_in, sought_by, query_of, replied_after}
use Rattle.answering.proofs.Searching.{searches, none_same}

module _ (x : Board) (s : State) (rs : List Record) (port : ℕ) (octets : List ℕ) (room : ℕ) where
  abbrev asked : Answering
  asked = answering_of (seated x s) s.number x.drop port octets room

  abbrev way_to : Answering → Option Way
  way_to a = way_for (seen x s rs) Route a.destination

  -- the scan found what the search finds
  way_is : (asked.made ≡ 0 → ⊥) → way_in (scan_of (query_of asked) rs) ≡ way_to asked
  way_is made =
      let asks = searches (seated x s) s.number x.drop port octets room made in
      let own : asked.ready ≡ ready_of (ports_seen asked.number x) = asks.1.1 ∙ ap (λ (n : ℕ). ready_of (ports_seen n x)) (sym asks.1.0) in
      sym (search_found x (query_of asked) own (ap sought_by asks.0) rs way_of (λ (place ones to code : ℕ). record { port = only_port to; code = code }) refl (λ place ones r. refl))
      ∙ ap (λ (n : ℕ). way_of (search_of asked.destination (routes_seen x n rs))) asks.1.0

  replied : replied_to (seated x s) asked (way_in (scan_of (query_of asked) rs)) room ≡ replied_to (seen x s rs) asked (way_to asked) room
  replied = by_made (eqb asked.made 0) refl
    where
      by_made : (t : Bool) → eqb asked.made 0 ≡ t
          → replied_to (seated x s) asked (way_in (scan_of (query_of asked) rs)) room ≡ replied_to (seen x s rs) asked (way_to asked) room
      by_made true e =
          none_same (seated x s) (seen x s rs) asked (way_in (scan_of (query_of asked) rs)) (way_to asked) room (eqb-true asked.made 0 e)
      by_made false e =
          ap (λ (w : Option Way). replied_to (seated x s) asked w room) (way_is (eqb-false asked.made 0 e))
          ∙ sym (ended_routes (seated x s) (routes_seen x s.number rs) asked (way_to asked) room)

  -- unless the list is too long
  unless_long : (t : Bool)
      → replied_to (seated x s) (pick t (no_answer 21) asked) (way_in (scan_of (query_of (pick t (no_answer 21) asked)) rs)) room
      ≡ replied_to (seen x s rs) (pick t (no_answer 21) asked) (way_to (pick t (no_answer 21) asked)) room
  unless_long true =
      none_same (seated x s) (seen x s rs) (no_answer 21) (way_in (scan_of (query_of (no_answer 21)) rs)) (way_to (no_answer 21)) room refl
  unless_long false = replied

  -- and the reply is made without the routes
  answering_is : pick (too_long rs) (no_answer 21) asked ≡ echo_answering x s rs port octets room
  unfolding echo_answering
  answering_is =
      ap (λ (a : Answering). pick (too_long rs) (no_answer 21) a)
      (sym (answering_routes (seated x s) (routes_seen x s.number rs) s.number x.drop port octets room))

module _ (b w : List ℕ) (rs : List Record) (port : ℕ) (octets : List ℕ) (room : ℕ) (right-board : length b ≡ board_words)
    (right : length w ≡ mission_words) where
  abbrev here : Answering
  here = answering_of (seated (decode_board b) (decode w)) (decode w).number (decode_board b).drop port octets room

  asked_here : answering_in b w (length rs) port octets room ≡ pick (too_long rs) (no_answer 21) here
  unfolding answering_in
  asked_here =
      ap (λ (a : Answering). pick (too_long rs) (no_answer 21) a)
      (sym
      (both_held_told b w right-board right (λ (x : Board) (s : State). answering_of (seated x s) s.number x.drop port octets room) (no_answer 16)
      refl))

  pub joined_asked : answering_in b w (length rs) port octets room ≡ echo_answering (decode_board b) (decode w) rs port octets room
  joined_asked = asked_here ∙ answering_is (decode_board b) (decode w) rs port octets room

  pub joined : replied_after b w (answering_in b w (length rs) port octets room) (scan_of (query_of (answering_in b w (length rs) port octets room)) rs) room
      ≡ echo_reply (decode_board b) (decode w) rs port octets room
  unfolding replied_after echo_reply
  joined =
      ap (λ (a : Answering). replied_to (seated (decode_board b) (decode w)) a (way_in (scan_of (query_of a) rs)) room) asked_here
      ∙ unless_long (decode_board b) (decode w) rs port octets room (too_long rs)
      ∙ ap (λ (a : Answering). replied_to (seen (decode_board b) (decode w) rs) a (way_to (decode_board b) (decode w) rs port octets room a) room)
      (answering_is (decode_board b) (decode w) rs port octets room)
