-- The two halves of receiving, with the scan of the list between them, do to what is lent what hearing the datagram does. Assumes nothing.
use Rattle.std.specs.Prelude.{Option}
use Prim.Native.Nat.{ℕ}
use mathlib.Core.Path.{◌≡◌, refl, sym, ap, subst, ◌∙◌}
use mathlib.Core.Bool.{Bool, true, false}
use mathlib.Core.List.{List}
use lib.Dec.{eqb}
use lib.ListN.{length}
use borrow.Author.Tests.{eqb-true, eqb-false, eq-eqb}
use Rattle.checks.specs.Order.{pick}
use Rattle.routes.specs.declared.Record.{Record}
use Rattle.state.specs.Relay.{Memory, Relay}
use Rattle.state.specs.Seen.{Board, State, seated}
use Rattle.state.specs.Layout.{board_words, mission_words, decode_board, decode}
use Rattle.lent_state.specs.View.{Held, lent, told, changed, told_both, changed_both, too_long}
use Rattle.lent_state.proofs.Calls.{board_held_told, both_held_told, no_board_told, no_board_changed, no_mission_told, no_mission_changed}
use Rattle.verdict.specs.declared.Way.{Way}
use Rattle.listing.specs.Scan.{scan_of}
use Rattle.judge.specs.declared.Asked.{Asked}
use Rattle.judge.specs.declared.Ending.{Ending}
use Rattle.judge.specs.Asked.{refused_asked, datagram_asked, finished_of}
use Rattle.judge.specs.Ending.{refused_by}
use Rattle.judge.specs.Remembered.{remembered_by}
use Rattle.answers.specs.Answers.{ruling_parts, header_parts, receive_number}
use Rattle.next_leg.specs.Leg.{no_legs}
use Rattle.relay.specs.Outgoing.{sent_output}
use Rattle.relay.proofs.outgoing.Headers.{nothing_sent}
use Rattle.relay.specs.Received.{received_state, heard_ending, heard_memory}
use Rattle.relay.specs.Split.{asked_of, query_of, way_in, ending_after}
use Rattle.relay.specs.Hearing.{answered_in, held_in, sent_in}
use Rattle.relay.proofs.Joined.{joined, joined_memory}

-- a number that is 21 where a list is too long, and the other's where it is not
unless_long : (t : Bool) (n m : ℕ) → (t ≡ true → n ≡ 21) → n ≡ m → n ≡ pick t 21 m
unless_long true n m h e = h refl
unless_long false n m h e = e

module _ (b w : List ℕ) (rs : List Record) (port slot second : ℕ) (octets output : List ℕ) where
  abbrev asked : Asked
  asked = asked_of b w (length rs) port second octets (length output)

  abbrev ended : Ending
  ended = ending_after b w asked (scan_of (query_of asked) rs)

  abbrev heard : Board → State → Ending
  heard x s = heard_ending x s rs port second octets (length output)

  abbrev kept : Memory → Memory
  kept k = remembered_by second asked k

  abbrev heard_kept : Board → State → Memory
  heard_kept x s = heard_memory x s rs port second octets (length output)

  -- the three promises, at an ending
  abbrev Promised : Ending → Type 0
  Promised e =
      (receive_number e ≡ answered_in b (lent w) rs port second octets (length output))
      × ((changed_both (λ (x : Board) (s : State). received_state x s (record { 0 = slot }) (kept s.memory) e) b w
      ≡ held_in b (lent w) rs port slot second octets (length output))
      × (sent_output e octets output ≡ sent_in b (lent w) rs port second octets output))

  -- ---- the words hold a board and a mission's state
  module _ (right-board : length b ≡ board_words) (right : length w ≡ mission_words) where
    abbrev here : Ending
    here = heard (decode_board b) (decode w)

    long_here : too_long rs ≡ true → receive_number here ≡ 21
    unfolding heard_ending receive_number ruling_parts header_parts
    long_here h = rw h

    made : (h : Board → State → State) → Held (h (decode_board b) (decode w)) ≡ changed_both h b w
    unfolding changed lent
    made h = board_held_told b right-board (λ (x : Board). changed (h x) w) (lent w) (simp (eq-eqb (length w) mission_words right))

    -- two changes that agree on these
    same_change : (f g : Board → State → State) → f (decode_board b) (decode w) ≡ g (decode_board b) (decode w) → changed_both f b w ≡ changed_both g b w
    same_change f g e = sym (made f) ∙ (ap Held e ∙ made g)

    held_promised : Promised here
    unfolding told changed
    held_promised = (
      unless_long (too_long rs) (receive_number here) _ long_here
          (both_held_told b w right-board right (λ (x : Board) (s : State). receive_number (heard x s)) 16 refl),
      (
        same_change (λ (x : Board) (s : State). received_state x s (record { 0 = slot }) (kept s.memory) here)
            (λ (x : Board) (s : State). received_state x s (record { 0 = slot }) (heard_kept x s) (heard x s))
            (ap (λ (k : Memory). received_state (decode_board b) (decode w) (record { 0 = slot }) k here)
            (joined_memory b w rs port second octets (length output) right-board right)),
        both_held_told b w right-board right (λ (x : Board) (s : State). sent_output (heard x s) octets output) output refl,
      ),
    )

  -- a refusal sends nothing
  quiet : (n : ℕ) → sent_output (refused_by n) octets output ≡ output
  unfolding sent_output
  quiet n = sym (nothing_sent no_legs octets output 8)

  -- ---- they do not: nothing is asked, and nothing is written
  module _ (no_answer_lem : (A : Type 0) (f : Board → State → A) (d : A) → d ≡ told_both f d b w)
      (no_change : (f : Board → State → State) → lent w ≡ changed_both f b w) where
    nobody : (r : Relay) (t : Bool) (way : Option Way) → finished_of r (pick t (refused_asked 21) (refused_asked 16)) way ≡ refused_by (pick t 21 16)
    unfolding finished_of
    nobody r true way = refl
    nobody r false way = refl

    ended_nobody : ended ≡ refused_by (pick (too_long rs) 21 16)
    unfolding ending_after asked_of
    ended_nobody =
        ap (λ (a : Asked). finished_of (seated (decode_board b) (decode w)) (pick (too_long rs) (refused_asked 21) a) (way_in (scan_of (query_of asked) rs)))
        (sym (no_answer_lem Asked (λ (x : Board) (s : State). datagram_asked (seated x s) s.number port second octets (length output)) (refused_asked 16)))
        ∙ nobody (seated (decode_board b) (decode w)) (too_long rs) (way_in (scan_of (query_of asked) rs))

    number_is : (t : Bool) → receive_number (refused_by (pick t 21 16)) ≡ pick t 21 16
    unfolding receive_number ruling_parts header_parts
    number_is true = refl
    number_is false = refl

    other_promised : Promised (refused_by (pick (too_long rs) 21 16))
    unfolding told changed
    other_promised = (
      number_is (too_long rs) ∙ ap (λ (n : ℕ). pick (too_long rs) 21 n) (no_answer_lem ℕ (λ (x : Board) (s : State). receive_number (heard x s)) 16),
      (
        sym (no_change (λ (x : Board) (s : State). received_state x s (record { 0 = slot }) (kept s.memory) (refused_by (pick (too_long rs) 21 16))))
            ∙ no_change (λ (x : Board) (s : State). received_state x s (record { 0 = slot }) (heard_kept x s) (heard x s)),
        quiet (pick (too_long rs) 21 16) ∙ no_answer_lem (List ℕ) (λ (x : Board) (s : State). sent_output (heard x s) octets output) output,
      ),
    )

    other_ended : Promised ended
    other_ended = subst Promised (sym ended_nobody) other_promised

  -- answer, words and output
  pub promised : Promised ended
  promised = by_lengths (eqb (length b) board_words) (eqb (length w) mission_words) refl refl
    where
      by_lengths : (t u : Bool) → eqb (length b) board_words ≡ t → eqb (length w) mission_words ≡ u → Promised ended
      by_lengths true true e f =
          let held = eqb-true (length b) board_words e in
          let here = eqb-true (length w) mission_words f in
          subst Promised (sym (joined b w rs port second octets (length output) held here)) (held_promised held here)
      by_lengths true false e f =
          let wrong = eqb-false (length w) mission_words f in
          other_ended (λ (A : Type 0). no_mission_told b w wrong {A = A}) (no_mission_changed b w wrong)
      by_lengths false u e f =
          let wrong = eqb-false (length b) board_words e in
          other_ended (λ (A : Type 0). no_board_told b w wrong {A = A}) (no_board_changed b w wrong)
