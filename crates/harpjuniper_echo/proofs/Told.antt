-- What the two halves of answering come to over the list, with the scan between them: the steps of the call give its promise. Assumes nothing.
use Rattle.std.specs.Prelude.{Option}
use Prim.Native.Nat.{ℕ}
use mathlib.Core.Path.{◌≡◌, refl, sym, ap, subst, ◌∙◌}
use mathlib.Core.Bool.{Bool, true, false}
use mathlib.Core.List.{List}
use lib.Dec.{eqb}
use lib.ListN.{length}
use borrow.Author.Tests.{eqb-true, eqb-false, eq-eqb}
use Rattle.checks.specs.Order.{pick}
use Rattle.routes.specs.declared.Record.{Record}
use Rattle.state.specs.Relay.{Relay}
use Rattle.state.specs.Seen.{Board, State, seated}
use Rattle.state.specs.Layout.{board_words, mission_words, decode_board, decode}
use Rattle.lent_state.specs.View.{Held, lent, changed, told_both, changed_both, too_long}
use Rattle.lent_state.proofs.Calls.{board_held_told, both_held_told, no_board_told, no_board_changed, no_mission_told, no_mission_changed}
use Rattle.verdict.specs.declared.Way.{Way}
use Rattle.listing.specs.declared.Query.{Query}
use Rattle.listing.specs.declared.Scan.{Scan}
use Rattle.listing.specs.Scan.{scan_of}
use Rattle.answers.specs.Answers.{ruling_parts, header_parts, reply_number}
use Rattle.replies.specs.Reply.{no_answer}
use Rattle.replies.specs.Replied.{answering_of, no_reply, replied_to, replied_output}
use Rattle.replies.specs.declared.Answering.{Answering}
use Rattle.replies.specs.declared.sending.Replied.{Replied}
use Rattle.relay.specs.Split.{way_in}
use Rattle.answering.specs.Echoed.{echo_answering, echo_reply, replied_state}
use Rattle.answering.specs.Split.{answering_in, query_of, replied_after, number_for, words_after, output_after, Following}
use Rattle.harpjuniper_echo.proofs.Joined.{joined_asked, joined}
use Rattle.harpjuniper_echo.specs.Face.{echo_answer, echo_words, echo_output, AnswersEcho}

-- what `after` ensures of the answer, the mission's words and the output
abbrev pub Carried : List ℕ → List ℕ → ℕ → List ℕ → List ℕ → ℕ → List ℕ → List ℕ → Answering → Scan → Type 0
Carried b w slot octets output answer words left a s =
    (answer ≡ number_for (replied_after b w a s (length output)))
    × ((lent words ≡ words_after b w slot a s (length output)) × (left ≡ output_after b w octets output a s (length output)))

pub follows : (b w octets : List ℕ) (room count port : ℕ) (a : Answering) → a ≡ answering_in b w count port octets room → Following b w octets room a
follows b w octets room count port a e = record { count = count; port = port; asked = e }

-- a number that is 21 where a list is too long, and the other's where it is not
unless_long : (t : Bool) (n m : ℕ) → (t ≡ true → n ≡ 21) → n ≡ m → n ≡ pick t 21 m
unless_long true n m h e = h refl
unless_long false n m h e = e

module _ (b w : List ℕ) (rs : List Record) (port slot : ℕ) (octets output : List ℕ) where
  abbrev asked : Answering
  asked = answering_in b w (length rs) port octets (length output)

  abbrev ended : Replied
  ended = replied_after b w asked (scan_of (query_of asked) rs) (length output)

  abbrev reply_to : Board → State → Replied
  reply_to x s = echo_reply x s rs port octets (length output)

  abbrev made_for : Board → State → Answering
  made_for x s = echo_answering x s rs port octets (length output)

  -- the three promises, at what is known before the search and what becomes of it
  abbrev Promised : Answering → Replied → Type 0
  Promised a e =
      (number_for e ≡ echo_answer b w rs port octets (length output))
      × ((changed_both (λ (x : Board) (s : State). replied_state x s (record { 0 = slot }) e) b w ≡ echo_words b w rs port slot octets (length output))
      × (replied_output a e octets output ≡ echo_output b w rs port octets output))

  -- ---- the words hold a board and a mission's state
  module _ (right-board : length b ≡ board_words) (right : length w ≡ mission_words) where
    abbrev here : Replied
    here = reply_to (decode_board b) (decode w)

    long_here : too_long rs ≡ true → number_for here ≡ 21
    unfolding echo_reply echo_answering replied_to reply_number ruling_parts header_parts
    long_here h = rw h

    made : (h : Board → State → State) → Held (h (decode_board b) (decode w)) ≡ changed_both h b w
    unfolding changed lent
    made h = board_held_told b right-board (λ (x : Board). changed (h x) w) (lent w) (simp (eq-eqb (length w) mission_words right))

    -- two changes that agree on these
    same_change : (f g : Board → State → State) → f (decode_board b) (decode w) ≡ g (decode_board b) (decode w) → changed_both f b w ≡ changed_both g b w
    same_change f g e = sym (made f) ∙ (ap Held e ∙ made g)

    held_promised : Promised (made_for (decode_board b) (decode w)) here
    unfolding echo_answer echo_words echo_output
    held_promised = (
      unless_long (too_long rs) (number_for here) _ long_here
          (both_held_told b w right-board right (λ (x : Board) (s : State). number_for (reply_to x s)) 16 refl),
      (
        same_change (λ (x : Board) (s : State). replied_state x s (record { 0 = slot }) here)
            (λ (x : Board) (s : State). replied_state x s (record { 0 = slot }) (reply_to x s)) refl,
        both_held_told b w right-board right (λ (x : Board) (s : State). replied_output (made_for x s) (reply_to x s) octets output) output refl,
      ),
    )

  -- no reply writes nothing
  quiet : (a : Answering) (n : ℕ) → replied_output a (no_reply n) octets output ≡ output
  unfolding replied_output
  quiet a n = refl

  -- ---- they do not: nothing is asked, and nothing is written
  module _ (no_answer_lem : (A : Type 0) (f : Board → State → A) (d : A) → d ≡ told_both f d b w)
      (no_change : (f : Board → State → State) → lent w ≡ changed_both f b w) where
    nobody : (r : Relay) (t : Bool) (way : Option Way) → replied_to r (pick t (no_answer 21) (no_answer 16)) way (length output) ≡ no_reply (pick t 21 16)
    unfolding replied_to
    nobody r true way = refl
    nobody r false way = refl

    ended_nobody : ended ≡ no_reply (pick (too_long rs) 21 16)
    unfolding replied_after answering_in
    ended_nobody =
        ap
        (λ (a : Answering).
        replied_to (seated (decode_board b) (decode w)) (pick (too_long rs) (no_answer 21) a) (way_in (scan_of (query_of asked) rs)) (length output))
        (sym
        (no_answer_lem Answering (λ (x : Board) (s : State). answering_of (seated x s) s.number x.drop port octets (length output)) (no_answer 16)))
        ∙ nobody (seated (decode_board b) (decode w)) (too_long rs) (way_in (scan_of (query_of asked) rs))

    number_is : (t : Bool) → number_for (no_reply (pick t 21 16)) ≡ pick t 21 16
    unfolding reply_number ruling_parts header_parts
    number_is true = refl
    number_is false = refl

    other_promised : Promised asked (no_reply (pick (too_long rs) 21 16))
    unfolding echo_answer echo_words echo_output
    other_promised = (
      number_is (too_long rs) ∙ ap (λ (n : ℕ). pick (too_long rs) 21 n) (no_answer_lem ℕ (λ (x : Board) (s : State). number_for (reply_to x s)) 16),
      (
        sym (no_change (λ (x : Board) (s : State). replied_state x s (record { 0 = slot }) (no_reply (pick (too_long rs) 21 16))))
            ∙ no_change (λ (x : Board) (s : State). replied_state x s (record { 0 = slot }) (reply_to x s)),
        quiet asked (pick (too_long rs) 21 16)
            ∙ no_answer_lem (List ℕ) (λ (x : Board) (s : State). replied_output (made_for x s) (reply_to x s) octets output) output,
      ),
    )

    other_ended : Promised asked ended
    other_ended = subst (Promised asked) (sym ended_nobody) other_promised

  promised : Promised asked ended
  promised = by_lengths (eqb (length b) board_words) (eqb (length w) mission_words) refl refl
    where
      by_lengths : (t u : Bool) → eqb (length b) board_words ≡ t → eqb (length w) mission_words ≡ u → Promised asked ended
      by_lengths true true e f =
          let held = eqb-true (length b) board_words e in
          let here = eqb-true (length w) mission_words f in
          subst (λ (x : Answering). Promised x ended) (sym (joined_asked b w rs port octets (length output) held here))
          (subst (Promised (made_for (decode_board b) (decode w))) (sym (joined b w rs port octets (length output) held here)) (held_promised held here))
      by_lengths true false e f =
          let wrong = eqb-false (length w) mission_words f in
          other_ended (λ (A : Type 0). no_mission_told b w wrong {A = A}) (no_mission_changed b w wrong)
      by_lengths false u e f =
          let wrong = eqb-false (length b) board_words e in
          other_ended (λ (A : Type 0). no_board_told b w wrong {A = A}) (no_board_changed b w wrong)

  pub echoed : (answer : ℕ) (words left : List ℕ) (a : Answering) (q : Query) (s : Scan) → a ≡ asked → q ≡ query_of a → s ≡ scan_of q rs
      → Carried b w slot octets output answer words left a s → AnswersEcho b w rs port slot octets output answer words left
  echoed answer words left a q s ea eq es h =
      let C : Answering → Scan → Type 0 = Carried b w slot octets output answer words left in
      let c = subst (λ (x : Answering). C x (scan_of (query_of x) rs)) ea (subst (λ (x : Query). C a (scan_of x rs)) eq (subst (C a) es h)) in
      (c.0 ∙ promised.0, (c.1.0 ∙ promised.1.0, c.1.1 ∙ promised.1.1))
