-- What answering leaves: a reply counted and entered, or nothing. Over plain variables. Assumes nothing.
use Rattle.std.specs.Prelude.{Option}
use Prim.Native.Nat.{ℕ}
use mathlib.Core.Path.{◌≡◌, refl, ap, ◌∙◌}
use mathlib.Core.List.{List}
use lib.ListN.{length}
use borrow.Author.Tests.{eq-eqb}
use Rattle.address.specs.declared.Slot.{Slot}
use Rattle.state.specs.Relay.{Mission}
use Rattle.state.specs.Seen.{Board, State, seated, on_counters, on_seated}
use Rattle.state.specs.Layout.{board_words, mission_words, decode_board, decode}
use Rattle.lent_state.specs.View.{lent, changed_both}
use Rattle.lent_state.proofs.Calls.{both_held_changed}
use Rattle.listing.specs.declared.Scan.{Scan}
use Rattle.verdict.specs.Rule.{ruling_of}
use Rattle.verdict.specs.declared.Local.TheVariants.{No}
use Rattle.verdict.specs.declared.Ruling.{Ruling}
use Rattle.verdict.specs.declared.Way.{Way}
use Rattle.verdict.specs.declared.Wish.TheVariants.{NotAsked}
use Rattle.answers.specs.Answers.{reply_number}
use Rattle.tally.specs.Tally.{counted_at, counted_all, reply_moves}
use Rattle.replies.specs.Replied.{no_reply, replied_to, replied_output}
use Rattle.replies.specs.declared.Answering.{Answering}
use Rattle.replies.specs.declared.sending.Replied.{Replied}
use Rattle.relay.specs.Outgoing.{entered_all}
use Rattle.relay.specs.Received.{new_entry, received_relay}
use Rattle.relay.specs.Split.{way_in}
use Rattle.relay.proofs.Received.{idle_words}
use Rattle.relay.proofs.outgoing.Entries.{none_entered}
use Rattle.answering.specs.Echoed.{as_ending, replied_state}
use Rattle.answering.specs.Split.{replied_after, number_for, words_after, output_after}

-- ---- counted, and then entered
pub counted_entered : (b : Board) (s : State) (slot : Slot) (e : Replied) {x y : State}
    → x ≡ on_counters (λ l. counted_all l (reply_moves e.ruling)) s
    → y ≡ on_seated b (λ r. entered_all r e.ruling.took (new_entry slot (as_ending e)) 8) x
    → y ≡ replied_state b s slot e
unfolding received_relay
counted_entered b s slot e ex ey = ey ∙ ap (on_seated b (λ r. entered_all r e.ruling.took (new_entry slot (as_ending e)) 8)) ex

-- ---- no reply: its number, and the state as it was
pub passed_over : (n : ℕ) {x : Ruling} {answer : ℕ} → x ≡ ruling_of No NotAsked 0 → answer ≡ reply_number n x 0 → answer ≡ number_for (no_reply n)
unfolding ruling_of
passed_over n ex told = told ∙ ap (λ (y : Ruling). reply_number n y 0) ex

with_mission_lem : State → Mission → State
with_mission_lem s m = record { number = s.number; mission = m; memory = s.memory; counters = s.counters }

pub none_leaves : (b : Board) (s : State) (slot : Slot) (n : ℕ) → replied_state b s slot (no_reply n) ≡ s
unfolding with_mission_lem received_relay counted_at
none_leaves b s slot n =
    ap (with_mission_lem s) (ap (λ r. r.mission) (none_entered (seated b s) (new_entry slot (as_ending (no_reply n))) 8))

-- ---- the whole
module _ (b w octets output : List ℕ) (slot : ℕ) (a : Answering) (s : Scan) (room : ℕ) where
  no_reply_after : a.made ≡ 0 → no_reply a.refusal ≡ replied_after b w a s room
  unfolding replied_after replied_to
  no_reply_after none = simp (eq-eqb a.made 0 none)

  none_written : output ≡ replied_output a (no_reply a.refusal) octets output
  unfolding replied_output
  none_written = refl

  pub after_none : {answer : ℕ} → a.made ≡ 0 → answer ≡ number_for (no_reply a.refusal)
      → (answer ≡ number_for (replied_after b w a s room)) × ((lent w ≡ words_after b w slot a s room) × (output ≡ output_after b w octets output a s room))
  after_none none told =
      let e = no_reply_after none in (
        told ∙ ap (λ (x : Replied). number_for x) e,
        (
          idle_words (λ (x : Board) (y : State). replied_state x y (record { 0 = slot }) (no_reply a.refusal))
              (λ x y. none_leaves x y (record { 0 = slot }) a.refusal) b w
              ∙ ap (λ (k : Replied). changed_both (λ (x : Board) (y : State). replied_state x y (record { 0 = slot }) k) b w) e,
          none_written ∙ ap (λ (x : Replied). replied_output a x octets output) e,
        ),
      )

  pub after_done : (v : List ℕ) {out : List ℕ} {answer : ℕ} {way : Option Way} {e : Replied}
      → length b ≡ board_words → length w ≡ mission_words → length v ≡ mission_words
      → way ≡ way_in s
      → e ≡ replied_to (seated (decode_board b) (decode w)) a way room
      → answer ≡ number_for e
      → decode v ≡ replied_state (decode_board b) (decode w) (record { 0 = slot }) e
      → out ≡ replied_output a e octets output
      → (answer ≡ number_for (replied_after b w a s room)) × ((lent v ≡ words_after b w slot a s room) × (out ≡ output_after b w octets output a s room))
  unfolding replied_after
  after_done v eb ew ev way is told left written =
      let e = is ∙ ap (λ (x : Option Way). replied_to (seated (decode_board b) (decode w)) a x room) way in (
        told ∙ ap (λ (x : Replied). number_for x) e,
        (
          both_held_changed b w eb ew (λ (x : Board) (y : State). replied_state x y (record { 0 = slot }) (replied_after b w a s room)) v ev
              (left ∙ ap (replied_state (decode_board b) (decode w) (record { 0 = slot })) e),
          written ∙ ap (λ (x : Replied). replied_output a x octets output) e,
        ),
      )
