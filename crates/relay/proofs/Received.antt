-- What receiving leaves: counted and entered, or refused. Over plain variables. Assumes nothing.
use Rattle.std.specs.Prelude.{Option}
use Prim.Native.Nat.{ℕ}
use mathlib.Core.Path.{◌≡◌, refl, sym, ap, ◌∙◌}
use mathlib.Core.List.{List}
use lib.ListN.{length}
use mathlib.Core.Bool.{Bool, true, false}
use borrow.Author.Tests.{eq-eqb, ne_eqb}
use Rattle.checks.specs.Order.{pick}
use Rattle.meaning.specs.Flood.{pair_of}
use Rattle.floods.specs.Memory.{remembering}
use Rattle.address.specs.declared.Slot.{Slot}
use Rattle.state.specs.Relay.{Mission, Memory, put_last}
use Rattle.state.specs.Seen.{Board, State, seated, on_memory, on_counters, on_seated}
use Rattle.state.specs.Layout.{board_words, mission_words, decode_board, decode}
use Rattle.lent_state.specs.View.{Lent, Held, Other, by_lent, on_lent, lent_board, lent, told_board, changed, changed_both}
use Rattle.lent_state.proofs.Calls.{both_held_changed}
use Rattle.listing.specs.declared.Scan.{Scan}
use Rattle.verdict.specs.declared.Way.{Way}
use Rattle.next_leg.specs.Leg.{no_legs}
use Rattle.judge.specs.declared.Asked.{Asked}
use Rattle.judge.specs.declared.Ending.{Ending}
use Rattle.judge.specs.Ending.{refused_by}
use Rattle.judge.specs.Asked.{finished_of}
use Rattle.judge.specs.Remembered.{is_unheard, refused_memory, remembered_by}
use Rattle.answers.specs.Answers.{receive_number}
use Rattle.tally.specs.Tally.{counter_for, counted_at, moves_of, counted_all}
use Rattle.relay.specs.Outgoing.{entered_all, sent_output}
use Rattle.relay.specs.Received.{new_entry, received_relay, received_state}
use Rattle.relay.specs.Split.{way_in, ending_after, answer_after, words_after, output_after, Counted, words_refused}
use Rattle.relay.proofs.outgoing.Entries.{none_entered}
use Rattle.relay.proofs.outgoing.Headers.{nothing_sent}

-- ---- counted, and then entered
pub received : (b : Board) (s : State) (slot : Slot) (e : Ending) {x y : State}
    → x ≡ on_counters (λ l. counted_all l (moves_of e)) s
    → y ≡ on_seated b (λ r. entered_all r e.ruling.took (new_entry slot e) 8) x
    → y ≡ received_state b s slot s.memory e
unfolding received_relay
received b s slot e ex ey = ey ∙ ap (on_seated b (λ r. entered_all r e.ruling.took (new_entry slot e) 8)) ex

-- ---- refused: nothing is entered
with_counters : State → Memory → List ℕ → Mission → State
with_counters s k l m = record { number = s.number; mission = m; memory = k; counters = l }

refused_leaves : (b : Board) (s : State) (slot : Slot) (k : Memory) (n : ℕ) {l : List ℕ} → l ≡ counted_all s.counters (moves_of (refused_by n))
    → with_counters s k l s.mission ≡ received_state b s slot k (refused_by n)
unfolding with_counters received_relay
refused_leaves b s slot k n el =
    ap (λ (x : List ℕ). with_counters s k x s.mission) el
    ∙ ap (λ (x : Mission). with_counters s k (counted_all s.counters (moves_of (refused_by n))) x)
    (sym (ap (λ r. r.mission) (none_entered (seated b s) (new_entry slot (refused_by n)) 8)))

-- a refusal that counts is heard
heard : (n : ℕ) → Counted n → is_unheard n ≡ false
heard n c = simp (ne_eqb n 21 c.1.1.0, ne_eqb n 16 c.0, ne_eqb n 17 c.1.0, ne_eqb n 29 c.1.1.1)

pub refused_counted : (b w v : List ℕ) (slot : Slot) (second n : ℕ) {e : Ending} {y : State}
    → Counted n
    → length b ≡ board_words → length w ≡ mission_words → length v ≡ mission_words
    → e ≡ refused_by n
    → y ≡ on_counters (λ l. counted_all l (moves_of e)) (decode w)
    → decode v ≡ on_memory (λ k. put_last k second) y
    → lent v ≡ words_refused b w slot second n
unfolding with_counters
refused_counted b w v slot second n counts eb ew ev is e d =
    let k = (decode w).memory in
    both_held_changed b w eb ew (λ (x : Board) (y : State). received_state x y slot (refused_memory second n y.memory) (refused_by n)) v ev
    (d ∙ ap (on_memory (λ k. put_last k second)) (e ∙ ap (λ (x : Ending). on_counters (λ l. counted_all l (moves_of x)) (decode w)) is)
    ∙ refused_leaves (decode_board b) (decode w) slot (put_last k second) n refl
    ∙ ap (λ (t : Bool). received_state (decode_board b) (decode w) slot (pick t k (put_last k second)) (refused_by n)) (sym (heard n counts)))

-- four refusals count nothing, and accept no second
pub idle_words : (f : Board → State → State) → ((x : Board) (y : State) → f x y ≡ y) → (b w : List ℕ) → lent w ≡ changed_both f b w
unfolding told_board changed
idle_words f same b w = by_board (lent_board b)
  where
    by_state : (x : Board) (l : Lent State) → l ≡ on_lent (f x) l
    by_state x (Held y) = ap Held (sym (same x y))
    by_state x (Other o) = refl

    by_board : (l : Lent Board) → lent w ≡ by_lent (λ (x : Board). on_lent (f x) (lent w)) (lent w) l
    by_board (Held x) = by_state x (lent w)
    by_board (Other o) = refl

idle_refused : (n : ℕ) → is_unheard n ≡ true → ((l : List ℕ) → l ≡ counted_all l (moves_of (refused_by n))) → (b w : List ℕ) (slot : Slot) (second : ℕ)
    → lent w ≡ words_refused b w slot second n
unfolding with_counters
idle_refused n unheard none b w slot second =
    idle_words (λ (x : Board) (y : State). received_state x y slot (refused_memory second n y.memory) (refused_by n))
    (λ x y.
    sym
    (refused_leaves x y slot y.memory n (none y.counters)
    ∙ ap (λ (t : Bool). received_state x y slot (pick t y.memory (put_last y.memory second)) (refused_by n)) (sym unheard))) b w

none_16 : (l : List ℕ) → l ≡ counted_all l (moves_of (refused_by 16))
unfolding counter_for counted_at
none_16 l = refl

none_17 : (l : List ℕ) → l ≡ counted_all l (moves_of (refused_by 17))
unfolding counter_for counted_at
none_17 l = refl

none_21 : (l : List ℕ) → l ≡ counted_all l (moves_of (refused_by 21))
unfolding counter_for counted_at
none_21 l = refl

none_29 : (l : List ℕ) → l ≡ counted_all l (moves_of (refused_by 29))
unfolding counter_for counted_at
none_29 l = refl

module _ (n : ℕ) (b w : List ℕ) (slot : Slot) (second : ℕ) where
  idle_by : (m : ℕ) → lent w ≡ words_refused b w slot second m → n ≡ m → lent w ≡ words_refused b w slot second n
  idle_by m is e = is ∙ ap (words_refused b w slot second) (sym e)

  pub idle_16 : n ≡ 16 → lent w ≡ words_refused b w slot second n
  idle_16 e = idle_by 16 (idle_refused 16 refl none_16 b w slot second) e

  pub idle_17 : n ≡ 17 → lent w ≡ words_refused b w slot second n
  idle_17 e = idle_by 17 (idle_refused 17 refl none_17 b w slot second) e

  pub idle_21 : n ≡ 21 → lent w ≡ words_refused b w slot second n
  idle_21 e = idle_by 21 (idle_refused 21 refl none_21 b w slot second) e

  pub idle_29 : n ≡ 29 → lent w ≡ words_refused b w slot second n
  idle_29 e = idle_by 29 (idle_refused 29 refl none_29 b w slot second) e

-- ---- the whole
module _ (b w octets output : List ℕ) (slot second : ℕ) (a : Asked) (s : Scan) where
  ended_refused : (a.refusal ≡ 0 → ⊥) → refused_by a.refusal ≡ ending_after b w a s
  unfolding ending_after finished_of
  ended_refused some = simp (ne_eqb a.refusal 0 some)

  -- a refusal has no port that took
  refused_sends_nothing : output ≡ sent_output (refused_by a.refusal) octets output
  unfolding sent_output
  refused_sends_nothing = nothing_sent no_legs octets output 8

  pub after_refused : (v : List ℕ) {answer : ℕ} → (a.refusal ≡ 0 → ⊥) → answer ≡ receive_number (refused_by a.refusal) → lent v ≡ words_refused b w (record { 0 = slot }) second a.refusal
      → (answer ≡ answer_after b w a s) × ((lent v ≡ words_after b w slot second a s) × (output ≡ output_after b w octets output a s))
  unfolding remembered_by
  after_refused v some told left =
      let e = ended_refused some in (
        told ∙ ap receive_number e,
        (
          left
              ∙ ap (λ (x : Ending). changed_both (λ (y : Board) (z : State). received_state y z (record { 0 = slot }) (refused_memory second a.refusal z.memory) x) b w) e
              ∙ ap
              (λ (t : Bool).
              changed_both
              (λ (y : Board) (z : State).
              received_state y z (record { 0 = slot })
              (pick t (remembering a.case.flood (pair_of a.arrival.0 a.header.fields) second z.memory) (refused_memory second a.refusal z.memory))
              (ending_after b w a s)) b w)
              (sym (ne_eqb a.refusal 0 some)),
          refused_sends_nothing ∙ ap (λ (x : Ending). sent_output x octets output) e,
        ),
      )

  pub after_done : (v : List ℕ) {out : List ℕ} {answer : ℕ} {way : Option Way} {e : Ending} {y : State}
      → a.refusal ≡ 0
      → length b ≡ board_words → length w ≡ mission_words → length v ≡ mission_words
      → way ≡ way_in s
      → e ≡ finished_of (seated (decode_board b) (decode w)) a way
      → answer ≡ receive_number e
      → y ≡ received_state (decode_board b) (decode w) (record { 0 = slot }) (decode w).memory e
      → decode v ≡ on_memory (remembering a.case.flood (pair_of a.arrival.0 a.header.fields) second) y
      → out ≡ sent_output e octets output
      → (answer ≡ answer_after b w a s) × ((lent v ≡ words_after b w slot second a s) × (out ≡ output_after b w octets output a s))
  unfolding ending_after remembered_by
  after_done v zero eb ew ev way is told left kept sent =
      let e = is ∙ ap (finished_of (seated (decode_board b) (decode w)) a) way in
      let now : Memory → Memory = remembering a.case.flood (pair_of a.arrival.0 a.header.fields) second in (
        told ∙ ap receive_number e,
        (
          both_held_changed b w eb ew
              (λ (y : Board) (z : State). received_state y z (record { 0 = slot }) (remembered_by second a z.memory) (ending_after b w a s)) v ev
              (kept ∙ ap (on_memory now) left
              ∙ ap (received_state (decode_board b) (decode w) (record { 0 = slot }) (now (decode w).memory)) e
              ∙ ap (λ (t : Bool). received_state (decode_board b) (decode w) (record { 0 = slot }) (pick t (now (decode w).memory) (refused_memory second a.refusal (decode w).memory)) (ending_after b w a s))
              (sym (eq-eqb a.refusal 0 zero))),
          sent ∙ ap (λ (x : Ending). sent_output x octets output) e,
        ),
      )
