-- The accessors of include/harpjuniper.h read out of the answers of hj_take, hj_waiting and hj_counter the very entry, number or refusal, whatever words
-- are lent: an entry is a word of the state, so that its slot and its precedence fit the sixteen bits that each has, and a number is a word itself.
-- Assumes nothing.
use native.Mathlib.Omega.{arith}
use Prim.Native.Nat.{ℕ, zero, suc, ◌+◌, ◌-◌, ◌*◌, ◌^◌, ◌<◌}
use mathlib.Core.Path.{◌≡◌, refl}
use mathlib.Core.Bool.{Bool, true, false, not}
use mathlib.Core.List.{List, [], ◌∷◌, map}
use lib.Dec.{eqb, ltb}
use lib.ListN.{length, take, drop, get_or}
use lib.Seq.{get_or-take, get_or-drop}
use borrow.Author.Tests.{ltb-true}
use Rattle.checks.specs.Order.{pick}
use Rattle.checks.proofs.Laws.{either}
use Rattle.queue.specs.Queue.{taken_from, take_of}
use Rattle.queue.specs.declared.Queue.{Queue}
use Rattle.queue.specs.declared.Taken.{Taken}
use Rattle.queue.specs.declared.Entry.{Entry}
use Rattle.std.proofs.Common.{Option, Some, None}
use Rattle.records.specs.declared.Port.{Port}
use Rattle.state.specs.Relay.{Relay, among_ports, queue_at, counter_in}
use Rattle.state.specs.Seen.{Board, State, ports_seen, seated}
use Rattle.state.specs.Layout.{mission_words, decode, entry_of_word, queue_of}
use Rattle.state.proofs.Reading.{taken, queue_read, counter_read}
use Rattle.taking.specs.Taking.{hands_out, take_outcome}
use Rattle.checks.specs.Told.{Refused}
use Rattle.state_board.proofs.SetUp.{is_port}
use Rattle.checks.specs.Answer.{refusal_number}
use Rattle.answers.specs.Answers.{taking_number}
use Rattle.answers.proofs.Digits.{entry_parts, refusal_parts, Two, value_parts, refusal_above}
use Rattle.lent_state.specs.View.{Lent, Held, Other, lent_board, lent, by_lent, told_board, told, told_relay}
use Rattle.harpjuniper_relay.specs.Face.{take_answer, counter_answer, waiting_answer}
use Rattle.harpjuniper_relay.specs.ReadBack.{FitWords, TakeRead}

-- ---- an entry that waits fits
abbrev Fits : Option Entry → Type 0
Fits (Some e) = (e.slot.0 < 65536) × (e.precedence < 65536)
Fits None = Unit

first_fits : (n : ℕ) (q : Queue) (l : List ℕ) → get_or l 0 0 < 2 ^ 32 → Fits (taken_from q (take n (map entry_of_word l))).head
first_fits zero q l h = tt
first_fits (suc n) q [] h = tt
first_fits (suc n) q (x ∷ l) h = (omega arith, omega arith)

queue_fits : (l : List ℕ) → get_or l 0 0 < 2 ^ 32 → Fits (take_of (queue_of l)).head
unfolding take_of queue_of
queue_fits l h =
    let n = get_or l 32 0 in
    let first : get_or (take 32 l) 0 0 < 2 ^ 32 = rw (get_or-take 32 l 0 0 (omega arith)) h in
    either (λ (x : Taken). Fits x.head) (ltb 32 n) tt (first_fits n (queue_of l) (take 32 l) first)

-- ---- so the parts are read back
outcome_read : (s : Bool) (h : Option Entry) → (s ≡ true → Fits h)
    → TakeRead (taking_number (pick (not s) (Refused 16) (hands_out h))) (pick (not s) (Refused 16) (hands_out h))
outcome_read false h f = refusal_parts 16 (omega arith)
outcome_read true (Some e) f = entry_parts e.slot.0 e.precedence (f refl).0 (f refl).1
outcome_read true None f = refusal_parts 18 (omega arith)

-- a value below 2^32 where there is one to answer, else 21
module _ (w : List ℕ) (value : State → ℕ) where
  value_case : (there t : Bool) → (there ≡ true → value (decode w) < 2 ^ 32)
      → Two
      (by_lent (λ (x : State). pick there (value x) (refusal_number 21)) (refusal_number 21) (pick t (Held (decode w)) (Other w)))
      (by_lent (λ (x : State). pick there 0 21) 21 (pick t (Held (decode w)) (Other w)))
      (by_lent (λ (x : State). pick there (value x) 0) 0 (pick t (Held (decode w)) (Other w)))
  value_case true true h = value_parts (value (decode w)) (h refl)
  value_case false true h = refusal_above 21 (omega arith)
  value_case there false h = refusal_above 21 (omega arith)

  value_read : (there : Bool) → (there ≡ true → value (decode w) < 2 ^ 32)
      → Two
      (told (λ (x : State). pick there (value x) (refusal_number 21)) (refusal_number 21) w)
      (told (λ (x : State). pick there 0 21) 21 w)
      (told (λ (x : State). pick there (value x) 0) 0 w)
  unfolding told lent
  value_read there h = value_case there (eqb (length w) mission_words) h

module _ (w : List ℕ) (words : FitWords w) (port : ℕ) where
  -- the words of a queue
  abbrev piece : List ℕ
  piece = taken 129 33 port w

  piece_word : (i : ℕ) → i < 33 → get_or piece i 0 < 2 ^ 32
  piece_word i h =
      let at = 129 + port * 33 in
      rw (get_or-take (at + 33 - at) (drop at w) i 0 (omega arith), get_or-drop at w i 0) (words (at + i))

  head_fits : (ports : List Port) → among_ports ports port ≡ true → Fits (take_of (queue_at (decode w).mission port)).head
  head_fits ports ready =
      let inside : port < 8 = is_port ports port ready in
      rw (← queue_read w port (queue_of piece) inside refl) (queue_fits piece (piece_word 0 (omega arith)))

  held_read : (b : Board) → TakeRead (take_answer (seated b (decode w)) port) (take_outcome (seated b (decode w)) port)
  unfolding take_outcome
  held_read b =
      let ports = ports_seen (decode w).number b in
      outcome_read (among_ports ports port) (take_of (queue_at (decode w).mission port)).head (head_fits ports)

  lent_read : (b : Board) (t : Bool)
      → TakeRead
      (by_lent (λ (x : State). take_answer (seated b x) port) (refusal_number 16) (pick t (Held (decode w)) (Other w)))
      (by_lent (λ (x : State). take_outcome (seated b x) port) (Refused 16) (pick t (Held (decode w)) (Other w)))
  lent_read b true = held_read b
  lent_read b false = refusal_parts 16 (omega arith)

  told_read : (b : Board)
      → TakeRead (told (λ (x : State). take_answer (seated b x) port) (refusal_number 16) w) (told (λ (x : State). take_outcome (seated b x) port) (Refused 16) w)
  unfolding told lent
  told_read b = lent_read b (eqb (length w) mission_words)

  board_read : (v : Lent Board)
      → TakeRead
      (by_lent (λ (b : Board). told (λ (x : State). take_answer (seated b x) port) (refusal_number 16) w) (refusal_number 16) v)
      (by_lent (λ (b : Board). told (λ (x : State). take_outcome (seated b x) port) (Refused 16) w) (Refused 16) v)
  board_read (Held b) = told_read b
  board_read (Other o) = refusal_parts 16 (omega arith)

  -- What the accessors read of hj_take's answer is what a take is said to hand out or to be refused by, whatever the board's words.
  pub take_read_back : (b : List ℕ)
      → TakeRead (told_relay (λ (x : Relay). take_answer x port) (refusal_number 16) b w) (told_relay (λ (x : Relay). take_outcome x port) (Refused 16) b w)
  unfolding told_board
  take_read_back b = board_read (lent_board b)

  -- What they read of hj_waiting's answer is how many entries wait, or 21 where there is no such port.
  pub waiting_read_back :
      Two
      (told (λ (x : State). waiting_answer x.mission port) (refusal_number 21) w)
      (told (λ (x : State). pick (ltb port 8) 0 21) 21 w)
      (told (λ (x : State). pick (ltb port 8) (queue_at x.mission port).count 0) 0 w)
  unfolding waiting_answer queue_of
  waiting_read_back =
      value_read w (λ (x : State). (queue_at x.mission port).count) (ltb port 8)
      (λ h. rw (← queue_read w port (queue_of piece) (ltb-true port 8 h) refl) (piece_word 32 (omega arith)))

  -- And of hj_counter's the counter, or 21 where there is no such counter.
  pub counter_read_back : (i : ℕ)
      → Two
      (told (λ (x : State). counter_answer x.counters i) (refusal_number 21) w)
      (told (λ (x : State). pick (ltb i 18) 0 21) 21 w)
      (told (λ (x : State). pick (ltb i 18) (counter_in x.counters i) 0) 0 w)
  unfolding counter_answer
  counter_read_back i =
      value_read w (λ (x : State). counter_in x.counters i) (ltb i 18) (λ h. rw (← counter_read w i (ltb-true i 18 h)) (words (393 + i)))
