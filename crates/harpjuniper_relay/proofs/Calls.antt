-- The answers of the calls, over plain variables. Assumes nothing.
use Prim.Native.Nat.{ℕ, ◌≤◌, ◌<◌}
use mathlib.Core.Path.{◌≡◌, ap, ◌∙◌}
use mathlib.Core.List.{List}
use lib.ListN.{length}
use borrow.Author.Tests.{lt-ltb, le-ltb}
use Rattle.state.specs.Relay.{Mission, Relay, queue_at, counter_in}
use Rattle.state.specs.Seen.{Board, State, seated, on_seated, on_memory}
use Rattle.state.specs.Layout.{board_words, decode_board, mission_words, decode}
use Rattle.checks.specs.Order.{first_of}
use Rattle.checks.specs.Answer.{refusal_number}
use Rattle.floods.specs.Sweep.{sweep_checks, swept_memory}
use Rattle.taking.specs.Taking.{take_outcome, taken_relay, Taking}
use Rattle.answers.specs.Answers.{taking_number}
use Rattle.lent_state.specs.View.{lent, told_both, changed_both, told_relay, changed_relay}
use Rattle.lent_state.proofs.Calls.{both_held_call, relay_held_call}
use Rattle.harpjuniper_relay.specs.Face.{take_answer, counter_answer, waiting_answer}

pub take_called :
    (b w v : List ℕ) (port : ℕ) {t : Taking} {n : ℕ}
    → length b ≡ board_words
    → length w ≡ mission_words
    → length v ≡ mission_words
    → (t ≡ take_outcome (seated (decode_board b) (decode w)) port) × (decode v ≡ on_seated (decode_board b) (λ r. taken_relay r port) (decode w))
    → n ≡ taking_number t
    → (n ≡ told_relay (λ (x : Relay). take_answer x port) (refusal_number 16) b w) × (lent v ≡ changed_relay (λ (x : Relay). taken_relay x port) b w)
take_called b w v port rightBoard right long taken e =
    relay_held_call b w rightBoard right (λ x. take_answer x port) (refusal_number 16) (λ x. taken_relay x port) v long (e ∙ ap taking_number taken.0) taken.1

pub sweep_called :
    (b w v : List ℕ) (second : ℕ) {lifetime n : ℕ}
    → length b ≡ board_words
    → length w ≡ mission_words
    → length v ≡ mission_words
    → lifetime ≡ (decode_board b).lifetime
    → (n ≡ first_of (sweep_checks (decode w).memory second)) × (decode v ≡ on_memory (swept_memory lifetime second) (decode w))
    → (n ≡ told_both (λ (x : Board) (s : State). first_of (sweep_checks s.memory second)) 21 b w)
    × (lent v ≡ changed_both (λ (x : Board) (s : State). on_memory (swept_memory x.lifetime second) s) b w)
sweep_called b w v second rightBoard right long is swept =
    both_held_call b w rightBoard right (λ x s. first_of (sweep_checks s.memory second)) 21 (λ x s. on_memory (swept_memory x.lifetime second) s) v long
    swept.0 (swept.1 ∙ ap (λ (t : ℕ). on_memory (swept_memory t second) (decode w)) is)

module _ (l : List ℕ) (i : ℕ) {n : ℕ} where
  pub no_counter : 18 ≤ i → n ≡ refusal_number 21 → n ≡ counter_answer l i
  unfolding counter_answer
  no_counter h e = simp (le-ltb i 18 h) e

  pub counter : i < 18 → n ≡ counter_in l i → n ≡ counter_answer l i
  unfolding counter_answer
  counter h e = simp (lt-ltb i 18 h) e

module _ (m : Mission) (i : ℕ) {n : ℕ} where
  pub no_queue : 8 ≤ i → n ≡ refusal_number 21 → n ≡ waiting_answer m i
  unfolding waiting_answer
  no_queue h e = simp (le-ltb i 8 h) e

  pub count : i < 8 → n ≡ (queue_at m i).count → n ≡ waiting_answer m i
  unfolding waiting_answer
  count h e = simp (lt-ltb i 8 h) e
