-- The items of a batch as single calls, one after the other on the words that the one before left: they give back and leave what the batch does (page 02, W-201).
-- Assumes nothing.
use native.Mathlib.Omega.{arith}
use Prim.Native.Nat.{ℕ, zero, suc, ◌+◌, ◌*◌, ◌<◌, ◌≤◌}
use mathlib.Core.Path.{◌≡◌, refl, sym, ap, ap₂, ◌∙◌}
use mathlib.Core.List.{List, [], ◌∷◌, map}
use lib.ListN.{length, get_or, drop}
use Rattle.queue.specs.Order.{Each}
use Rattle.routes.specs.declared.Record.{Record}
use Rattle.state.specs.Seen.{State}
use Rattle.lent_state.specs.View.{Lent, lent}
use Rattle.judge.specs.Ending.{output_room}
use Rattle.relay.specs.Hearing.{answered_in, held_in, sent_in}
use Rattle.replies.proofs.ReadBack.{take_small, drop_small}
use Rattle.batch.specs.Items.{Lists, start_of, octets_at, room_at}
use Rattle.batch.specs.Many.{items_held, answer_at}
use Rattle.batch.proofs.Stretches.{room_length}
use Rattle.harpjuniper_receive.specs.Face.{receive_answer, receive_words, receive_output}
use Rattle.contracts.specs.Promised.{Result, Allows, promised}
use Rattle.contracts.specs.Stated.{Says}
use Rattle.contracts.proofs.Answers.{each_call_answers}
use Rattle.contracts.proofs.Kept.{get_d_each}
use Rattle.contracts.proofs.Rows.{says_row}
use Rattle.history.specs.Ranges.{Octets}
use Rattle.demands.specs.Trace.{Customer, first, second, Step, Words, mission_of, made, words_after, Trace, Passes}
use Rattle.demands.specs.Batches.{batch, hearing, hearings, with_mission, ActPasses, given_back}
use Rattle.demands.proofs.Items.{values_from, answers_of, sent_at}

-- ---- what C can pass in a batch, it can pass in its items
item_octets_pass : (x : Lists) → Octets x.octets → (i : ℕ) → Octets (octets_at x.lengths x.octets i)
item_octets_pass x small i =
    take_small (get_or x.lengths i 0) (drop (start_of x.lengths i) x.octets) (drop_small (start_of x.lengths i) x.octets small)

pub item_slot : (x : Lists) → Each (λ (slot : ℕ). slot < 65536) x.slots → (i : ℕ) → get_or x.slots i 0 < 65536
item_slot x slots i = get_d_each (λ (slot : ℕ). slot < 65536) x.slots i 0 (omega arith) slots

pub item_passes : (who : Customer) (rs : List Record) (x : Lists) (n o : List ℕ) → ActPasses (batch who rs x n o) → (i : ℕ)
    → Passes (hearing who rs x o i)
item_passes who rs x n o fits i = (
  item_slot x fits.0 i,
  (item_octets_pass x fits.1.1 i, get_d_each _ x.seconds i 0 (omega arith) fits.1.0),
)

-- ---- a customer's words, and the others
pub same_words : (who : Customer) (v : Words) → with_mission who v (mission_of who v) ≡ v
same_words first v = refl
same_words second v = refl

module _ (v : Words) (rs : List Record) (x : Lists) (o : List ℕ) (i : ℕ) (y : Result) where
  board_after_lem : (who : Customer) → (words_after v (hearing who rs x o i) y).board ≡ v.board
  board_after_lem first = refl
  board_after_lem second = refl

  mission_after : (who : Customer) → mission_of who (words_after v (hearing who rs x o i) y) ≡ y.left.mission
  mission_after first = refl
  mission_after second = refl

  others_after : (who : Customer) (m : List ℕ) → with_mission who (words_after v (hearing who rs x o i) y) m ≡ with_mission who v m
  others_after first m = refl
  others_after second m = refl

-- ---- a trace that gives back these
abbrev pub Gave : Words → List Step → Words → List Result → Type 0
Gave w cs v zs = (t : Trace w cs v) × (given_back cs w v t ≡ zs)

module _ (who : Customer) (w : Words) (rs : List Record) (x : Lists) (o : List ℕ) where
  -- what the customer's words hold after i items
  abbrev pub held : ℕ → Lent State
  held i = items_held w.board (lent (mission_of who w)) rs x i

  -- item i as a call on words that hold what the items before left
  module _ (i : ℕ) (room : length (room_at o i) ≡ output_room) (v : Words) (board : v.board ≡ w.board) (holds : lent (mission_of who v) ≡ held i)
      (y : Result) (says : Says (made v (hearing who rs x o i)) y) where
    abbrev octets : List ℕ
    octets = octets_at x.lengths x.octets i

    row : Allows (promised (made v (hearing who rs x o i))) y
    row = says_row (made v (hearing who rs x o i)) y says

    one_answer : y.answer ≡ answer_at w.board (lent (mission_of who w)) rs x i
    unfolding receive_answer
    one_answer = row.answer ∙ (λ k. answered_in (board k) (holds k) rs (get_or x.ports i 0) (get_or x.seconds i 0) octets (room k))

    one_left : lent y.left.mission ≡ held (suc i)
    unfolding receive_words items_held
    one_left =
        row.mission
        ∙ (λ k. held_in (board k) (holds k) rs (get_or x.ports i 0) (get_or x.slots i 0) (get_or x.seconds i 0) octets (room k))

    one_sent : y.left.output ≡ sent_at w.board (lent (mission_of who w)) rs x o i
    unfolding receive_output
    one_sent = row.output ∙ (λ k. sent_in (board k) (holds k) rs (get_or x.ports i 0) (get_or x.seconds i 0) octets (room_at o i))

  -- the k items from i on, up to the end: what they give back, and what they leave
  pub record Followed (i k end : ℕ) (v : Words) : Type 0 where
    pub left : Words
    pub given : List Result
    pub calls : Gave v (hearings who rs x o i k) left given
    pub others : left ≡ with_mission who v (mission_of who left)
    pub holds : lent (mission_of who left) ≡ held end
    pub answers : map (λ (z : Result). z.answer) given ≡ answers_of w.board (lent (mission_of who w)) rs x i k
    pub sent : map (λ (z : Result). z.left.output) given ≡ values_from (sent_at w.board (lent (mission_of who w)) rs x o) i k

  pub followed : (k i end : ℕ) → i + k ≡ end → output_room * end ≤ length o → Each (λ (slot : ℕ). slot < 65536) x.slots → (v : Words)
      → v.board ≡ w.board → lent (mission_of who v) ≡ held i → Followed i k end v
  followed zero i end e wide slots v board holds =
      record {
        left = v;
        given = [];
        calls = (refl, refl);
        others = sym (same_words who v);
        holds = holds ∙ ap held (omega (arith, e));
        answers = refl;
        sent = refl;
      }
  followed (suc k) i end e wide slots v board holds =
      let c = hearing who rs x o i in
      let a = each_call_answers (made v c) (item_slot x slots i) in
      let y = a.0 in
      let room = room_length o i (omega (arith, e, wide)) in
      let next = words_after v c y in
      let rest =
      followed k (suc i) end (omega (arith, e)) wide slots next (board_after_lem v rs x o i y who ∙ board)
      (ap lent (mission_after v rs x o i y who) ∙ one_left i room v board holds y a.1) in
      record {
        left = rest.left;
        given = y ∷ rest.given;
        calls = ((y, (a.1, rest.calls.0)), ap (λ (zs : List Result). y ∷ zs) rest.calls.1);
        others = rest.others ∙ others_after v rs x o i y who (mission_of who rest.left);
        holds = rest.holds;
        answers = ap₂ (λ (z : ℕ) (zs : List ℕ). z ∷ zs) (one_answer i room v board holds y a.1) rest.answers;
        sent = ap₂ (λ (z : List ℕ) (zs : List (List ℕ)). z ∷ zs) (one_sent i room v board holds y a.1) rest.sent;
      }
