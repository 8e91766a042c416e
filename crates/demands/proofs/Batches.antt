-- A batch is the single calls of its items, one after the other (page 02, W-201): each field of the record Batches. Assumes nothing.
use native.Mathlib.Omega.{arith}
use Prim.Native.Nat.{ℕ, zero, suc, ◌*◌, ◌<◌}
use mathlib.Core.Path.{◌≡◌, refl, sym, ap, subst, ◌∙◌}
use mathlib.Core.Bool.{Bool, true, false, not}
use mathlib.Core.Logic.{◌↔◌, ◌≢◌, ◌⊎◌, inl, inr, ⊎_elim}
use mathlib.Core.List.{List, [], ◌∷◌, ◌++◌, map}
use lib.ListN.{length, get_or, take, drop}
use lib.Dec.{eqb}
use borrow.Author.Tests.{eqb-true, eqb-false, eq-eqb, ne_eqb, ltb-false, le-ltb, not-false}
use Rattle.checks.specs.Order.{pick, Checks, first_of, NoneHolds}
use Rattle.checks.proofs.Bools.{true_false}
use Rattle.checks.proofs.Laws.{either}
use Rattle.queue.specs.Order.{Each}
use Rattle.routes.specs.declared.Record.{Record}
use Rattle.state.specs.Seen.{State}
use Rattle.lent_state.specs.View.{Lent, lent, too_long}
use Rattle.lent_state.proofs.Same.{board_injective, lent_injective}
use Rattle.refusals.proofs.Chains.{decided}
use Rattle.judge.specs.Ending.{output_room}
use Rattle.answers.specs.Answers.{part_at}
use Rattle.page.proofs.Rows.{every_check}
use Rattle.batch.specs.Items.{most_items, Lists, start_of, octets_at, room_at, many_checks}
use Rattle.batch.specs.Many.{items_held, answer_at, items_answered, items_sent, many_refusal, many_heard}
use Rattle.contracts.specs.Promised.{Things, Result, Passable, Allows, lent_to, promised}
use Rattle.contracts.specs.Stated.{Says}
use Rattle.contracts.proofs.Answers.{each_call_answers}
use Rattle.contracts.proofs.Rows.{says_row}
use Rattle.demands.specs.Trace.{Customer, Step, Words, mission_of, words_after, Trace, AllPass}
use Rattle.demands.specs.Batches.{
  Act,
  single,
  batch,
  hearings,
  steps_of,
  many_by,
  called,
  with_mission,
  left_by,
  Runs,
  steps_in,
  SlotsPass,
  ActPasses,
  Fits,
  AsSingles,
  Batches,
}
use Rattle.demands.proofs.Lasts.{passable}
use Rattle.demands.proofs.Whole.{whole}
use Rattle.demands.proofs.Acts.{acts_apart}
use Rattle.demands.proofs.Over.{trace_on, pass_on, begun_on}
use Rattle.demands.proofs.Items.{all_octets_lem, value_first, answers_are, sent_at, WrittenBy, written, sent_long}
use Rattle.demands.proofs.ItemNumbers.{never_17, none_told}
use Rattle.demands.proofs.Singles.{item_passes, same_words, Gave, Followed, followed}

-- ---- what refuses the whole call, past the list of routes
module _ (x : Lists) (n o : List ℕ) where
  abbrev count : ℕ
  count = length x.lengths

  abbrev past_routes : Checks
  past_routes =
      drop 1 (many_checks x.lengths 0 (length x.ports) (length x.slots) (length x.seconds) (length x.octets) (length n) (length o))

  as_many : (k : ℕ) → not (eqb k count) ≡ false → k ≡ count
  as_many k e = eqb-true k count (not-false (eqb k count) e)

  none_fits : NoneHolds past_routes → Fits x n o
  none_fits h =
      record {
        ports = as_many (length x.ports) h.0;
        slots = as_many (length x.slots) h.1.0;
        seconds = as_many (length x.seconds) h.1.1.0;
        answers = as_many (length n) h.1.1.1.0;
        octets =
            omega (arith, all_octets_lem x.lengths, ltb-false (length x.octets) (start_of x.lengths count) h.1.1.1.1.1.0);
        few = ltb-false most_items count h.1.1.1.1.0;
        output = ltb-false (length o) (output_room * count) h.1.1.1.1.1.1.0;
      }

  fits_none : Fits x n o → NoneHolds past_routes
  fits_none f =
      let same : (k : ℕ) → k ≡ count → not (eqb k count) ≡ false = λ k e. ap not (eq-eqb k count e) in (
        same (length x.ports) f.ports,
        (
          same (length x.slots) f.slots,
          (
            same (length x.seconds) f.seconds,
            (
              same (length n) f.answers,
              (
                le-ltb most_items count f.few,
                (
                  le-ltb (length x.octets) (start_of x.lengths count) (omega (arith, all_octets_lem x.lengths, f.octets)),
                  (le-ltb (length o) (output_room * count) f.output, tt),
                ),
              ),
            ),
          ),
        ),
      )

  -- 27 is the only number
  zero_or_27 : (first_of past_routes ≡ 0) ⊎ (first_of past_routes ≡ 27)
  zero_or_27 =
      every_check (λ (k : ℕ). (k ≡ 0) ⊎ (k ≡ 27)) past_routes
      (inr refl, (inr refl, (inr refl, (inr refl, (inr refl, (inr refl, (inr refl, tt))))))) (inl refl)

  -- what is answered, by whether the list of routes is too long
  abbrev Answered : Bool → ℕ → Type 0
  Answered long k =
      ((k ≡ 21) ↔ (long ≡ true)) × (((k ≡ 27) ↔ ((long ≡ false) × (Fits x n o → ⊥))) × ((k ≡ 0) ↔ ((long ≡ false) × Fits x n o)))

  fits_zero : (first_of past_routes ≡ 0) ↔ Fits x n o
  fits_zero = let by = decided past_routes refl in (λ e. none_fits (by.0.0 e), λ f. by.0.1 (fits_none f))

  past_answered : (k : ℕ) → first_of past_routes ≡ k → (k ≡ 0) ⊎ (k ≡ 27) → Answered false k
  past_answered k is only = (
    (λ e. absurd (⊎_elim (λ z. omega (arith, z, e)) (λ z. omega (arith, z, e)) only), λ e. true_false (sym e)),
    (
      (
        λ e. (refl, λ f. omega (arith, e, sym is ∙ fits_zero.1 f)),
        λ h. ⊎_elim (λ z. absurd (h.1 (fits_zero.0 (is ∙ z)))) (λ z. z) only,
      ),
      (λ e. (refl, fits_zero.0 (is ∙ e)), λ h. sym is ∙ fits_zero.1 h.1),
    ),
  )

  answered_by_lem : (long : Bool) → Answered long (pick long 21 (first_of past_routes))
  answered_by_lem true = (
    (λ e. refl, λ e. refl),
    ((λ e. absurd (omega (arith, e)), λ h. true_false h.0), (λ e. absurd (omega (arith, e)), λ h. true_false h.0)),
  )
  answered_by_lem false = past_answered (first_of past_routes) refl zero_or_27

-- ---- one call
module _ (b m : List ℕ) (rs : List Record) (x : Lists) (n o : List ℕ) (y : Result) (says : Says (many_by b m rs x n o) y) where
  row : Allows (promised (many_by b m rs x n o)) y
  row = says_row (many_by b m rs x n o) y says

  answered : Answered x n o (too_long rs) y.answer
  unfolding many_refusal first_of
  answered = subst (Answered x n o (too_long rs)) (sym row.answer) (answered_by_lem x n o (too_long rs))

  -- how many items are heard
  heard_all : y.answer ≡ 0 → many_heard rs x n o ≡ length x.lengths
  heard_all z = ap (λ (t : Bool). pick t (length x.lengths) 0) (eq-eqb (many_refusal rs x n o) 0 (sym row.answer ∙ z))

  heard_none : y.answer ≢ 0 → many_heard rs x n o ≡ 0
  heard_none some = ap (λ (t : Bool). pick t (length x.lengths) 0) (ne_eqb (many_refusal rs x n o) 0 (λ e. some (row.answer ∙ e)))

  refused_leaves : y.answer ≢ 0 → y.left ≡ lent_to (many_by b m rs x n o)
  unfolding items_held items_answered items_sent
  refused_leaves some =
      let none = heard_none some in
      whole (lent_to (many_by b m rs x n o)) (many_refusal rs x n o) y
      (record {
        answer = row.answer;
        board = row.board;
        mission = row.mission ∙ ap (items_held b (lent m) rs x) none;
        routes = row.routes;
        output = row.output ∙ ap (items_sent b (lent m) rs x o) none;
        numbers = row.numbers ∙ ap (items_answered b (lent m) rs x n) none;
      })

  -- where it is not refused: what an item is answered, and by which numbers it is refused
  module _ (done : y.answer ≡ 0) (i : ℕ) (inside : i < length x.lengths) where
    fitting : (too_long rs ≡ false) × Fits x n o
    fitting = answered.1.1.0 done

    item_answer : get_or y.left.numbers i 0 ≡ answer_at b (lent m) rs x i
    item_answer =
        ap (λ (l : List ℕ). get_or l i 0)
        (row.numbers
        ∙ ap (items_answered b (lent m) rs x n) (heard_all done)
        ∙ answers_are b (lent m) rs x n (length x.lengths) fitting.1.answers)
        ∙ value_first (answer_at b (lent m) rs x) (length x.lengths) i 0 inside

    item_never_17 : part_at 0 (get_or y.left.numbers i 0) ≢ 17
    item_never_17 e =
        never_17 rs fitting.0 (get_or x.ports i 0) (get_or x.seconds i 0) (octets_at x.lengths x.octets i) b (items_held b (lent m) rs x i)
        (ap (part_at 0) (sym item_answer) ∙ e)

    item_length_0 : get_or x.lengths i 0 ≡ 0
        → (get_or y.left.numbers i 0 ≡ 16) ⊎ ((get_or y.left.numbers i 0 ≡ 29) ⊎ (get_or y.left.numbers i 0 ≡ 1))
    item_length_0 e =
        rw item_answer
        (none_told rs fitting.0 (get_or x.ports i 0) (get_or x.seconds i 0) (octets_at x.lengths x.octets i)
        (ap (λ (k : ℕ). take k (drop (start_of x.lengths i) x.octets)) e) b (items_held b (lent m) rs x i))

-- ---- as single calls
module _ (who : Customer) (w : Words) (rs : List Record) (x : Lists) (n o : List ℕ) (y : Result) (fits : SlotsPass (batch who rs x n o))
    (says : Says (called w (batch who rs x n o)) y) (done : y.answer ≡ 0) where
  abbrev l : Lent State
  l = lent (mission_of who w)

  abbrev all : ℕ
  all = length x.lengths

  fit : Fits x n o
  fit = ((answered w.board (mission_of who w) rs x n o y says).1.1.0 done).1

  heard : many_heard rs x n o ≡ all
  heard = heard_all w.board (mission_of who w) rs x n o y says done

  many_row : Allows (promised (called w (batch who rs x n o))) y
  many_row = row w.board (mission_of who w) rs x n o y says

  singles : Followed who w rs x o 0 all all w
  unfolding items_held
  singles = followed who w rs x o all 0 all (omega arith) fit.output fits w refl refl

  ends : singles.left ≡ with_mission who w y.left.mission
  ends =
      singles.others
      ∙ ap (with_mission who w)
      (lent_injective (mission_of who singles.left) y.left.mission
      (singles.holds ∙ sym (many_row.mission ∙ ap (items_held w.board l rs x) heard)))

  gave : Gave w (hearings who rs x o 0 all) (with_mission who w y.left.mission) singles.given
  gave = subst (λ (v : Words). Gave w (hearings who rs x o 0 all) v singles.given) ends singles.calls

  output_is : y.left.output ≡ items_sent w.board l rs x o all
  output_is = many_row.output ∙ ap (items_sent w.board l rs x o) heard

  stretches : WrittenBy w.board l rs x o all
  stretches =
      written w.board l rs x o all fit.output
      (λ i h. sent_long w.board l rs x o i (omega (arith, h, fit.output)))

  pub as_singles : AsSingles who w rs x o y
  as_singles =
      record {
        calls = gave.0;
        answers =
            many_row.numbers
            ∙ ap (items_answered w.board l rs x n) heard
            ∙ answers_are w.board l rs x n all fit.answers
            ∙ sym singles.answers
            ∙ ap (map (λ (z : Result). z.answer)) (sym gave.1);
        outputs = λ i h.
            ap (λ (u : List ℕ). room_at u i) output_is
            ∙ stretches.items i h
            ∙ sym (value_first (sent_at w.board l rs x o) all i [] h)
            ∙ ap (λ (us : List (List ℕ)). get_or us i []) (sym singles.sent ∙ ap (map (λ (z : Result). z.left.output)) (sym gave.1));
        rest = ap (drop (output_room * all)) output_is ∙ stretches.rest;
        board = board_injective y.left.board w.board many_row.board;
        routes = many_row.routes;
      }

-- ---- a program with batches
-- a batch, and what comes after it
batch_runs : (who : Customer) (w v : Words) (rs : List Record) (x : Lists) (n o : List ℕ) (y : Result) (rest : List Step)
    → SlotsPass (batch who rs x n o) → Says (called w (batch who rs x n o)) y → Trace (with_mission who w y.left.mission) rest v
    → Trace w (steps_of (batch who rs x n o) y.answer ++ rest) v
batch_runs who w v rs x n o y rest fits says t = by (eqb y.answer 0) refl
  where
    by : (z : Bool) → eqb y.answer 0 ≡ z → Trace w (pick z (hearings who rs x o 0 (length x.lengths)) [] ++ rest) v
    by true e =
        trace_on (hearings who rs x o 0 (length x.lengths)) rest w (with_mission who w y.left.mission) v
        (as_singles who w rs x n o y fits says (eqb-true y.answer 0 e)).calls t
    by false e =
        let stays = refused_leaves w.board (mission_of who w) rs x n o y says (eqb-false y.answer 0 e) in
        subst (λ (u : Words). Trace u rest v) (ap (λ (u : Things). with_mission who w u.mission) stays ∙ same_words who w) t

runs : (w v : Words) (cs : List Act) → Each SlotsPass cs → (r : Runs w cs v) → Trace w (steps_in cs w v r) v
runs w v [] fits r = r
runs w v (single c ∷ cs) fits r = (r.0, (r.1.0, runs (words_after w c r.0) v cs fits.1 r.1.1))
runs w v (batch who rs x n o ∷ cs) fits r =
    let after = with_mission who w r.0.left.mission in
    batch_runs who w v rs x n o r.0 (steps_in cs after v r.1.1) fits.0 r.1.0 (runs after v cs fits.1 r.1.1)

slots_pass : (cs : List Act) → Each ActPasses cs → Each SlotsPass cs
slots_pass [] fits = tt
slots_pass (single c ∷ cs) fits = (tt, slots_pass cs fits.1)
slots_pass (batch who rs x n o ∷ cs) fits = (fits.0.0, slots_pass cs fits.1)

items_pass : (who : Customer) (rs : List Record) (x : Lists) (n o : List ℕ) → ActPasses (batch who rs x n o) → (k i : ℕ)
    → AllPass (hearings who rs x o i k)
items_pass who rs x n o fits zero i = tt
items_pass who rs x n o fits (suc k) i = (item_passes who rs x n o fits i, items_pass who rs x n o fits k (suc i))

steps_pass : (c : Act) → ActPasses c → (answer : ℕ) → AllPass (steps_of c answer)
steps_pass (single c) fits answer = (fits, tt)
steps_pass (batch who rs x n o) fits answer =
    either AllPass (eqb answer 0) {a = hearings who rs x o 0 (length x.lengths)} {b = []} (items_pass who rs x n o fits (length x.lengths) 0) tt

all_pass : (w v : Words) (cs : List Act) → Each ActPasses cs → (r : Runs w cs v) → AllPass (steps_in cs w v r)
all_pass w v [] fits r = tt
all_pass w v (c ∷ cs) fits r =
    pass_on (steps_of c r.0.answer) (steps_in cs (left_by w c r.0) v r.1.1) (steps_pass c fits.0 r.0.answer)
    (all_pass (left_by w c r.0) v cs fits.1 r.1.1)

-- and there is one
act_passable : (w : Words) (c : Act) → ActPasses c → Passable (called w c)
act_passable w (single c) fits = passable w c fits
act_passable w (batch who rs x n o) fits = fits.0

lasts : (w : Words) (cs : List Act) → Each ActPasses cs → (v : Words) × Runs w cs v
lasts w [] fits = (w, refl)
lasts w (c ∷ cs) fits =
    let a = each_call_answers (called w c) (act_passable w c fits.0) in
    let rest = lasts (left_by w c a.0) cs fits.1 in
    (rest.0, (a.0, (a.1, rest.1)))

pub batches_hold : Batches
batches_hold =
    record {
      answered = answered;
      refused_leaves = refused_leaves;
      as_singles = as_singles;
      never_17 = item_never_17;
      length_0 = item_length_0;
      runs = runs;
      begun = λ w u v steps cs b fits r. begun_on w u v steps (steps_in cs u v r) b (runs u v cs (slots_pass cs fits) r) (all_pass u v cs fits r);
      lasts = lasts;
      apart = acts_apart;
    }
