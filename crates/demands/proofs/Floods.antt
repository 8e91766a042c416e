-- Floods as C sees them over any steps: the theorems of crate `history` on pairs and seconds, of what the words hold and of what C is told. Assumes nothing.
use native.Mathlib.Omega.{arith}
use Prim.Native.Nat.{ℕ, ◌+◌, ◌<◌, ◌≤◌}
use mathlib.Core.Path.{◌≡◌, refl, sym, ap, ap₂, subst, subst⁻¹, ◌∙◌}
use mathlib.Core.Logic.{◌↔◌, ◌≢◌}
use mathlib.Core.Bool.{Bool, true, false, not, ◌&&◌, ◌||◌}
use mathlib.Core.List.{List, [], ◌∷◌, ◌++◌}
use lib.ListN.{length, get_or}
use lib.Dec.{eqb}
use borrow.Author.Tests.{lt-ltb, eqb-true}
use Rattle.checks.specs.Order.{pick, first_of}
use Rattle.checks.proofs.Bools.{true_false, refuted, and_true, or_false}
use Rattle.address.specs.declared.Slot.{Slot}
use Rattle.header.specs.Read.{read_of, header_of}
use Rattle.header.specs.declared.Fields.{Fields}
use Rattle.header.specs.declared.Header.{Header}
use Rattle.checks.specs.Told.{Good}
use Rattle.header.proofs.Answers.{read_in_range}
use Rattle.header.proofs.Refusals.{read_good}
use Rattle.survey.proofs.Bits.{in_none}
use Rattle.sets.specs.Limits.{port_count, pair_places}
use Rattle.sets.specs.Sets.{in_set, any_below}
use Rattle.sets.proofs.Anywhere.{any_found, any_is}
use Rattle.meaning.specs.Names.{origin_of}
use Rattle.meaning.specs.Flood.{is_flooded, source_in, pair_of}
use Rattle.meaning.proofs.Marks.{StampHeld, stamp_held, stamp_told}
use Rattle.queue.specs.Order.{InOrder}
use Rattle.records.specs.Held.{same_pair, holds_pair, is_free}
use Rattle.records.specs.declared.Pair.{Pair}
use Rattle.records.specs.declared.PairPlace.{PairPlace}
use Rattle.records.proofs.Pairs.{holds_is}
use Rattle.routes.specs.declared.Record.{Record}
use Rattle.state.specs.Relay.{Memory, pair_at, port_in}
use Rattle.state.specs.Seen.{Board, State, seated}
use Rattle.state.specs.Layout.{decode_board, decode, pair_words}
use Rattle.lent_state.specs.Read.{word_answer}
use Rattle.verdict.specs.Numbers.{local_number, onward_number}
use Rattle.verdict.specs.declared.Local.{Local}
use Rattle.verdict.specs.declared.Local.TheVariants as local
use Rattle.verdict.specs.declared.Onward.{Onward}
use Rattle.verdict.specs.declared.Onward.TheVariants as onward
use Rattle.verdict.specs.declared.Ruling.{Ruling}
use Rattle.floods.specs.Memory.{is_held}
use Rattle.floods.specs.Sweep.{is_old, swept, sweep_checks, swept_memory}
use Rattle.floods.proofs.Held.{held_at, at_held}
use Rattle.floods.proofs.Swept.{old_is, young_stays, swept_held}
use Rattle.page.specs.Table.{some_port, nobody}
use Rattle.page.proofs.Sets.{empty_is}
use Rattle.harpjuniper_reads.specs.Back.{pair_answer}
use Rattle.contracts.specs.Promised.{Result}
use Rattle.history.specs.Calls.{pair_word, last_second, MissionCall, sets, hears, echoes, takes, sweeps, looks, Call, operator, own}
use Rattle.history.specs.Seat.{Seat, heard_by}
use Rattle.history.specs.Outcome.{own_outcome, next}
use Rattle.history.specs.Answers.{listed}
use Rattle.history.specs.Ledger.{one}
use Rattle.history.specs.Ranges.{Octets}
use Rattle.history.specs.Floods.{pair_in, Among, HeldIn, held_after, accepted_own, accepted_from, accepted_seconds, greatest, floods_own, floods_from, frees_own, NoneFrees}
use Rattle.history.proofs.Fair.{fair}
use Rattle.history.proofs.Floods as histories
use Rattle.history.proofs.Listed.{each_obstacle}
use Rattle.history.proofs.Small.{sets_small}
use Rattle.demands.specs.Trace.{Customer, number_of, Step, flies, Words, mission_of, Trace, AllPass, Begun, history_of, board_of, seat_of, Gives}
use Rattle.demands.specs.ReadOut.{own_out, ended_by, local_in, onward_in, memory_in}
use Rattle.demands.specs.Floods.{pair_on, source_on, goes_on, times_on, frees, some_frees, accepted_in, GoesNowhere, Floods}
use Rattle.demands.proofs.Traced.{board_is, words_board, words_own}
use Rattle.demands.proofs.Told.{gives_row}
use Rattle.demands.proofs.ReadOut.{read_out_lem}
use Rattle.demands.proofs.Output.{told}
use Rattle.demands.proofs.Over.{over_calls, Agree, over_is}
use Rattle.demands.proofs.Remembers.{before_memory, sweep_memory}

-- ---- what a sweep frees, said of the pairs before it and after it: no pair stands in two places
module _ (k : Memory)
    (unique : (i j : ℕ) → i < 64 → j < 64 → is_free (pair_at k i) ≡ false → (pair_at k i).pair ≡ (pair_at k j).pair → i ≡ j)
    (lifetime second : ℕ) (q : Pair) where
  abbrev freed : ℕ → Bool
  freed i = holds_pair (pair_at k i) q && is_old lifetime second (pair_at k i)

  -- where a place that holds it is old, no other holds it
  freed_gone : any_below freed 64 ≡ true → (is_held k q ≡ true) × (is_held (swept lifetime second k) q ≡ false)
  freed_gone some =
      let at = (any_is freed 64).0 some in
      let i = at.0 in
      let both = and_true (holds_pair (pair_at k i) q) (is_old lifetime second (pair_at k i)) at.2 in
      let here = (holds_is (pair_at k i) q).0 both.0 in
      let dated = ((old_is lifetime second (pair_at k i)).0 both.1).0 in (
        at_held k q i at.1 both.0,
        refuted _ (λ still.
            let there = (swept_held lifetime second k q (λ z. dated (ap (λ (p : Pair). p.format) here ∙ z))).0 still in
            let same : i ≡ there.0 =
            unique i there.0 at.1 there.1 (refuted _ (λ free. dated (eqb-true (pair_at k i).pair.format 0 free)))
            (here ∙ sym ((holds_is (pair_at k there.0) q).0 there.2.1)) in
            true_false (sym both.1 ∙ ap (λ (j : ℕ). is_old lifetime second (pair_at k j)) same ∙ there.2.0)),
      )

  -- and where none is, it is still held
  unfreed_stays : any_below freed 64 ≡ false → is_held k q ≡ true → is_held (swept lifetime second k) q ≡ true
  unfreed_stays none held =
      let at = held_at k q held in
      let young : is_old lifetime second (pair_at k at.0) ≡ false =
      refuted _ (λ old. true_false (sym (any_found freed at.0 64 at.1 (rw at.2 old)) ∙ none)) in
      at_held (swept lifetime second k) q at.0 at.1
      (ap (λ (x : PairPlace). holds_pair x q) (young_stays lifetime second k at.0 young) ∙ at.2)

  swept_frees : (is_held k q && not (is_held (swept lifetime second k) q)) ≡ any_below freed 64
  swept_frees = by (any_below freed 64) refl (is_held k q) refl
    where
      by : (t : Bool) → any_below freed 64 ≡ t → (h : Bool) → is_held k q ≡ h → (h && not (is_held (swept lifetime second k) q)) ≡ t
      by true some true held = ap not (freed_gone some).1
      by true some false none = true_false (sym (freed_gone some).0 ∙ none)
      by false none true held = ap not (unfreed_stays none held)
      by false none false out = refl

  sweep_frees : (is_held k q && not (is_held (swept_memory lifetime second k) q)) ≡ (eqb (first_of (sweep_checks k second)) 0 && any_below freed 64)
  unfolding swept_memory
  sweep_frees = by (eqb (first_of (sweep_checks k second)) 0)
    where
      neither : (h : Bool) → (h && not h) ≡ false
      neither true = refl
      neither false = refl

      by : (t : Bool) → (is_held k q && not (is_held (pick t (swept lifetime second k) k) q)) ≡ (t && any_below freed 64)
      by true = swept_frees
      by false = neither (is_held k q)

-- ---- over calls
floods_are : (q : Pair) (cs : List Call) (x : Seat) → over_calls 0 ◌+◌ (floods_own q) x cs ≡ floods_from q x cs
floods_are q [] x = refl
floods_are q (operator c ∷ cs) x = let rest = floods_are q cs (next x (operator c)) in omega (arith, rest)
floods_are q (own c ∷ cs) x = ap (λ (n : ℕ). floods_own q x c + n) (floods_are q cs (next x (own c)))

none_frees : (q : Pair) (cs : List Call) (x : Seat) → over_calls false ◌||◌ (frees_own q) x cs ≡ false → NoneFrees q x cs
none_frees q [] x h = tt
none_frees q (operator c ∷ cs) x h = (refl, none_frees q cs (next x (operator c)) h)
none_frees q (own c ∷ cs) x h = let both = or_false (frees_own q x c) _ h in (both.0, none_frees q cs (next x (own c)) both.1)

abbrev accepted_of : Seat → MissionCall → List ℕ
accepted_of y c = accepted_own c (own_outcome y c).answer

seconds_are : (cs : List Call) (x : Seat) → over_calls [] ◌++◌ accepted_of x cs ≡ accepted_from x cs
seconds_are [] x = refl
seconds_are (operator c ∷ cs) x = seconds_are cs (next x (operator c))
seconds_are (own c ∷ cs) x = ap (λ (l : List ℕ). accepted_of x c ++ l) (seconds_are cs (next x (own c)))

-- ---- the pair of a datagram, by the words and by the seat
pair_on_lem : (who : Customer) (w : Words) (steps : List Step) (v : Words) → Begun w steps v → (at : ℕ) (octets : List ℕ)
    → pair_on who v at octets ≡ pair_in (seat_of who steps) at octets
pair_on_lem who w steps v b at octets =
    ap₂ (λ (y : Board) (s : State). pair_of (port_in (seated y s) at).address.0 (header_of octets).fields) (words_board who w steps v b)
    (words_own who w steps v b)

memory_is : (who : Customer) (w : Words) (steps : List Step) (v : Words) → Begun w steps v → memory_in (mission_of who v) ≡ (seat_of who steps).memory
memory_is who w steps v b = ap (λ (s : State). s.memory) (words_own who w steps v b)

-- ---- what C is told of one pair
module _ (who : Customer) (q : Pair) where
  goes_agree : Agree who (goes_on who q) (floods_own q)
  goes_agree steps (sets s) x g = refl
  goes_agree steps (hears rs at slot second octets output) x g =
      ap₂ (λ (p : Pair) (n : ℕ). one (is_flooded (header_of octets).fields && (same_pair p q && listed (1 ∷ 10 ∷ 11 ∷ 13 ∷ 14 ∷ 15 ∷ []) n)))
      (pair_on_lem who g.lent steps g.before g.begun at octets) (told who steps rs at slot second octets output x g).onward
  goes_agree steps (echoes rs at slot octets output) x g = refl
  goes_agree steps (takes p) x g = refl
  goes_agree steps (sweeps second) x g = refl
  goes_agree steps (looks l) x g = refl

  frees_agree : Agree who (frees who q) (frees_own q)
  frees_agree steps (sets s) x g = refl
  frees_agree steps (hears rs at slot second octets output) x g = refl
  frees_agree steps (echoes rs at slot octets output) x g = refl
  frees_agree steps (takes p) x g = refl
  frees_agree steps (sweeps second) x g =
      let seat = seat_of who steps in
      ap₂ (λ (k l : Memory). is_held k q && not (is_held l q)) (before_memory who steps (flies who (sweeps second)) x g) (sweep_memory who steps second x g)
      ∙ sweep_frees seat.memory (histories.one_place_each (number_of who) (history_of who steps)) seat.board.lifetime second q
  frees_agree steps (looks l) x g = refl

  module _ (steps later : List Step) (w v u : Words) (b : Begun w steps v) (t : Trace v later u) (all : AllPass later)
      (unfreed : some_frees who q later v u t ≡ false) where
    none : NoneFrees q (seat_of who steps) (history_of who later)
    none =
        none_frees q (history_of who later) (seat_of who steps)
        (sym (over_is false ◌||◌ (frees who q) (frees_own q) who frees_agree later steps w v u b t all) ∙ unfreed)

    times_are : times_on who q later v u t ≡ floods_from q (seat_of who steps) (history_of who later)
    times_are =
        over_is 0 ◌+◌ (goes_on who q) (floods_own q) who goes_agree later steps w v u b t all ∙ floods_are q (history_of who later) (seat_of who steps)

    once : times_on who q later v u t ≤ 1
    once = rw times_are (histories.flooded_once (number_of who) (history_of who steps) (history_of who later) q none)

    none_while_held : is_held (memory_in (mission_of who v)) q ≡ true → times_on who q later v u t ≡ 0
    none_while_held held =
        times_are
        ∙ histories.held_not_flooded (number_of who) (history_of who steps) (history_of who later) q none
        (ap (λ (k : Memory). is_held k q) (sym (memory_is who w steps v b)) ∙ held)

-- ---- a datagram whose pair is held
-- a set with none of the eight ports is 0
no_port_lem : (n : ℕ) → n < 256 → ((p : ℕ) → p < port_count → in_set p n ≡ false) → n ≡ 0
unfolding some_port
no_port_lem n small out = eqb-true n 0 (empty_is n nobody small out)

-- numbers of the halves that are 0
no_local : (l : Local) → local_number l ≡ 0 → l ≡ local.No
no_local local.No e = refl
no_local local.Delivered e = absurd (omega (arith, e))
no_local local.Unknown e = absurd (omega (arith, e))

no_onward : (o : Onward) → onward_number o ≡ 0 → o ≡ onward.NotAsked
no_onward onward.NotAsked e = refl
no_onward onward.SentOn e = absurd (omega (arith, e))
no_onward (onward.Refused o) e =
    absurd
    (each_obstacle (λ (n : ℕ). n ≡ 0 → ⊥)
    ((λ z. omega (arith, z)), ((λ z. omega (arith, z)), ((λ z. omega (arith, z)), ((λ z. omega (arith, z)), ((λ z. omega (arith, z)), ((λ z. omega (arith, z)), (λ z. omega (arith, z)))))))) o e)

module _ (who : Customer) (steps : List Step) (rs : List Record) (at : ℕ) (slot : Slot) (second : ℕ) (octets output : List ℕ) (x : Result)
    (g : Gives steps (flies who (hears rs at slot second octets output)) x) where
  abbrev seat : Seat
  seat = seat_of who steps

  abbrev ruling : Ruling
  ruling = (heard_by seat rs at second octets (length output)).ruling

  -- a pair that the words hold is one that the seat holds
  held_is : is_held (memory_in (mission_of who g.before)) (pair_on who g.before at octets) ≡ is_held seat.memory (pair_in seat at octets)
  held_is =
      ap₂ is_held (before_memory who steps (flies who (hears rs at slot second octets output)) x g)
      (pair_on_lem who g.lent steps g.before g.begun at octets)

  -- where nobody is granted a copy, nobody takes it and nobody drops it
  split : ruling.granted ≡ 0 → (p : ℕ) → p < port_count → (in_set p ruling.took ≡ false) × (in_set p ruling.dropped ≡ false)
  split none p inside =
      by (in_set p ruling.took) (in_set p ruling.dropped)
      (sym (fair seat p inside rs at second octets (length output)).split ∙ ap (λ (n : ℕ). one (in_set p n)) none ∙ ap one (in_none p))
    where
      by : (t d : Bool) → one t + one d ≡ 0 → (t ≡ false) × (d ≡ false)
      by true d e = absurd (omega (arith, e))
      by false true e = absurd (omega (arith, e))
      by false false e = (refl, refl)

  never_again : is_flooded (header_of octets).fields ≡ true
      → is_held (memory_in (mission_of who g.before)) (pair_on who g.before at octets) ≡ true
      → GoesNowhere x × ((board_of steps).router ≢ 0 → onward_in x ≡ 0)
  never_again flooded held =
      let is = histories.held_never_sent seat rs at second octets (length output) flooded (sym held_is ∙ held) in
      let parts = told who steps rs at slot second octets output x g in
      let small = sets_small seat rs at second octets (length output) in (
        record {
          took = parts.took ∙ no_port_lem ruling.took small.took (λ p inside. (split is.0 p inside).0);
          dropped = parts.dropped ∙ no_port_lem ruling.dropped small.dropped (λ p inside. (split is.0 p inside).1);
        },
        λ router. parts.onward ∙ is.1 (λ z. router (ap (λ (b : Board). b.router) (sym (board_is who steps)) ∙ z)),
      )

  unsaid : ended_by x ≡ 0 → local_in x ≡ 0 → onward_in x ≡ 0
      → ((board_of steps).router ≢ 0)
      × ((is_flooded (header_of octets).fields ≡ true)
      × (is_held (memory_in (mission_of who g.before)) (pair_on who g.before at octets) ≡ true))
  unsaid judged here not_asked_lem =
      let parts = told who steps rs at slot second octets output x g in
      let is =
      histories.unsaid_is_held seat rs at second octets (length output) (sym parts.refusal ∙ judged)
      (no_local ruling.local (sym parts.local ∙ here)) (no_onward ruling.onward (sym parts.onward ∙ not_asked_lem)) in (
        λ z. is.0 (ap (λ (b : Board). b.router) (board_is who steps) ∙ z),
        (is.1.0, held_is ∙ is.1.1),
      )

-- ---- what C reads
pair_word_lem : (k : Memory) (i word : ℕ) → i < pair_places → word < 5 → pair_answer k i word ≡ get_or (pair_words (pair_at k i)) word 0
unfolding pair_answer word_answer
pair_word_lem k i word inside small = simp (lt-ltb i pair_places inside, lt-ltb word 5 small)

-- the trace before its first step
pub begin : {w v : Words} {steps : List Step} → (b : Begun w steps v)
    → Begun w [] (record { board = b.board.left.board; zero = b.zero.left.mission; one = b.one.left.mission })
begin b =
    record {
      board = b.board;
      zero = b.zero;
      one = b.one;
      fresh_board_lem = b.fresh_board_lem;
      fresh_zero = b.fresh_zero;
      fresh_one = b.fresh_one;
      then = refl;
      passed = tt;
    }

seconds_told : (who : Customer) (steps : List Step) (w v : Words) (b : Begun w steps v)
    → accepted_in who steps _ v b.then ≡ accepted_seconds (number_of who) (history_of who steps)
seconds_told who steps w v b =
    over_is [] ◌++◌ (λ (y : Words) (c : MissionCall) (x : Result). accepted_own c (own_out c x.answer)) accepted_of who
    (λ before c x g. ap (accepted_own c) (read_out_lem who before (own c) x g)) steps [] w _ v (begin b) b.then b.passed
    ∙ seconds_are (history_of who steps) (seat_of who [])

-- ---- two pairs
-- equal exactly where what the sources name and the timestamps are
pair_is : (p q : ℕ) (f g : Fields) → StampHeld f.stamp → StampHeld g.stamp
    → (pair_of p f ≡ pair_of q g) ↔ ((source_in (origin_of p f.addresses) ≡ source_in (origin_of q g.addresses)) × (f.stamp ≡ g.stamp))
unfolding pair_of
pair_is p q f g hf hg = (
  λ e. (
    ap (λ (x : Pair). x.source.0) e,
    stamp_told f.stamp g.stamp hf hg (ap (λ (x : Pair). x.format) e) (ap (λ (x : Pair). x.upper) e) (ap (λ (x : Pair). x.lower) e),
  ),
  λ e. rw (e.0, e.1),
)

alike : (who : Customer) (w : Words) (at bt : ℕ) (s t : List ℕ) (h k : Header) → Octets s → Octets t → read_of s ≡ Good h → read_of t ≡ Good k
    → (pair_on who w at s ≡ pair_on who w bt t) ↔ ((source_on who w at s ≡ source_on who w bt t) × (h.fields.stamp ≡ k.fields.stamp))
alike who w at bt s t h k os ot rs rt =
    let hs : h ≡ header_of s = ((read_good s h).0 rs).1 in
    let kt : k ≡ header_of t = ((read_good t k).0 rt).1 in
    let ms = subst (λ (x : Header). StampHeld x.fields.stamp) hs (stamp_held h.fields.stamp (read_in_range s h os rs).stamp) in
    let mt = subst (λ (x : Header). StampHeld x.fields.stamp) kt (stamp_held k.fields.stamp (read_in_range t k ot rt).stamp) in
    let r = seated (decode_board w.board) (decode (mission_of who w)) in
    let is = pair_is (port_in r at).address.0 (port_in r bt).address.0 (header_of s).fields (header_of t).fields ms mt in
    subst⁻¹ (λ (x : Header). (pair_on who w at s ≡ pair_on who w bt t) ↔ ((source_on who w at s ≡ source_on who w bt t) × (x.fields.stamp ≡ k.fields.stamp))) hs
    (subst⁻¹ (λ (x : Header). (pair_on who w at s ≡ pair_on who w bt t) ↔ ((source_on who w at s ≡ source_on who w bt t) × ((header_of s).fields.stamp ≡ x.fields.stamp))) kt is)

pub floods : Floods
floods =
    record {
      alike = alike;
      once = once;
      none_while_held = none_while_held;
      never_again = never_again;
      unsaid = unsaid;
      held = λ who steps w v b x.
          subst (λ (k : Memory). Among x (held_after (number_of who) (history_of who steps)) ↔ HeldIn x k) (sym (memory_is who w steps v b))
          (histories.held_is_listed (number_of who) (history_of who steps) x);
      held_once = λ who steps w v b.
          subst
          (λ (k : Memory). (i j : ℕ) → i < 64 → j < 64 → is_free (pair_at k i) ≡ false → (pair_at k i).pair ≡ (pair_at k j).pair → i ≡ j)
          (sym (memory_is who w steps v b)) (histories.one_place_each (number_of who) (history_of who steps));
      held_most = λ who steps. histories.at_most_64 (number_of who) (history_of who steps);
      held_read = λ who steps i word x g inside small.
          (gives_row who steps (own (looks (pair_word i word))) x g).answer
          ∙ pair_word_lem (seat_of who steps).memory i word inside small
          ∙ ap (λ (k : Memory). get_or (pair_words (pair_at k i)) word 0) (sym (before_memory who steps (flies who (looks (pair_word i word))) x g));
      last = λ who steps x g.
          (gives_row who steps (own (looks last_second)) x g).answer
          ∙ histories.last_is_greatest (number_of who) (history_of who steps)
          ∙ ap greatest (sym (seconds_told who steps g.lent g.before g.begun));
      seconds_never_fall = λ who steps w v b.
          subst (InOrder (λ (m n : ℕ). m ≤ n)) (sym (seconds_told who steps w v b)) (histories.seconds_never_fall (number_of who) (history_of who steps));
    }
