-- Demand 3 is kept. Assumes nothing.
use native.Mathlib.Omega.{arith}
use Prim.Native.Nat.{ℕ, ◌<◌}
use mathlib.Core.Path.{◌≡◌, refl, sym, ap, ◌∙◌}
use mathlib.Core.Bool.{false, Bool, true}
use mathlib.Core.List.{List, [], ◌∷◌, ◌++◌}
use lib.ListN.{length}
use lib.Dec.{ltb}
use borrow.Author.Tests.{lt-ltb, ltb-false}
use Rattle.checks.specs.Order.{pick}
use Rattle.header.proofs.Refusals.{read_good}
use Rattle.address.specs.declared.Slot.{Slot}
use Rattle.judge.specs.declared.Ending.{Ending}
use Rattle.page.proofs.Verdict.{verdict_is_the_page}
use Rattle.sets.specs.Limits.{port_count, counter_count}
use Rattle.sets.specs.Sets.{in_set}
use Rattle.queue.specs.Queue.{entry_places}
use Rattle.queue.specs.Waits.{rank_by}
use Rattle.queue.proofs.Waits.{chosen_asked, waits_count, waits_fits}
use Rattle.queue.specs.declared.Entry.{Entry}
use Rattle.routes.specs.declared.Record.{Record}
use Rattle.state.specs.Relay.{Mission, counter_in, queue_at}
use Rattle.answers.specs.Answers.{taking_number}
use Rattle.harpjuniper_relay.specs.Face.{counter_answer, waiting_answer}
use Rattle.contracts.specs.Promised.{Result}
use Rattle.history.specs.Calls.{counter, waiting, MissionCall, takes, Call, operator, own, looks, hears}
use Rattle.history.specs.Seat.{Seat, heard_by}
use Rattle.history.specs.Outcome.{own_outcome, next}
use Rattle.history.specs.Line.{entry_of, line_at, copy_of, taken_own}
use Rattle.history.specs.Foretold.{answered_own, answered_from}
use Rattle.listing.proofs.Counting.{seen_contiguous}
use Rattle.history.proofs.Heard.{heard_is}
use Rattle.history.proofs.Sums.{counted_as_written}
use Rattle.history.proofs.Ledger as ledgers
use Rattle.history.proofs.Line.{queue_waits, out_or_waiting, taken_in_turn, line_in_turn}
use Rattle.history.proofs.Foretold.{foretold_over_histories, answers_are_handed, stands_behind, refused_idle, other_take_idle, idle_counts_nothing, not_taken_idle, not_replied_idle, setting_idle, sweep_idle, look_idle, operator_idle}
use Rattle.history.proofs.Takes.{take_is}
use Rattle.history.proofs.Fair.{fair}
use Rattle.demands.specs.Trace.{Customer, number_of, Step, flies, Words, Trace, AllPass, Begun, history_of, seat_of, relay_for, Gives}
use Rattle.demands.specs.ReadOut.{own_out, entries_in, took_in}
use Rattle.demands.specs.Demand3.{placed_by, Demand3}
use Rattle.demands.proofs.Told.{gives_row, counters}
use Rattle.demands.proofs.ReadOut.{read_out_lem}
use Rattle.demands.proofs.Over.{over_calls, over_is}
use Rattle.demands.proofs.Output.{told, was, takes_some, header_found}

-- ---- what hj_counter and hj_waiting answer
counter_is : (l : List ℕ) (i : ℕ) → i < counter_count → counter_answer l i ≡ counter_in l i
unfolding counter_answer
counter_is l i h = simp (lt-ltb i counter_count h)

waiting_is : (m : Mission) (p : ℕ) → p < port_count → waiting_answer m p ≡ (queue_at m p).count
unfolding waiting_answer
waiting_is m p h = simp (lt-ltb p port_count h)

module _ (who : Customer) (steps : List Step) where
  abbrev h : List Call
  h = history_of who steps

  abbrev m : ℕ
  m = number_of who

  abbrev seat : Seat
  seat = seat_of who steps

  pub counter_reads : (i : ℕ) (x : Result) → i < counter_count → Gives steps (flies who (looks (counter i))) x → x.answer ≡ counter_in (counters who steps) i
  counter_reads i x inside g = (gives_row who steps (own (looks (counter i))) x g).answer ∙ counter_is (counters who steps) i inside

  pub waiting_reads : (p : ℕ) (x : Result) → p < port_count → Gives steps (flies who (looks (waiting p))) x → x.answer ≡ (queue_at seat.mission p).count
  waiting_reads p x inside g = (gives_row who steps (own (looks (waiting p))) x g).answer ∙ waiting_is seat.mission p inside

  many_wait : (p : ℕ) → p < port_count → (queue_at seat.mission p).count ≡ length (line_at p m h)
  many_wait p inside = waits_count entry_of (queue_waits p inside m h)

  -- a queue that is not under 32 has 32
  pub full_is : (p : ℕ) → p < port_count → ltb (queue_at seat.mission p).count entry_places ≡ false → (queue_at seat.mission p).count ≡ entry_places
  full_is p inside full =
      let fits = waits_fits entry_of (queue_waits p inside m h) in
      let over = ltb-false (queue_at seat.mission p).count entry_places full in
      omega (arith, fits, over, many_wait p inside)

-- ---- what is handed out is told
-- the entries that the answers of a history give, from its seat on
entries_are : (p : ℕ) (cs : List Call) (x : Seat)
    → over_calls [] ◌++◌ (λ (y : Seat) (c : MissionCall). answered_own p c (own_outcome y c).answer) x cs ≡ answered_from p x cs
entries_are p [] x = refl
entries_are p (operator c ∷ cs) x = entries_are p cs (next x (operator c))
entries_are p (own c ∷ cs) x = ap (λ (l : List Entry). answered_own p c (own_outcome x c).answer ++ l) (entries_are p cs (next x (own c)))

entries_told : (who : Customer) (p : ℕ) (ds steps : List Step) (w v u : Words) → Begun w steps v → (t : Trace v ds u) → AllPass ds
    → entries_in who p ds v u t ≡ answered_from p (seat_of who steps) (history_of who ds)
entries_told who p ds steps w v u b t all =
    over_is [] ◌++◌ (λ (y : Words) (c : MissionCall) (x : Result). answered_own p c (own_out c x.answer))
    (λ (y : Seat) (c : MissionCall). answered_own p c (own_outcome y c).answer) who
    (λ steps c x g. ap (answered_own p c) (read_out_lem who steps (own c) x g)) ds steps w v u b t all
    ∙ entries_are p (history_of who ds) (seat_of who steps)

-- ---- the copies of a datagram
module _ (who : Customer) (steps : List Step) (rs : List Record) (p at : ℕ) (slot : Slot) (when : ℕ) (octets output : List ℕ) (x : Result)
    (g : Gives steps (flies who (hears rs at slot when octets output)) x) where
  abbrev e : Ending
  e = heard_by (seat_of who steps) rs at when octets (length output)

  -- what a port took was read, and has the header's size and precedence, and the header that C finds for it
  placed_case : (t : Bool) → in_set p e.ruling.took ≡ t
      → pick t (copy_of p (length (history_of who steps)) (seat_of who steps) at slot octets e ∷ []) []
      ≡ pick t (placed_by who steps p at slot octets x ∷ []) []
  placed_case true took =
      let came = was who steps rs at slot when octets output x g (takes_some who steps rs at slot when octets output x g p took) in
      let is = ((read_good octets came.header).0 came.read).1 in
      rw (came.size, came.precedence, is, header_found who steps rs at slot when octets output x g p took)
  placed_case false took = refl

  placed : taken_own p (length (history_of who steps)) (seat_of who steps) (hears rs at slot when octets output)
      ≡ pick (in_set p (took_in x)) (placed_by who steps p at slot octets x ∷ []) []
  placed = placed_case (in_set p e.ruling.took) refl ∙ rw (told who steps rs at slot when octets output x g).took

pub demand_3 : Demand3
demand_3 =
    record {
      counters = λ who steps i x inside g. counter_reads who steps i x inside g ∙ counted_as_written i inside (number_of who) (history_of who steps);
      ledger = λ who steps p x inside g. rw (waiting_reads who steps p x inside g) (ledgers.ledger p inside (number_of who) (history_of who steps));
      dropped_by_32 = λ who steps rs p at slot when octets output x y inside g dropped k.
          let is = (told who steps rs at slot when octets output x g).dropped in
          waiting_reads who steps p y inside k
          ∙ full_is who steps p inside
          ((fair (seat_of who steps) p inside rs at when octets (length output)).full (sym (ap (in_set p) is) ∙ dropped));
      copies_told = λ who steps rs p at slot when octets output x inside g short.
          let seat = seat_of who steps in
          let page = verdict_is_the_page (relay_for who steps rs) (seen_contiguous seat.board rs seat.number) at when octets (length output) in
          let parts = told who steps rs at slot when octets output x g in (
            ap (λ (z : Ending). in_set p z.ruling.granted) (heard_is seat rs at when octets (length output) false short) ∙ page.ruling.granted p inside,
            (ap (in_set p) (sym parts.took), ap (in_set p) (sym parts.dropped)),
          );
      placed = placed;
      waiting_are = λ who steps p test. out_or_waiting p test (number_of who) (history_of who steps);
      waiting_in_turn = λ who steps p. (taken_in_turn p (number_of who) (history_of who steps), line_in_turn p (number_of who) (history_of who steps));
      waiting_many = λ who steps p x inside g. waiting_reads who steps p x inside g ∙ many_wait who steps p inside;
      order = λ who steps p x g. (
        (gives_row who steps (own (takes p)) x g).answer ∙ ap taking_number (take_is (number_of who) (history_of who steps) p),
        chosen_asked (rank_by entry_of) (line_at p (number_of who) (history_of who steps)),
      );
      foretold = λ m cs ds c p k x placed. foretold_over_histories p m cs c x placed ds k;
      foretold_behind = λ m cs c p x inside placed. stands_behind p m cs c x placed inside;
      foretold_idle = λ m cs ds c p x idle. idle_counts_nothing p m x cs c ds idle;
      foretold_refused = λ m cs c p. refused_idle p m cs c;
      foretold_others = λ m cs p. (other_take_idle p m cs, (not_taken_idle p m cs, (not_replied_idle p m cs, (setting_idle p m cs, (sweep_idle p m cs, (look_idle p m cs, operator_idle p m cs))))));
      handed_is_told = λ who steps later p w v u b t all.
          entries_told who p later steps w v u b t all ∙ sym (answers_are_handed p (number_of who) (history_of who later) (history_of who steps));
    }
