-- What C finds of the memory in the words after a datagram and after a sweep (page 02, W-207): the page's, and of a datagram of which no port took an entry
-- what demand 1 lets stand. Assumes nothing.
use native.Mathlib.Omega.{arith}
use Prim.Native.Nat.{ℕ}
use mathlib.Core.Path.{◌≡◌, refl, sym, ap, subst, ◌∙◌}
use mathlib.Core.Logic.{◌⊎◌, inl, inr, ◌≢◌, ⊎_elim}
use mathlib.Core.Bool.{Bool, true, false, not, ◌||◌}
use mathlib.Core.List.{List, [], ◌∷◌}
use lib.ListN.{length, get_or}
use lib.Seq.{get_or-set_same, get_or-set_other}
use lib.Dec.{eqb}
use borrow.Author.Tests.{eq-eqb, eqb-true, eqb-false}
use Rattle.checks.proofs.Bools.{true_false}
use Rattle.checks.proofs.Laws.{none_zero}
use Rattle.address.specs.declared.Slot.{Slot}
use Rattle.header.specs.Read.{header_of}
use Rattle.meaning.specs.Flood.{is_flooded}
use Rattle.records.specs.Fresh.{fresh_pair}
use Rattle.records.specs.declared.PairPlace.{PairPlace}
use Rattle.routes.specs.declared.Record.{Record}
use Rattle.state.specs.Relay.{Memory, put_last, Relay}
use Rattle.state.specs.Seen.{State}
use Rattle.state.specs.Layout.{decode}
use Rattle.floods.specs.Sweep.{swept_memory}
use Rattle.verdict.specs.Numbers.{onward_number}
use Rattle.lent_state.specs.View.{too_long}
use Rattle.judge.specs.Ending.{ending_of}
use Rattle.judge.specs.Remembered.{is_unheard, memory_of}
use Rattle.judge.specs.declared.Ending.{Ending}
use Rattle.relay.specs.Received.{heard_memory}
use Rattle.page.specs.Table.{aim_at, step_rows, destination_is, equals_port, is_limited, is_host, pair_held, some_free}
use Rattle.page.specs.Memory.{lowest_free, kept_place, page_memory}
use Rattle.page.specs.Sought.{FloodSought, FloodNew, FloodNumber}
use Rattle.page.proofs.Exactly.{refusal_number_lem}
use Rattle.page.proofs.Memory.{memory_is_the_page}
use Rattle.page.proofs.Floods.{flood_sought, flood_new, new_kept, others_unkept, free_place_lem}
use Rattle.contracts.specs.Promised.{Result}
use Rattle.history.specs.Calls.{hears, sweeps, own}
use Rattle.history.specs.Seat.{Seat, heard_by, memory_by}
use Rattle.history.specs.Answers.{listed}
use Rattle.history.specs.Refused.{KeptIn}
use Rattle.history.proofs.Heard.{heard_is}
use Rattle.history.proofs.Reach.{kept_after}
use Rattle.history.proofs.Refusals.{heard_stands}
use Rattle.history.proofs.Sums.{sent_where_taken}
use Rattle.demands.specs.Trace.{Customer, number_of, Step, flies, mission_of, history_of, seat_of, relay_for, Gives}
use Rattle.demands.specs.ReadOut.{own_in, memory_in}
use Rattle.demands.specs.Demand1.{PairKept, HeardLeaves}
use Rattle.demands.proofs.Promised.{next_state}
use Rattle.demands.proofs.Traced.{held_words}
use Rattle.demands.proofs.Told.{gives_row, before_own, counters}
use Rattle.demands.proofs.Output.{told}

by_test : {A : Type 0} (t : Bool) → (t ≡ true → A) → (t ≡ false → A) → A
by_test true holds fails = holds refl
by_test false holds fails = fails refl

-- ---- of any relay: the pairs stay, or the datagram is a new flood
module _ (r : Relay) (at second : ℕ) (octets : List ℕ) (room : ℕ) where
  abbrev New : Type 0
  New = FloodNew r at second octets room

  abbrev Stays : Type 0
  Stays = (memory_of r at second octets room).pairs ≡ r.memory.pairs

  abbrev own_or_limited : Bool
  own_or_limited = equals_port r (aim_at r at octets) || destination_is (aim_at r at octets) is_limited

  not_new : (New → ⊥) → Stays ⊎ New
  not_new none = inl (others_unkept r at second octets room none)

  sought_or_stays : FloodSought r at second octets room → Stays ⊎ New
  sought_or_stays s =
      by_test (pair_held r at (header_of octets).fields) (λ held. not_new (λ d. true_false (sym held ∙ d.not_held)))
      (λ not_held. by_test (some_free r) (λ free. inr (record { sought = s; not_held = not_held; free = free }))
      (λ full. not_new (λ d. true_false (sym d.free ∙ full))))

  judged_zero : New → (ending_of r at second octets room).refusal ≡ 0
  judged_zero d = refusal_number_lem r at second octets room ∙ none_zero (step_rows r at second octets room) d.sought.judged

  stays_or_new : Stays ⊎ New
  stays_or_new =
      let refusal = (ending_of r at second octets room).refusal in
      by_test (eqb refusal 0)
      (λ none. by_test (is_host r) (λ host. not_new (λ d. true_false (sym host ∙ d.sought.router)))
      (λ router. by_test (is_flooded (header_of octets).fields)
      (λ flooded. by_test own_or_limited (λ ours. not_new (λ d. true_false (sym ours ∙ d.sought.not_own)))
      (λ other. sought_or_stays (flood_sought r at second octets room (eqb-true refusal 0 none) router flooded other)))
      (λ plain. not_new (λ d. true_false (sym d.sought.flooded ∙ plain)))))
      (λ refused. not_new (λ d. eqb-false refusal 0 refused (judged_zero d)))

-- a new flood of which no port took an entry is told one of these
abbrev unsent : List ℕ
unsent = 10 ∷ 11 ∷ 13 ∷ 14 ∷ 15 ∷ []

flood_listed : (n : ℕ) → FloodNumber n → n ≢ 1 → listed unsent n ≡ true
flood_listed n is other =
    ⊎_elim (λ e. absurd (other e))
    (⊎_elim (ap (listed unsent))
    (⊎_elim (ap (listed unsent)) (⊎_elim (ap (listed unsent)) (⊎_elim (ap (listed unsent)) (ap (listed unsent)))))) is

-- ---- after a trace
module _ (who : Customer) (steps : List Step) where
  abbrev seat : Seat
  seat = seat_of who steps

  -- what the words held before any step
  pub before_memory : (c : Step) (x : Result) (g : Gives steps c x) → memory_in (mission_of who g.before) ≡ (seat_of who steps).memory
  before_memory c x g = ap (λ (s : State). s.memory) (before_own who steps c x g)

  module _ (rs : List Record) (at : ℕ) (slot : Slot) (second : ℕ) (octets output : List ℕ) (x : Result)
      (g : Gives steps (flies who (hears rs at slot second octets output)) x) where
    abbrev room : ℕ
    room = length output

    abbrev r : Relay
    r = relay_for who steps rs

    abbrev e : Ending
    e = heard_by seat rs at second octets room

    abbrev remembered : Memory
    remembered = memory_by seat rs at second octets room

    pub left_memory : memory_in x.left.mission ≡ memory_by (seat_of who steps) rs at second octets (length output)
    left_memory =
        let c = own (hears rs at slot second octets output) in
        ap (λ (s : State). s.memory)
        (held_words x.left.mission (next_state seat (counters who steps) c) (gives_row who steps c x g).mission).1

    -- with a list that is not too long
    short_memory : too_long rs ≡ false → remembered ≡ memory_of r at second octets room
    unfolding heard_memory
    short_memory short = rw short

    long_memory : too_long rs ≡ true → remembered ≡ seat.memory
    unfolding heard_memory
    long_memory long = rw long

    -- What C finds is the page's.
    pub page_memory_lem : too_long rs ≡ false → memory_in x.left.mission ≡ page_memory (relay_for who steps rs) at second octets (length output)
    page_memory_lem short = left_memory ∙ short_memory short ∙ memory_is_the_page r at second octets room

    -- ---- where no port took an entry
    module _ (none : e.ruling.took ≡ 0) where
      not_sent_lem : onward_number e.ruling.onward ≢ 1
      not_sent_lem is =
          true_false
          (sym (eq-eqb (onward_number e.ruling.onward) 1 is) ∙ sent_where_taken seat rs at second octets room ∙ ap not (eq-eqb e.ruling.took 0 none))

      pair_kept : too_long rs ≡ false → FloodNew r at second octets room
          → (listed unsent (onward_number e.ruling.onward) ≡ true) × PairKept r at second octets seat.memory remembered
      pair_kept short new =
          let place = free_place_lem r at second octets room new.free in
          let is = ap (λ (k : Memory). k.pairs) (short_memory short) ∙ new_kept r at second octets room new in
          let long = (kept_after (number_of who) (history_of who steps)).pairs in
          let number = (flood_new r at second octets room new).0 in
          let same = ap (λ (y : Ending). onward_number y.ruling.onward) (heard_is seat rs at second octets room false short) in (
            flood_listed (onward_number e.ruling.onward) (subst FloodNumber (sym same) number) not_sent_lem,
            record {
              place = lowest_free r;
              inside = place.0;
              free = place.1;
              holds =
                  ap (λ (l : List PairPlace). get_or l (lowest_free r) fresh_pair) is
                  ∙ get_or-set_same seat.memory.pairs (lowest_free r) (kept_place r at second octets) fresh_pair (omega (arith, place.0, long));
              others = λ i other.
                  ap (λ (l : List PairPlace). get_or l i fresh_pair) is
                  ∙ get_or-set_other seat.memory.pairs (lowest_free r) i (kept_place r at second octets) fresh_pair other;
            },
          )

      pairs_left : (remembered.pairs ≡ seat.memory.pairs)
          ⊎ ((listed unsent (onward_number e.ruling.onward) ≡ true) × PairKept r at second octets seat.memory remembered)
      pairs_left =
          by_test (too_long rs) (λ long. inl (ap (λ (k : Memory). k.pairs) (long_memory long)))
          (λ short.
          ⊎_elim (λ stays. inl (ap (λ (k : Memory). k.pairs) (short_memory short) ∙ stays)) (λ new. inr (pair_kept short new))
          (stays_or_new r at second octets room))

      last_left : (remembered ≡ put_last seat.memory second) ⊎ KeptIn seat.memory second remembered → remembered.last ≡ second
      last_left = ⊎_elim (λ is. ap (λ (k : Memory). k.last) is) (λ in_place. ap (λ (k : Memory). k.last) in_place.kept)

      of_seat : HeardLeaves r rs at second octets room x seat.memory remembered
      of_seat =
          let parts = told who steps rs at slot second octets output x g in
          let stands = heard_stands seat rs at second octets room in
          record {
            unheard = λ un. stands.unheard (ap is_unheard (sym parts.refusal) ∙ un);
            heard = λ not-un.
                let accepted = stands.heard (ap is_unheard (sym parts.refusal) ∙ not-un) in
                (accepted.0, last_left accepted.1);
            pairs = rw parts.onward pairs_left;
            page = λ short. short_memory short ∙ memory_is_the_page r at second octets room;
          }

      pub heard_leaves : HeardLeaves (relay_for who steps rs) rs at second octets (length output) x (memory_in (mission_of who g.before)) (memory_in x.left.mission)
      heard_leaves =
          subst (λ (k : Memory). HeardLeaves r rs at second octets room x k (memory_in x.left.mission))
          (sym (before_memory (flies who (hears rs at slot second octets output)) x g))
          (subst (HeardLeaves r rs at second octets room x seat.memory) (sym left_memory) of_seat)

  -- ---- a sweep
  module _ (second : ℕ) (x : Result) (g : Gives steps (flies who (sweeps second)) x) where
    after : decode x.left.mission ≡ next_state seat (counters who steps) (own (sweeps second))
    after =
        (held_words x.left.mission (next_state seat (counters who steps) (own (sweeps second)))
        (gives_row who steps (own (sweeps second)) x g).mission).1

    pub sweep_memory : memory_in x.left.mission ≡ swept_memory (seat_of who steps).board.lifetime second (seat_of who steps).memory
    sweep_memory = ap (λ (s : State). s.memory) after

    -- Settings and queues stay.
    pub sweep_own : own_in x.left.mission ≡ own_in (mission_of who g.before)
    sweep_own = ap (λ (s : State). s.mission) after ∙ ap (λ (s : State). s.mission) (sym (before_own who steps (flies who (sweeps second)) x g))
