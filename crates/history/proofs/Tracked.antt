-- The list of the pairs that the rules keep (specs/Floods.antt) and the places of the memory: each pair with its second stands as often in the list as in
-- the places, whatever is called. Assumes nothing.
use native.Mathlib.Omega.{arith}
use Prim.Native.Nat.{ℕ, ◌+◌, ◌-◌, ◌≤◌, ◌<◌}
use mathlib.Core.Path.{◌≡◌, refl, sym, ap, ◌∙◌}
use mathlib.Core.Bool.{Bool, true, false, not, ◌&&◌, ◌||◌}
use mathlib.Core.List.{List, [], ◌∷◌, ◌++◌}
use lib.ListN.{length, set, length-set}
use lib.Dec.{eqb, ltb}
use borrow.Author.Tests.{eq-eqb, eqb-true, eqb-false, lt-ltb, ltb-true, not-true}
use Rattle.checks.specs.Order.{pick, first_of}
use Rattle.checks.proofs.Bools.{true_false, refuted, and_true}
use Rattle.sets.proofs.Anywhere.{any_is, any_found}
use Rattle.header.specs.Read.{header_of}
use Rattle.header.specs.declared.Fields.{Fields}
use Rattle.meaning.specs.Flood.{is_flooded}
use Rattle.meaning.specs.declared.Aim.{Aim}
use Rattle.queue.specs.Foretold.{how_many}
use Rattle.queue.proofs.Foretold.{many_append}
use Rattle.records.specs.Fresh.{fresh_pair}
use Rattle.records.specs.Held.{same_pair, holds_pair, is_free}
use Rattle.records.specs.declared.Pair.{Pair}
use Rattle.records.specs.declared.PairPlace.{PairPlace}
use Rattle.records.proofs.Pairs.{same_told}
use Rattle.routes.specs.declared.Record.{Record}
use Rattle.state.specs.Relay.{Memory, pair_at, Relay}
use Rattle.state.specs.Seen.{fresh_memory}
use Rattle.lent_state.specs.View.{too_long}
use Rattle.floods.specs.Memory.{is_held}
use Rattle.floods.specs.Sweep.{is_old, swept_place, swept, sweep_checks, swept_memory}
use Rattle.floods.proofs.Held.{held_at, at_held, free_other}
use Rattle.floods.proofs.Swept.{swept_length}
use Rattle.judge.specs.Ending.{ending_of}
use Rattle.judge.specs.Remembered.{memory_of}
use Rattle.page.specs.Table.{aim_at, destination_is, equals_port, is_limited, is_host, pair_held, some_free}
use Rattle.page.specs.Memory.{floods_on, lowest_free}
use Rattle.page.specs.Sought.{FloodSought, FloodNew}
use Rattle.page.proofs.Exactly.{refusal_number_lem, passed}
use Rattle.page.proofs.Floods.{flood_sought, new_kept, others_unkept, free_place_lem, kept_held}
use Rattle.relay.specs.Received.{heard_memory}
use Rattle.history.specs.Seat.{Seat, fresh_seat, relay_with, memory_by}
use Rattle.history.specs.Calls.{sets, hears, echoes, takes, sweeps, looks, Call, operator, own}
use Rattle.history.specs.Outcome.{next, run_from, seat_after}
use Rattle.history.specs.Ledger.{one}
use Rattle.history.specs.Floods.{pair_in, has_pair, keeps_pair, younger, held_by, held_from, held_after}
use Rattle.history.proofs.Heard.{heard_is}
use Rattle.history.proofs.Many.{many_less, many_both, many_length, many_at, some_at, many_set, many_changed}

-- ---- the list
abbrev pub has_it : Pair → PairPlace → Bool
has_it q x = same_pair x.pair q

has_some : (q : Pair) (l : List PairPlace) → has_pair l q ≡ true → 0 < how_many (has_it q) l
has_some q [] h = true_false (sym h)
has_some q (x ∷ l) h = by (has_it q x) (has_some q l) h
  where
    by : (t : Bool) → (has_pair l q ≡ true → 0 < how_many (has_it q) l) → (t || has_pair l q) ≡ true → 0 < pick t 1 0 + how_many (has_it q) l
    by true rest k = omega arith
    by false rest k = omega (arith, rest k)

has_none : (q : Pair) (l : List PairPlace) → has_pair l q ≡ false → how_many (has_it q) l ≡ 0
has_none q [] h = refl
has_none q (x ∷ l) h = by (has_it q x) (has_none q l) h
  where
    by : (t : Bool) → (has_pair l q ≡ false → how_many (has_it q) l ≡ 0) → (t || has_pair l q) ≡ false → pick t 1 0 + how_many (has_it q) l ≡ 0
    by true rest k = true_false k
    by false rest k = omega (arith, rest k)

-- of those that stay after a sweep
many_younger : (lifetime second : ℕ) (test : PairPlace → Bool) (l : List PairPlace)
    → how_many test (younger lifetime second l) ≡ how_many (λ (y : PairPlace). not (ltb lifetime (second - y.second)) && test y) l
many_younger lifetime second test [] = refl
many_younger lifetime second test (x ∷ l) = by (ltb lifetime (second - x.second)) (many_younger lifetime second test l)
  where
    by : (t : Bool) → how_many test (younger lifetime second l) ≡ how_many (λ (y : PairPlace). not (ltb lifetime (second - y.second)) && test y) l
        → how_many test (pick t (younger lifetime second l) (x ∷ younger lifetime second l))
        ≡ pick (not t && test x) 1 0 + how_many (λ (y : PairPlace). not (ltb lifetime (second - y.second)) && test y) l
    by true k = omega (arith, k)
    by false k = omega (arith, k)

-- ---- list and places
-- a place that holds a pair, and passes a test
abbrev pub holding : (PairPlace → Bool) → PairPlace → Bool
holding test x = not (is_free x) && test x

pub record Tracks (k : Memory) (held : List PairPlace) : Type 0 where
  pub long : length k.pairs ≡ 64
  -- whatever is tested, as many of the list pass it as of the places that hold a pair
  pub same : (test : PairPlace → Bool) → how_many test held ≡ how_many (holding test) k.pairs
  -- no pair stands in the list twice
  pub once : (q : Pair) → how_many (has_it q) held ≤ 1

-- the last second is no part of it
by_pairs : (k l : Memory) (held : List PairPlace) → l.pairs ≡ k.pairs → Tracks k held → Tracks l held
by_pairs k l held e t =
    record {
      long = ap length e ∙ t.long;
      same = λ test. t.same test ∙ ap (how_many (holding test)) (sym e);
      once = t.once;
    }

module _ (k : Memory) (held : List PairPlace) (t : Tracks k held) where
  -- ---- what it says of one pair
  pub held_has : (q : Pair) → (q.format ≡ 0 → ⊥) → is_held k q ≡ true → has_pair held q ≡ true
  unfolding holds_pair
  held_has q dated h = by (has_pair held q) refl
    where
      by : (u : Bool) → has_pair held q ≡ u → u ≡ true
      by true e = refl
      by false e =
          let at = held_at k q h in
          let filled = refuted (is_free (pair_at k at.0)) (λ free. free_other k q at.0 dated free at.2) in
          let some = many_at (holding (has_it q)) fresh_pair k.pairs at.0 (omega (arith, at.1, t.long)) (rw filled at.2) in
          absurd (omega (arith, some, t.same (has_it q), has_none q held e))

  pub has_held : (q : Pair) → has_pair held q ≡ true → is_held k q ≡ true
  unfolding holds_pair
  has_held q h =
      let at = some_at (holding (has_it q)) fresh_pair k.pairs (omega (arith, has_some q held h, t.same (has_it q))) in
      at_held k q at.0 (omega (arith, at.1, t.long)) (and_true (not (is_free (pair_at k at.0))) _ at.2).1

  -- ---- and of the free places
  abbrev every : PairPlace → Bool
  every x = true

  -- as many places hold a pair as the list has
  many_held : length held ≡ how_many (holding every) k.pairs
  many_held = sym (many_length held) ∙ t.same every

  both_held : how_many (holding every) k.pairs + how_many (λ (x : PairPlace). not (holding every x)) k.pairs ≡ 64
  both_held = many_both (holding every) k.pairs ∙ t.long

  free_case : (u : Bool) → not (not u && true) ≡ u
  free_case true = refl
  free_case false = refl

  pub few_free : length held < 64 → (i : ℕ) × (i < 64) × (is_free (pair_at k i) ≡ true)
  few_free few =
      let at = some_at (λ (x : PairPlace). not (holding every x)) fresh_pair k.pairs (omega (arith, few, many_held, both_held)) in
      (at.0, omega (arith, at.1, t.long), sym (free_case (is_free (pair_at k at.0))) ∙ at.2)

  pub free_few : (i : ℕ) → i < 64 → is_free (pair_at k i) ≡ true → length held < 64
  free_few i inside free =
      let some =
      many_at (λ (x : PairPlace). not (holding every x)) fresh_pair k.pairs i (omega (arith, inside, t.long)) (free_case (is_free (pair_at k i)) ∙ free) in
      omega (arith, some, many_held, both_held)

  pub at_most : length held ≤ 64
  at_most = omega (arith, many_held, both_held)

  -- ---- a pair that is kept in a free place
  module _ (place : ℕ) (x : PairPlace) (inside : place < 64) (free : is_free (pair_at k place) ≡ true) (filled : is_free x ≡ false)
      (new : has_pair held x.pair ≡ false) where
    kept_same : (test : PairPlace → Bool) → how_many test (held ++ (x ∷ [])) ≡ how_many (holding test) (set k.pairs place x)
    kept_same test =
        let is : holding test x ≡ test x = rw filled refl in
        let was : holding test (pair_at k place) ≡ false = rw free refl in
        omega (
          arith,
          many_append test held (x ∷ []),
          t.same test,
          many_set (holding test) fresh_pair k.pairs place x (omega (arith, inside, t.long)) was,
          ap one is,
        )

    kept_once : (q : Pair) → how_many (has_it q) (held ++ (x ∷ [])) ≤ 1
    kept_once q = by (has_it q x) refl
      where
        by : (u : Bool) → has_it q x ≡ u → how_many (has_it q) (held ++ (x ∷ [])) ≤ 1
        by true e =
            let none : how_many (has_it q) held ≡ 0 = has_none q held (ap (has_pair held) (sym (same_told x.pair q e)) ∙ new) in
            omega (arith, many_append (has_it q) held (x ∷ []), none, ap one e)
        by false e = omega (arith, many_append (has_it q) held (x ∷ []), t.once q, ap one e)

    kept_tracks : (l : Memory) → l.pairs ≡ set k.pairs place x → Tracks l (held ++ (x ∷ []))
    kept_tracks l e =
        record {
          long = ap length e ∙ length-set k.pairs place x ∙ t.long;
          same = λ test. kept_same test ∙ ap (how_many (holding test)) (sym e);
          once = kept_once;
        }

  -- ---- a sweep
  swept_case : (lifetime second : ℕ) (test : PairPlace → Bool) (x : PairPlace)
      → holding test (swept_place lifetime second x) ≡ holding (λ (y : PairPlace). not (ltb lifetime (second - y.second)) && test y) x
  unfolding is_old
  swept_case lifetime second test x = by (is_free x) refl (ltb lifetime (second - x.second))
    where
      by : (free : Bool) → is_free x ≡ free → (old : Bool)
          → holding test (pick (not free && old) fresh_pair x) ≡ (not free && (not old && test x))
      by true e old = rw e refl
      by false e true = refl
      by false e false = rw e refl

  swept_tracks : (lifetime second : ℕ) → Tracks (swept lifetime second k) (younger lifetime second held)
  unfolding swept
  swept_tracks lifetime second =
      record {
        long = swept_length lifetime second k ∙ t.long;
        same =
            λ test.
            many_younger lifetime second test held
            ∙ t.same (λ (y : PairPlace). not (ltb lifetime (second - y.second)) && test y)
            ∙ sym (many_changed (holding test) _ (swept_place lifetime second) (swept_case lifetime second test) k.pairs);
        once =
            λ q.
            omega (
              arith,
              many_younger lifetime second (has_it q) held,
              many_less (λ (y : PairPlace). not (ltb lifetime (second - y.second)) && has_it q y) (has_it q) (λ y h. (and_true (not (ltb lifetime (second - y.second))) (has_it q y) h).1) held,
              t.once q,
            );
      }

-- ---- a datagram
-- the page's test of the pair is the one of the memory
pub pair_held_is : (seat : Seat) (rs : List Record) (port : ℕ) (octets : List ℕ)
    → pair_held (relay_with seat rs) port (header_of octets).fields ≡ is_held seat.memory (pair_in seat port octets)
unfolding pair_held is_held
pair_held_is seat rs port octets = refl

module _ (seat : Seat) (rs : List Record) (port second : ℕ) (octets : List ℕ) (room : ℕ) (held : List PairPlace) (t : Tracks seat.memory held) where
  abbrev r : Relay
  r = relay_with seat rs

  abbrev x : Aim
  x = aim_at r port octets

  abbrev f : Fields
  f = (header_of octets).fields

  abbrev q : Pair
  q = pair_in seat port octets

  abbrev new : PairPlace
  new = record { pair = q; second = second }

  -- it is new exactly where the rules keep it
  new_dated : FloodSought r port second octets room → q.format ≡ 0 → ⊥
  new_dated s = eqb-false q.format 0 (kept_held r port second octets room s)

  is_new : (ending_of r port second octets room).refusal ≡ 0 → floods_on r x f ≡ true → has_pair held q ≡ false → length held < 64
      → FloodNew r port second octets room
  unfolding some_free
  is_new none on other few =
      let flood = and_true (is_flooded f) _ on in
      let both = and_true (not (is_host r)) (not (equals_port r x || destination_is x is_limited)) flood.1 in
      let s = flood_sought r port second octets room none (not-true (is_host r) both.0) flood.0 (not-true (equals_port r x || destination_is x is_limited) both.1) in
      let at = few_free seat.memory held t few in
      record {
        sought = s;
        not_held =
            refuted (pair_held r port f)
            (λ h. true_false (sym (held_has seat.memory held t q (new_dated s) (sym (pair_held_is seat rs port octets) ∙ h)) ∙ other));
        free = any_found (λ (i : ℕ). is_free (pair_at seat.memory i)) at.0 64 at.1 at.2;
      }

  was_new : FloodNew r port second octets room
      → ((ending_of r port second octets room).refusal ≡ 0) × ((floods_on r x f ≡ true) × ((has_pair held q ≡ false) × (length held < 64)))
  unfolding some_free
  was_new n =
      let s = n.sought in
      let at = (any_is (λ (i : ℕ). is_free (pair_at seat.memory i)) 64).0 n.free in (
        refusal_number_lem r port second octets room ∙ (passed r port second octets room).1 s.judged,
        (
          rw (s.flooded, s.router, s.not_own) refl,
          (
            refuted (has_pair held q) (λ h. true_false (sym (has_held seat.memory held t q h) ∙ sym (pair_held_is seat rs port octets) ∙ n.not_held)),
            free_few seat.memory held t at.0 at.1 at.2,
          ),
        ),
      )

  abbrev keeps : ℕ → Bool
  keeps n = (eqb n 0 && floods_on r x f) && (not (has_pair held q) && ltb (length held) 64)

  page_tracks : Tracks (memory_of r port second octets room) (pick (keeps (ending_of r port second octets room).refusal) (held ++ (new ∷ [])) held)
  page_tracks = by (keeps n) refl
    where
      n : ℕ
      n = (ending_of r port second octets room).refusal

      by : (u : Bool) → keeps n ≡ u → Tracks (memory_of r port second octets room) (pick u (held ++ (new ∷ [])) held)
      by true e =
          let both = and_true (eqb n 0 && floods_on r x f) (not (has_pair held q) && ltb (length held) 64) e in
          let asked = and_true (eqb n 0) (floods_on r x f) both.0 in
          let room-left = and_true (not (has_pair held q)) (ltb (length held) 64) both.1 in
          let other = not-true (has_pair held q) room-left.0 in
          let is = is_new (eqb-true n 0 asked.0) asked.1 other (ltb-true (length held) 64 room-left.1) in
          let place = free_place_lem r port second octets room is.free in
          kept_tracks seat.memory held t (lowest_free r) new place.0 place.1 (kept_held r port second octets room is.sought) other
          (memory_of r port second octets room) (new_kept r port second octets room is)
      by false e =
          by_pairs seat.memory (memory_of r port second octets room) held
          (others_unkept r port second octets room
          (λ is.
          let was = was_new is in
          true_false (sym (rw (eq-eqb n 0 was.0, was.1.0, was.1.1.0, lt-ltb (length held) 64 was.1.1.1) refl) ∙ e)))
          t

  pub heard_tracks : Tracks (memory_by seat rs port second octets room) (pick (keeps_pair seat rs port second octets room held) (held ++ (new ∷ [])) held)
  unfolding heard_memory
  heard_tracks = by (too_long rs) refl
    where
      by : (u : Bool) → too_long rs ≡ u
          → Tracks (pick u seat.memory (memory_of r port second octets room)) (pick (keeps_pair seat rs port second octets room held) (held ++ (new ∷ [])) held)
      by true long = rw (heard_is seat rs port second octets room true long) t
      by false short = rw (heard_is seat rs port second octets room false short) page_tracks

-- ---- each call, and then all
one_tracks : (seat : Seat) (c : Call) (held : List PairPlace) → Tracks seat.memory held → Tracks (next seat c).memory (held_by seat c held)
unfolding swept_memory
one_tracks seat (operator c) held t = t
one_tracks seat (own (sets s)) held t = t
one_tracks seat (own (hears rs port slot second octets output)) held t = heard_tracks seat rs port second octets (length output) held t
one_tracks seat (own (echoes rs port slot octets output)) held t = t
one_tracks seat (own (takes port)) held t = t
one_tracks seat (own (sweeps second)) held t = sweep_tracks (eqb (first_of (sweep_checks seat.memory second)) 0)
  where
    sweep_tracks : (u : Bool)
        → Tracks (pick u (swept seat.board.lifetime second seat.memory) seat.memory) (pick u (younger seat.board.lifetime second held) held)
    sweep_tracks true = swept_tracks seat.memory held t seat.board.lifetime second
    sweep_tracks false = t
one_tracks seat (own (looks l)) held t = t

all_tracks : (cs : List Call) (seat : Seat) (held : List PairPlace) → Tracks seat.memory held → Tracks (run_from seat cs).memory (held_from seat held cs)
all_tracks [] seat held t = t
all_tracks (c ∷ cs) seat held t = all_tracks cs (next seat c) (held_by seat c held) (one_tracks seat c held t)

fresh_tracks : Tracks fresh_memory []
unfolding fresh_memory
fresh_tracks = record { long = refl; same = λ test. refl; once = λ q. omega arith }

pub tracks_after : (m : ℕ) (cs : List Call) → Tracks (seat_after m cs).memory (held_after m cs)
tracks_after m cs = all_tracks cs (fresh_seat m) [] fresh_tracks
