-- What a sweep leaves: page 02, W-207 ("A sweep at a second frees exactly pairs whose age is over the lifetime set (0 at first), and freed places are
-- used again"); and that the walk over the places does it. Assumes nothing.
use native.Mathlib.Omega.{arith}
use native.Mathlib.Decide.{dec_le}
use native.Mathlib.Nat.{lt_of_not-le}
use Prim.Native.Nat.{ℕ, zero, suc, ◌-◌, ◌≤◌, ◌<◌}
use mathlib.Core.Path.{◌≡◌, refl, sym, ap, ap₂, ◌∙◌}
use mathlib.Core.Logic.{◌↔◌, ◌≢◌, by_cases}
use mathlib.Core.Bool.{Bool, true, false, not, ◌||◌}
use mathlib.Core.List.{List, map}
use lib.ListN.{length, get_or, length-set, length-map, get_or-map}
use lib.Seq.{get_or-set_same, get_or-set_other, ext_get_or}
use lib.Dec.{eqb, ltb}
use borrow.Author.Tests.{eqb-false, ne_eqb, ltb-true, lt-ltb, le-ltb, not-true}
use Rattle.checks.specs.Order.{pick, first_of}
use Rattle.checks.proofs.Bools.{refuted, and_true}
use Rattle.checks.proofs.Laws.{either}
use Rattle.checks.proofs.Steps.{holds_here, holds_not, none_left}
use Rattle.records.specs.Fresh.{fresh_pair}
use Rattle.records.specs.Held.{holds_pair, is_free}
use Rattle.records.specs.declared.Pair.{Pair}
use Rattle.records.specs.declared.PairPlace.{PairPlace}
use Rattle.state.specs.Relay.{Memory, pair_at, put_pair, put_last}
use Rattle.floods.specs.Memory.{is_held}
use Rattle.floods.specs.Sweep.{is_old, swept_place, swept, swept_at, swept_below, sweep_checks, swept_memory}
use Rattle.floods.proofs.Held.{held_at, at_held, free_other}

-- ---- one place, freed or not
if_same :
    (t : Bool) (k : Memory) (i : ℕ) → i < length k.pairs
    → pair_at (pick t (put_pair k i fresh_pair) k) i ≡ pick t fresh_pair (pair_at k i)
if_same true k i h = get_or-set_same k.pairs i fresh_pair fresh_pair h
if_same false k i h = refl

if_other : (t : Bool) (k : Memory) (i j : ℕ) → j ≢ i → pair_at (pick t (put_pair k i fresh_pair) k) j ≡ pair_at k j
if_other true k i j h = get_or-set_other k.pairs i j fresh_pair fresh_pair h
if_other false k i j h = refl

if_length : (t : Bool) (k : Memory) (i : ℕ) → length (pick t (put_pair k i fresh_pair) k).pairs ≡ length k.pairs
if_length true k i = length-set k.pairs i fresh_pair
if_length false k i = refl

if_last : (t : Bool) (k : Memory) (i : ℕ) → (pick t (put_pair k i fresh_pair) k).last ≡ k.last
if_last true k i = refl
if_last false k i = refl

freed_case : (t : Bool) (x : PairPlace) → is_free (pick t fresh_pair x) ≡ (t || is_free x)
freed_case true x = refl
freed_case false x = refl

module _ (lifetime second : ℕ) where
  -- a place that is free stays so
  fresh_swept : swept_place lifetime second fresh_pair ≡ fresh_pair
  unfolding is_old
  fresh_swept = refl

  mapped : (ps : List PairPlace) (i : ℕ) → get_or (map (swept_place lifetime second) ps) i fresh_pair ≡ swept_place lifetime second (get_or ps i fresh_pair)
  mapped ps i =
      ap (λ (d : PairPlace). get_or (map (swept_place lifetime second) ps) i d) (sym fresh_swept)
      ∙ get_or-map (swept_place lifetime second) ps i fresh_pair

  -- Place by place: a sweep frees what is old, and each other place stays as it is.
  pub place_swept : (k : Memory) (i : ℕ) → pair_at (swept lifetime second k) i ≡ swept_place lifetime second (pair_at k i)
  unfolding swept
  place_swept k i = mapped k.pairs i

  module _ (k : Memory) (i : ℕ) where
    at_same : i < length k.pairs → pair_at (swept_at lifetime second k i) i ≡ swept_place lifetime second (pair_at k i)
    unfolding swept_at
    at_same h = if_same (is_old lifetime second (pair_at k i)) k i h

    at_other : (j : ℕ) → j ≢ i → pair_at (swept_at lifetime second k i) j ≡ pair_at k j
    unfolding swept_at
    at_other j h = if_other (is_old lifetime second (pair_at k i)) k i j h

    at_length : length (swept_at lifetime second k i).pairs ≡ length k.pairs
    unfolding swept_at
    at_length = if_length (is_old lifetime second (pair_at k i)) k i

    at_last : (swept_at lifetime second k i).last ≡ k.last
    unfolding swept_at
    at_last = if_last (is_old lifetime second (pair_at k i)) k i

  -- ---- the walk
  module _ (k : Memory) where
    below_length : (n : ℕ) → length (swept_below lifetime second k n).pairs ≡ length k.pairs
    below_length zero = refl
    below_length (suc i) = at_length (swept_below lifetime second k i) i ∙ below_length i

    below_last : (n : ℕ) → (swept_below lifetime second k n).last ≡ k.last
    below_last zero = refl
    below_last (suc i) = at_last (swept_below lifetime second k i) i ∙ below_last i

    -- no place from n on is touched
    below_later : (n j : ℕ) → n ≤ j → pair_at (swept_below lifetime second k n) j ≡ pair_at k j
    below_later zero j h = refl
    below_later (suc i) j h = at_other (swept_below lifetime second k i) i j (λ e. omega arith) ∙ below_later i j (omega arith)

    -- and each before it is swept
    below_done : (n j : ℕ) → n ≤ length k.pairs → j < n → pair_at (swept_below lifetime second k n) j ≡ swept_place lifetime second (pair_at k j)
    below_done zero j l h = absurd (omega arith)
    below_done (suc i) j l h =
        let m = swept_below lifetime second k i in
        by_cases (dec_le i j)
        (λ g.
        let e : j ≡ i = omega arith in
        rw e (at_same m i (rw (below_length i) (omega arith)) ∙ ap (swept_place lifetime second) (below_later i i (omega arith))))
        (λ g. let u : j < i = lt_of_not-le g in at_other m i j (λ e. omega arith) ∙ below_done i j (omega arith) u)

    all_below : (n : ℕ) → length k.pairs ≡ n
        → swept_below lifetime second k n ≡ record { last = k.last; pairs = map (swept_place lifetime second) k.pairs }
    all_below n l =
        let m = swept_below lifetime second k n in
        let ps = map (swept_place lifetime second) k.pairs in
        let long : length m.pairs ≡ length ps = below_length n ∙ sym (length-map k.pairs (swept_place lifetime second)) in
        ap₂ (λ (a : ℕ) (b : List PairPlace). record { last = a; pairs = b }) (below_last n)
        (ext_get_or fresh_pair m.pairs ps long λ i h. below_done n i (omega arith) (omega (arith, below_length n)) ∙ sym (mapped k.pairs i))

  -- The walk over all 64 places, the second accepted before it, is the sweep.
  pub swept_all : (k : Memory) → length k.pairs ≡ 64 → swept_below lifetime second (put_last k second) 64 ≡ swept lifetime second k
  unfolding swept
  swept_all k l = all_below (put_last k second) 64 l

  -- ---- what is freed
  -- ruling 28: "the pairs with second of the sweep less second of arrival > lifetime"
  pub old_is : (x : PairPlace) → (is_old lifetime second x ≡ true) ↔ ((x.pair.format ≢ 0) × (lifetime < second - x.second))
  unfolding is_old
  old_is x = (
    λ h.
        let both = and_true (not (is_free x)) (ltb lifetime (second - x.second)) h in
        (eqb-false x.pair.format 0 (not-true (is_free x) both.0), ltb-true lifetime (second - x.second) both.1),
    λ both. rw (ne_eqb x.pair.format 0 both.0, lt-ltb lifetime (second - x.second) both.1),
  )

  module _ (k : Memory) (i : ℕ) where
    -- what is old is freed, and the place is as a fresh relay has it
    pub old_freed : is_old lifetime second (pair_at k i) ≡ true → pair_at (swept lifetime second k) i ≡ fresh_pair
    old_freed h = place_swept k i ∙ rw h

    -- "exactly": what is not old stays, with its second
    pub young_stays : is_old lifetime second (pair_at k i) ≡ false → pair_at (swept lifetime second k) i ≡ pair_at k i
    young_stays h = place_swept k i ∙ rw h

    -- a place is free after the sweep exactly where it is freed or was free before
    pub free_after : is_free (pair_at (swept lifetime second k) i) ≡ (is_old lifetime second (pair_at k i) || is_free (pair_at k i))
    free_after = ap is_free (place_swept k i) ∙ freed_case (is_old lifetime second (pair_at k i)) (pair_at k i)

  -- A pair is held after a sweep exactly where it was held in a place that is not old.
  pub swept_held :
      (k : Memory) (q : Pair) → (q.format ≡ 0 → ⊥)
      → (is_held (swept lifetime second k) q ≡ true)
      ↔ ((i : ℕ) × (i < 64) × ((is_old lifetime second (pair_at k i) ≡ false) × (holds_pair (pair_at k i) q ≡ true)))
  swept_held k q dated = (
    λ h.
        let at = held_at (swept lifetime second k) q h in
        let young : is_old lifetime second (pair_at k at.0) ≡ false =
        refuted _ (λ old. free_other (swept lifetime second k) q at.0 dated (ap is_free (old_freed k at.0 old)) at.2) in
        (at.0, at.1, (young, ap (λ (x : PairPlace). holds_pair x q) (sym (young_stays k at.0 young)) ∙ at.2)),
    λ at. at_held (swept lifetime second k) q at.0 at.1 (ap (λ (x : PairPlace). holds_pair x q) (young_stays k at.0 at.2.0) ∙ at.2.1),
  )

  -- ---- the whole call
  module _ (k : Memory) where
    -- "a second under the last accepted one (0 at first) refuses a .. sweep with 29": it frees nothing, and accepts no second
    pub past_sweep : second < k.last → (first_of (sweep_checks k second) ≡ 29) × (swept_memory lifetime second k ≡ k)
    unfolding swept_memory
    past_sweep h = let told : first_of (sweep_checks k second) ≡ 29 = sym (holds_here _ _ _ (lt-ltb second k.last h)) in (told, rw told)

    -- "any other second is accepted at that point"
    pub accepted_sweep : k.last ≤ second → (first_of (sweep_checks k second) ≡ 0) × (swept_memory lifetime second k ≡ swept lifetime second k)
    unfolding swept_memory
    accepted_sweep h =
        let told : first_of (sweep_checks k second) ≡ 0 = sym (holds_not _ _ _ (le-ltb second k.last h) none_left) in (told, rw told)

    -- ---- lengths
    pub swept_length : length (swept lifetime second k).pairs ≡ length k.pairs
    unfolding swept
    swept_length = length-map k.pairs (swept_place lifetime second)

    pub swept_memory_length : length (swept_memory lifetime second k).pairs ≡ length k.pairs
    unfolding swept_memory
    swept_memory_length =
        either (λ (m : Memory). length m.pairs ≡ length k.pairs) (eqb (first_of (sweep_checks k second)) 0) swept_length refl
