-- What is held after a datagram: page 02, W-207 ("else the pair is kept whatever follows", with "the second of arrival"); ruling 27 ("A repeat makes no pair
-- younger"); ruling 28 ("Nothing else frees a pair"). Assumes nothing.
use native.Mathlib.Decide.{ℕ_discrete}
use Prim.Native.Nat.{ℕ, ◌<◌}
use mathlib.Core.Path.{◌≡◌, refl, sym, ap, ◌∙◌}
use mathlib.Core.Logic.{◌⊎◌, inl, inr, ◌≢◌, by_cases}
use mathlib.Core.Bool.{true}
use lib.ListN.{length, length-set}
use borrow.Author.Tests.{eqb-true}
use Rattle.sets.proofs.Anywhere.{any_is, any_found}
use Rattle.records.specs.Held.{same_pair, holds_pair, is_free}
use Rattle.records.specs.declared.Pair.{Pair}
use Rattle.records.specs.declared.PairPlace.{PairPlace}
use Rattle.records.proofs.Pairs.{same_self, holds_is}
use Rattle.state.specs.Relay.{Memory, pair_at, put_last}
use Rattle.state.proofs.Places.{pair_back, pair_left}
use Rattle.verdict.specs.declared.Flood.{Flood}
use Rattle.verdict.specs.declared.Flood.TheVariants.{Plain, Unsent, Full, New}
use Rattle.floods.specs.Memory.{is_held, kept, remembering}
use Rattle.floods.proofs.Keeping.{kept_none}

-- ---- held in one of the places
module _ (k : Memory) (q : Pair) where
  pub held_at : is_held k q ≡ true → (i : ℕ) × (i < 64) × (holds_pair (pair_at k i) q ≡ true)
  unfolding is_held
  held_at h = (any_is (λ (i : ℕ). holds_pair (pair_at k i) q) 64).0 h

  pub at_held : (i : ℕ) → i < 64 → holds_pair (pair_at k i) q ≡ true → is_held k q ≡ true
  unfolding is_held
  at_held i h is = any_found (λ (j : ℕ). holds_pair (pair_at k j) q) i 64 h is

  -- a place that holds a pair with a timestamp is not free
  pub free_other : (i : ℕ) → (q.format ≡ 0 → ⊥) → is_free (pair_at k i) ≡ true → holds_pair (pair_at k i) q ≡ true → ⊥
  free_other i dated free is =
      dated (sym (ap (λ (x : Pair). x.format) ((holds_is (pair_at k i) q).0 is)) ∙ eqb-true (pair_at k i).pair.format 0 free)

-- ---- lengths
module _ (q : Pair) (second : ℕ) (k : Memory) where
  pub kept_length : (f : Flood) → length (kept f q second k).pairs ≡ length k.pairs
  kept_length Plain = refl
  kept_length Unsent = refl
  kept_length Full = refl
  kept_length (New place) = length-set k.pairs place _

pub remembering_length : (q : Pair) (second : ℕ) (k : Memory) (f : Flood) → length (remembering f q second k).pairs ≡ length k.pairs
unfolding remembering
remembering_length q second k f = kept_length q second (put_last k second) f

-- ---- a pair that is not new: the second is accepted, and no place changes ("with all places held 30, and nothing is kept"; "A repeat makes no pair younger")
pub none_remembered :
    (f : Flood) (q : Pair) (second : ℕ) (k : Memory) → ((place : ℕ) → f ≡ New place → ⊥) → remembering f q second k ≡ put_last k second
unfolding remembering
none_remembered f q second k h = sym (kept_none f q second (put_last k second) h)

-- ---- a new pair, in place i
module _ (k : Memory) (i : ℕ) (q : Pair) (second : ℕ) where
  -- every other place stays as it is
  pub kept_left : (j : ℕ) → j ≢ i → pair_at (remembering (New i) q second k) j ≡ pair_at k j
  unfolding remembering
  kept_left j other = pair_left (put_last k second) i j other _

  -- a pair that was held stays held: place i was free
  pub still_held :
      (p : Pair) → is_free (pair_at k i) ≡ true → (p.format ≡ 0 → ⊥) → is_held k p ≡ true → is_held (remembering (New i) q second k) p ≡ true
  still_held p free dated h =
      let at = held_at k p h in
      by_cases (ℕ_discrete at.0 i)
      (λ e. absurd (free_other k p i dated free (rw e at at.2)))
      (λ other. at_held _ p at.0 at.1 (ap (λ (x : PairPlace). holds_pair x p) (kept_left at.0 other) ∙ at.2))

  module _ (l : length k.pairs ≡ 64) (inside : i < 64) where
    -- the pair stands there, with the second in which it came
    pub kept_at : pair_at (remembering (New i) q second k) i ≡ record { pair = q; second = second }
    unfolding remembering
    kept_at = pair_back (put_last k second) l i _ inside

    -- and is held
    pub now_held : is_held (remembering (New i) q second k) q ≡ true
    unfolding holds_pair
    now_held = at_held _ q i inside (rw kept_at (same_self q))

    -- a pair that is held afterwards is this one or was held before
    pub held_whence : (p : Pair) → is_held (remembering (New i) q second k) p ≡ true → (same_pair q p ≡ true) ⊎ (is_held k p ≡ true)
    unfolding holds_pair
    held_whence p h =
        let at = held_at (remembering (New i) q second k) p h in
        by_cases (ℕ_discrete at.0 i)
        (λ e. inl (rw kept_at at (rw e at at.2)))
        (λ other. inr (at_held k p at.0 at.1 (ap (λ (x : PairPlace). holds_pair x p) (sym (kept_left at.0 other)) ∙ at.2)))
