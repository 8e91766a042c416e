-- What the pairs say of a datagram: page 02, W-207 ("Onward, on a router: not asked for a held pair ..; with all places held 30, and nothing is kept; else
-- the pair is kept"); ruling 26. Assumes nothing.
use native.Mathlib.Omega.{arith}
use native.Mathlib.Decide.{dec_le}
use native.Mathlib.Nat.{lt_of_not-le}
use Prim.Native.Nat.{ℕ, ◌<◌}
use mathlib.Core.Path.{◌≡◌, refl, sym, ◌∙◌}
use mathlib.Core.Logic.{◌↔◌, by_cases}
use mathlib.Core.Bool.{Bool, true, false}
use lib.Dec.{ltb}
use borrow.Author.Tests.{ltb-true, ltb-false, lt-ltb}
use Rattle.checks.specs.Order.{pick}
use Rattle.checks.proofs.Bools.{true_false}
use Rattle.sets.proofs.First.{first_holds, first_before, first_none}
use Rattle.records.specs.Held.{is_free}
use Rattle.records.specs.declared.Pair.{Pair}
use Rattle.state.specs.Relay.{Memory, pair_at}
use Rattle.verdict.specs.declared.Flood.TheVariants.{Unsent, Full, New}
use Rattle.floods.specs.Memory.{is_held, free_place, sought_pair}

-- ---- the lowest free place
module _ (k : Memory) where
  -- it is free
  pub free_there : free_place k < 64 → is_free (pair_at k (free_place k)) ≡ true
  unfolding free_place
  free_there h = first_holds (λ (i : ℕ). is_free (pair_at k i)) 64 h

  -- none below it is
  pub none_lower : (i : ℕ) → i < free_place k → is_free (pair_at k i) ≡ false
  unfolding free_place
  none_lower i h = first_before (λ (j : ℕ). is_free (pair_at k j)) 64 i h

  -- where none is free it is 64
  pub all_held : ((i : ℕ) → i < 64 → is_free (pair_at k i) ≡ false) → free_place k ≡ 64
  unfolding free_place
  all_held h = first_none (λ (i : ℕ). is_free (pair_at k i)) 64 h

  -- and where one is free it is one of the 64
  pub free_below : (i : ℕ) → i < 64 → is_free (pair_at k i) ≡ true → free_place k < 64
  free_below i h is =
      by_cases (dec_le (free_place k) i) (λ l. omega arith) (λ g. true_false (sym is ∙ none_lower i (lt_of_not-le g)))

-- ---- which answer, by what is held and what is free
module _ (i n : ℕ) where
  new_case : (t u : Bool) → pick t Unsent (pick u (New n) Full) ≡ New i → (t ≡ false) × ((u ≡ true) × (i ≡ n))
  new_case true u e = true_false cc
  new_case false true e = (refl, (refl, cc))
  new_case false false e = true_false cc

module _ (n : ℕ) where
  unsent_case : (t u : Bool) → pick t Unsent (pick u (New n) Full) ≡ Unsent → t ≡ true
  unsent_case true u e = refl
  unsent_case false true e = true_false cc
  unsent_case false false e = true_false cc

  full_case : (t u : Bool) → pick t Unsent (pick u (New n) Full) ≡ Full → (t ≡ false) × (u ≡ false)
  full_case true u e = true_false cc
  full_case false true e = true_false cc
  full_case false false e = (refl, refl)

module _ (k : Memory) (q : Pair) where
  -- "else the pair is kept": in the lowest free place, where the pair is not held
  pub sought_new : {i : ℕ} → sought_pair k q ≡ New i → (i ≡ free_place k) × ((i < 64) × ((is_free (pair_at k i) ≡ true) × (is_held k q ≡ false)))
  unfolding sought_pair
  sought_new {i} e =
      let told = new_case i (free_place k) (is_held k q) (ltb (free_place k) 64) e in
      let inside : free_place k < 64 = ltb-true (free_place k) 64 told.1.0 in
      (told.1.1, (rw told.1.1 inside, (rw told.1.1 (free_there k inside), told.0)))

  -- a pair that is not held gets a place wherever one is free: "freed places are used again"
  pub sought_free : (i : ℕ) → i < 64 → is_free (pair_at k i) ≡ true → is_held k q ≡ false → sought_pair k q ≡ New (free_place k)
  unfolding sought_pair
  sought_free i h is unheld = rw (unheld, lt-ltb (free_place k) 64 (free_below k i h is))

  -- "not asked for a held pair"
  pub sought_unsent : (sought_pair k q ≡ Unsent) ↔ (is_held k q ≡ true)
  unfolding sought_pair
  sought_unsent = (unsent_case (free_place k) (is_held k q) (ltb (free_place k) 64), λ e. rw e)

  -- "with all places held 30"
  pub sought_full : (sought_pair k q ≡ Full) ↔ ((is_held k q ≡ false) × ((i : ℕ) → i < 64 → is_free (pair_at k i) ≡ false))
  unfolding sought_pair
  sought_full = (
    λ e.
        let told = full_case (free_place k) (is_held k q) (ltb (free_place k) 64) e in
        (told.0, λ i h. none_lower k i (omega (arith, ltb-false (free_place k) 64 told.1))),
    λ both. rw (both.0, all_held k both.1),
  )
