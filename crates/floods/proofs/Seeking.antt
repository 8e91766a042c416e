-- What one walk over the places finds: whether a pair is held, and the lowest free place. Assumes nothing.
use native.Mathlib.Omega.{arith}
use native.Mathlib.Numerals.{add-one}
use Prim.Native.Nat.{ℕ, suc, ◌+◌, ◌≤◌, ◌<◌}
use mathlib.Core.Path.{◌≡◌, sym, ap, ap₂, ◌∙◌}
use mathlib.Core.Bool.{Bool, true, false, not}
use lib.Dec.{eqb}
use borrow.Author.Tests.{eq-eqb, ne_eqb, lt-ltb, le-ltb, not-true, not-false}
use Rattle.checks.specs.Order.{pick}
use Rattle.sets.specs.Sets.{any_below, first_below}
use Rattle.sets.proofs.Anywhere.{any_none, any_found}
use Rattle.records.specs.Held.{holds_pair, is_free}
use Rattle.records.specs.declared.Pair.{Pair}
use Rattle.records.specs.declared.PairPlace.{PairPlace}
use Rattle.state.specs.Relay.{Memory, pair_at}
use Rattle.header.specs.declared.Fields.{Fields}
use Rattle.meaning.specs.Flood.{is_flooded, pair_of}
use Rattle.verdict.specs.declared.Flood.{Flood}
use Rattle.verdict.specs.declared.Flood.TheVariants.{Plain, Unsent, Full, New}
use Rattle.verdict.specs.declared.Target.{Target}
use Rattle.floods.specs.Memory.{is_held, free_place, sought_pair, unless_here, flood_of}

-- ---- one turn, at place i
module _ (k : Memory) (q : Pair) (i : ℕ) {x : PairPlace} (same : x ≡ pair_at k i) where
  -- what is tested of the record that was read is what is tested of the place
  tested : {t u : Bool} → t ≡ holds_pair x q → t ≡ u → holds_pair (pair_at k i) q ≡ u
  tested told is = ap (λ (y : PairPlace). holds_pair y q) (sym same) ∙ sym told ∙ is

  pub held_there : {t : Bool} → i < 64 → t ≡ holds_pair x q → t ≡ true → Unsent ≡ sought_pair k q
  unfolding sought_pair is_held
  held_there h told is = rw (any_found (λ (j : ℕ). holds_pair (pair_at k j) q) i 64 h (tested told is))

  pub not_there :
      {t : Bool} → any_below (λ (j : ℕ). holds_pair (pair_at k j) q) i ≡ false → t ≡ holds_pair x q → t ≡ false
      → any_below (λ (j : ℕ). holds_pair (pair_at k j) q) (i + 1) ≡ false
  not_there none told is = any_none _ i none (tested told is)

pub free_further :
    (k : Memory) (i : ℕ) {x : PairPlace} {free next : ℕ}
    → x ≡ pair_at k i
    → free ≡ first_below (λ (j : ℕ). is_free (pair_at k j)) i
    → next ≡ pick (eqb free i) (pick (is_free x) i (suc i)) free
    → next ≡ first_below (λ (j : ℕ). is_free (pair_at k j)) (i + 1)
free_further k i same so told =
    told
    ∙ ap₂ (λ (n : ℕ) (y : PairPlace). pick (eqb n i) (pick (is_free y) i (suc i)) n) so same
    ∙ sym (ap (first_below (λ (j : ℕ). is_free (pair_at k j))) (add-one i))

-- ---- after the last
module _ (k : Memory) (q : Pair) {i free : ℕ} (over : 64 ≤ i) (most : i ≤ 64) (none : any_below (λ (j : ℕ). holds_pair (pair_at k j) q) i ≡ false)
    (first : free ≡ first_below (λ (j : ℕ). is_free (pair_at k j)) i) where
  at_end : i ≡ 64
  at_end = omega arith

  not_held : is_held k q ≡ false
  unfolding is_held
  not_held = ap (any_below (λ (j : ℕ). holds_pair (pair_at k j) q)) (sym at_end) ∙ none

  lowest : free_place k ≡ free
  unfolding free_place
  lowest = ap (first_below (λ (j : ℕ). is_free (pair_at k j))) (sym at_end) ∙ sym first

  pub none_free : 64 ≤ free → Full ≡ sought_pair k q
  unfolding sought_pair
  none_free h = rw (not_held, lowest, le-ltb free 64 h)

  pub one_free : free < 64 → New free ≡ sought_pair k q
  unfolding sought_pair
  one_free h = rw (not_held, lowest, lt-ltb free 64 h)

-- ---- where it is asked: "Onward, on a router", of a datagram that is flooded
module _ (router : ℕ) (t : Target) (k : Memory) (port : ℕ) (f : Fields) {flooded : Bool} (is : flooded ≡ is_flooded f) where
  pub plain_datagram : not flooded ≡ true → Plain ≡ flood_of router t k port f
  unfolding flood_of
  plain_datagram h = rw (← is, not-true flooded h)

  module _ (yes : not flooded ≡ false) where
    pub on_a_host : router ≡ 0 → Plain ≡ flood_of router t k port f
    unfolding flood_of
    on_a_host h = rw (← is, not-false flooded yes, eq-eqb router 0 h)

    pub on_a_router : {r : Flood} → (router ≡ 0 → ⊥) → r ≡ unless_here t (sought_pair k (pair_of port f)) → r ≡ flood_of router t k port f
    unfolding flood_of
    on_a_router h e = rw (← is, not-false flooded yes, ne_eqb router 0 h) e
