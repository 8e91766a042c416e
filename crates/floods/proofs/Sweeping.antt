-- One place swept, and one place after the other. Assumes nothing.
use native.Mathlib.Omega.{arith}
use native.Mathlib.Numerals.{add-one}
use Prim.Native.Nat.{ℕ, ◌+◌, ◌-◌, ◌≤◌, ◌<◌}
use mathlib.Core.Path.{◌≡◌, sym, ap, ◌∙◌}
use mathlib.Core.Bool.{Bool, true, false, not}
use lib.ListN.{length}
use borrow.Author.Tests.{ne_eqb, le-ltb, not-true, not-false}
use Rattle.checks.specs.Order.{first_of}
use Rattle.records.specs.Fresh.{fresh_pair}
use Rattle.records.specs.declared.PairPlace.{PairPlace}
use Rattle.state.specs.Relay.{Memory, pair_at, put_pair, put_last}
use Rattle.state.specs.Seen.{State, on_memory}
use Rattle.floods.specs.Sweep.{is_old, swept_at, swept_below, sweep_checks, swept_memory}
use Rattle.floods.proofs.Swept.{swept_all, past_sweep, accepted_sweep}

module _ (lifetime second : ℕ) where
  -- a pair younger than the sweep has no age
  pub younger : (x : PairPlace) → (x.pair.format ≡ 0 → ⊥) → second < x.second → false ≡ is_old lifetime second x
  unfolding is_old
  younger x h l = rw (ne_eqb _ 0 h, le-ltb lifetime (second - x.second) (omega arith))

  -- ---- one place
  module _ (s : State) (i : ℕ) {x : PairPlace} {t : Bool} (same : x ≡ pair_at s.memory i) (told : t ≡ is_old lifetime second x) where
    aged : {u : Bool} → t ≡ u → is_old lifetime second (pair_at s.memory i) ≡ u
    aged e = ap (is_old lifetime second) (sym same) ∙ sym told ∙ e

    pub stays : not t ≡ true → s ≡ on_memory (λ k. swept_at lifetime second k i) s
    unfolding swept_at
    stays h = rw (aged (not-true t h))

    pub goes : {u : State} → not t ≡ false → u ≡ on_memory (λ k. put_pair k i fresh_pair) s → u ≡ on_memory (λ k. swept_at lifetime second k i) s
    unfolding swept_at
    goes h e = rw (aged (not-false t h)) e

  -- ---- the walk
  module _ (s : State) where
    pub one_further :
        (i : ℕ) {t u : State}
        → t ≡ on_memory (λ k. swept_below lifetime second k i) s
        → u ≡ on_memory (λ k. swept_at lifetime second k i) t
        → u ≡ on_memory (λ k. swept_below lifetime second k (i + 1)) s
    one_further i et eu =
        eu
        ∙ ap (on_memory (λ k. swept_at lifetime second k i)) et
        ∙ sym (ap (λ (n : ℕ). on_memory (λ k. swept_below lifetime second k n) s) (add-one i))

    pub all_passed :
        (i : ℕ) {t : State} → 64 ≤ i → i ≤ 64 → t ≡ on_memory (λ k. swept_below lifetime second k i) s
        → t ≡ on_memory (λ k. swept_below lifetime second k 64) s
    all_passed i h l et = et ∙ ap (λ (n : ℕ). on_memory (λ k. swept_below lifetime second k n) s) (let z : i ≡ 64 = omega arith in z)

  -- ---- the whole call
  module _ (s : State) {last : ℕ} (told : last ≡ s.memory.last) where
    pub past : second < last → (29 ≡ first_of (sweep_checks s.memory second)) × (s ≡ on_memory (swept_memory lifetime second) s)
    past h =
        let both = past_sweep lifetime second s.memory (rw told at h) in
        (sym both.0, ap (λ (k : Memory). on_memory (λ m. k) s) (sym both.1))

    pub accepted :
        {t u : State} → last ≤ second → length s.memory.pairs ≡ 64
        → t ≡ on_memory (λ k. put_last k second) s
        → u ≡ on_memory (λ k. swept_below lifetime second k 64) t
        → (0 ≡ first_of (sweep_checks s.memory second)) × (u ≡ on_memory (swept_memory lifetime second) s)
    accepted h l et eu =
        let both = accepted_sweep lifetime second s.memory (rw told at h) in (
          sym both.0,
          eu
              ∙ ap (on_memory (λ k. swept_below lifetime second k 64)) et
              ∙ ap (λ (k : Memory). on_memory (λ m. k) s) (swept_all lifetime second s.memory l ∙ sym both.1),
        )
