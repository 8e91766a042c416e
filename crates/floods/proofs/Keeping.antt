-- What is kept of a datagram, over plain variables. Assumes nothing.
use Prim.Native.Nat.{ℕ}
use mathlib.Core.Path.{◌≡◌, refl, ap, ◌∙◌}
use Rattle.records.specs.declared.Pair.{Pair}
use Rattle.state.specs.Relay.{Memory, put_last, put_pair}
use Rattle.state.specs.Seen.{State, on_memory}
use Rattle.verdict.specs.declared.Flood.{Flood}
use Rattle.verdict.specs.declared.Flood.TheVariants.{Plain, Unsent, Full, New}
use Rattle.floods.specs.Memory.{kept, remembering}

-- nothing, unless the pair is new
pub kept_none : (f : Flood) (q : Pair) (second : ℕ) (k : Memory) → ((place : ℕ) → f ≡ New place → ⊥) → k ≡ kept f q second k
kept_none Plain q second k h = refl
kept_none Unsent q second k h = refl
kept_none Full q second k h = refl
kept_none (New place) q second k h = absurd (h place refl)

module _ (f : Flood) (q : Pair) (second : ℕ) (s : State) where
  pub nothing_kept : ((place : ℕ) → f ≡ New place → ⊥) → s ≡ on_memory (kept f q second) s
  nothing_kept h = ap (λ (k : Memory). on_memory (λ l. k) s) (kept_none f q second s.memory h)

  pub pair_kept :
      {place : ℕ} {p : Pair} {t : State} → f ≡ New place → p ≡ q
      → t ≡ on_memory (λ k. put_pair k place (record { pair = p; second = second })) s
      → t ≡ on_memory (kept f q second) s
  pair_kept e same told = rw (e, ← same) told

  pub second_kept :
      {t u : State} → t ≡ on_memory (λ k. put_last k second) s → u ≡ on_memory (kept f q second) t → u ≡ on_memory (remembering f q second) s
  unfolding remembering
  second_kept et eu = eu ∙ ap (on_memory (kept f q second)) et
