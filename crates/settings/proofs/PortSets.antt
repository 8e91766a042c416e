-- When a set of ports is taken, refusal 21: port p is in a set where bit p of it is one. Assumes nothing.
use native.Mathlib.Omega.{arith}
use native.Mathlib.Decide.{ℕ_discrete, dec_lt}
use Prim.Native.Nat.{ℕ, zero, suc, ◌/◌, ◌%◌, ◌^◌, ◌≤◌, ◌<◌, min}
use mathlib.Core.Path.{◌≡◌, refl, sym, ap, subst, ◌∙◌}
use mathlib.Core.Logic.{◌↔◌, ◌⊎◌, inl, inr, by_cases, ⊎_elim}
use mathlib.Core.Bool.{Bool, true, false, not, ◌&&◌}
use lib.Bits.{bit_and, and_le_l}
use borrow.Author.Tests.{eq-eqb, eqb-true, eqb-false, lt-ltb, ltb-true, not-true}
use Rattle.checks.proofs.Bools.{true_false, or_false, and_not_false, and_not}
use Rattle.networks.proofs.Bits.{bit, bit_small, and_bit, ones_bit, high_bit, same_bits}
use Rattle.sets.specs.Sets.{in_set}
use Rattle.settings.specs.Sets.{is_ready, names_other, set_refused}
use Rattle.settings.proofs.Answers.{both_true, either_true, both_false, not_taken}

-- every port in the set is one of the eight and set up
abbrev pub AllReady : ℕ → ℕ → Type 0
AllReady set ready = (p : ℕ) → set / 2 ^ p % 2 ≡ 1 → (p < 8) × (ready / 2 ^ p % 2 ≡ 1)

-- some port in the set is over 7 or not set up
abbrev pub SomeOther : ℕ → ℕ → Type 0
SomeOther set ready = (p : ℕ) × (set / 2 ^ p % 2 ≡ 1) × ((8 ≤ p) ⊎ (ready / 2 ^ p % 2 ≡ 0))

module _ (set ready : ℕ) where
  -- of one port
  abbrev Ready : ℕ → Type 0
  Ready p = set / 2 ^ p % 2 ≡ 1 → (p < 8) × (ready / 2 ^ p % 2 ≡ 1)

  abbrev other : ℕ → Bool
  other p = in_set p set && not (is_ready p ready)

  one_taken : (p : ℕ) → (other p ≡ false) ↔ Ready p
  one_taken p = (
    λ e h. let b = both_true _ _ (and_not_false _ _ e (eq-eqb _ _ h)) in (ltb-true p 8 b.0, eqb-true _ _ b.1),
    λ f.
        and_not (in_set p set) (is_ready p ready) (λ e. let r = f (eqb-true _ _ e) in rw (lt-ltb p 8 r.0, eq-eqb _ _ r.1)),
  )

  one_refused : (p : ℕ) → other p ≡ true → SomeOther set ready
  one_refused p e =
      let b = both_true (in_set p set) (not (is_ready p ready)) e in (
        p,
        eqb-true _ _ b.0,
        by_cases (dec_lt p 8)
            (λ l. let n = eqb-false (ready / 2 ^ p % 2) 1 (rw (lt-ltb p 8 l) at (not-true (is_ready p ready) b.1)) in inr (omega (arith, bit_small p ready)))
            (λ n. inl (omega arith)),
      )

  -- of the ports below k
  below_taken : (k : ℕ) → (names_other k set ready ≡ false) ↔ ((p : ℕ) → p < k → Ready p)
  unfolding names_other
  below_taken zero = (λ e p h. absurd (omega arith), λ f. refl)
  below_taken (suc k) = (
    λ e p h.
        let o = or_false _ _ e in
        by_cases (ℕ_discrete p k)
        (λ s. subst Ready (sym s) ((one_taken k).0 o.0))
        (λ n. (below_taken k).0 o.1 p (omega arith)),
    λ f. both_false _ _ ((one_taken k).1 (f k (omega arith))) ((below_taken k).1 (λ p h. f p (omega arith))),
  )

  below_refused : (k : ℕ) → names_other k set ready ≡ true → SomeOther set ready
  unfolding names_other
  below_refused zero e = true_false (sym e)
  below_refused (suc k) e = ⊎_elim (one_refused k) (below_refused k) (either_true _ _ e)

module _ (set ready : ℕ) (fits : set < 2 ^ 32) where
  -- A set is taken exactly where every port in it is one of the eight and set up.
  pub set_taken : (set_refused set ready ≡ false) ↔ AllReady set ready
  unfolding set_refused
  set_taken = (
    λ e p b.
        by_cases (dec_lt p 32)
        (λ l. (below_taken set ready 32).0 e p l b)
        (λ n. let z = high_bit 32 p set fits (omega arith) in absurd (omega arith)),
    λ f. (below_taken set ready 32).1 (λ p l. f p),
  )

  -- It is refused exactly where some port in it is over 7 or not set up.
  pub set_refused_lem : (set_refused set ready ≡ true) ↔ SomeOther set ready
  unfolding set_refused
  set_refused_lem = (
    below_refused set ready 32,
    λ s. not_taken _ (λ e. let r = set_taken.0 e s.0 s.1 in ⊎_elim (λ h. omega arith) (λ h. omega arith) s.2),
  )

  -- As the code tests it: the set loses nothing where only the ready ones of the eight ports are left.
  pub bits_taken : (set_refused set ready ≡ false) ↔ (bit_and (bit_and set ready) 255 ≡ set)
  bits_taken = (λ e. there (set_taken.0 e), λ e. set_taken.1 (back e))
    where
      left : (p : ℕ) → bit p (bit_and (bit_and set ready) 255) ≡ min (min (bit p set) (bit p ready)) (bit p 255)
      left p = and_bit p (bit_and set ready) 255 ∙ ap (λ (b : ℕ). min b (bit p 255)) (and_bit p set ready)

      there : AllReady set ready → bit_and (bit_and set ready) 255 ≡ set
      there f =
          same_bits 32 _ _ (omega (arith, and_le_l (bit_and set ready) 255, and_le_l set ready)) fits λ p l.
          by_cases (ℕ_discrete (bit p set) 1)
          (λ s. let r = f p s in omega (arith, left p, ones_bit 8 p r.0))
          (λ n. omega (arith, left p, bit_small p set))

      back : bit_and (bit_and set ready) 255 ≡ set → AllReady set ready
      back e p b =
          let kept : bit p set ≡ min (min (bit p set) (bit p ready)) (bit p 255) = ap (bit p) (sym e) ∙ left p in
          by_cases (dec_lt p 8)
          (λ l. (l, omega (arith, bit_small p ready)))
          (λ n. let z = high_bit 8 p 255 (omega arith) (omega arith) in absurd (omega arith))

-- An empty set is taken.
pub empty_taken : (ready : ℕ) → set_refused 0 ready ≡ false
empty_taken ready =
    (set_taken 0 ready (omega arith)).1 (λ p b. let z = high_bit 0 p 0 (omega arith) (omega arith) in absurd (omega arith))
