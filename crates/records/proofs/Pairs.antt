-- What is told to be the same pair is the same pair, and what a place holds is its own pair alone: page 02, W-207 ("pairs of source and timestamp, format included");
-- ruling 25: source, format and all octets of the timestamp, and nothing else. Assumes nothing.
use Prim.Native.Nat.{ℕ}
use mathlib.Core.Path.{◌≡◌, refl, ap, ◌∙◌}
use mathlib.Core.Logic.{◌↔◌}
use mathlib.Core.Bool.{true}
use lib.Dec.{eqb}
use borrow.Author.Tests.{eq-eqb, eqb-true}
use Rattle.checks.proofs.Bools.{and_true}
use Rattle.records.specs.Held.{same_pair, holds_pair}
use Rattle.records.specs.declared.Pair.{Pair}
use Rattle.records.specs.declared.PairPlace.{PairPlace}

abbrev pair_with : ℕ → ℕ → ℕ → ℕ → Pair
pair_with format source upper lower = record { format = format; source = record { 0 = source }; upper = upper; lower = lower }

pub same_self : (q : Pair) → same_pair q q ≡ true
same_self q =
    simp (
      eq-eqb q.format q.format refl,
      eq-eqb q.source.0 q.source.0 refl,
      eq-eqb q.upper q.upper refl,
      eq-eqb q.lower q.lower refl,
    )

module _ (x q : Pair) where
  pub same_told : same_pair x q ≡ true → x ≡ q
  same_told h =
      let one = and_true (eqb x.format q.format) _ h in
      let two = and_true (eqb x.source.0 q.source.0) _ one.1 in
      let three = and_true (eqb x.upper q.upper) (eqb x.lower q.lower) two.1 in
      ap (λ (n : ℕ). pair_with n x.source.0 x.upper x.lower) (eqb-true x.format q.format one.0)
      ∙ ap (λ (n : ℕ). pair_with q.format n x.upper x.lower) (eqb-true x.source.0 q.source.0 two.0)
      ∙ ap (λ (n : ℕ). pair_with q.format q.source.0 n x.lower) (eqb-true x.upper q.upper three.0)
      ∙ ap (pair_with q.format q.source.0 q.upper) (eqb-true x.lower q.lower three.1)

  pub same_is : (same_pair x q ≡ true) ↔ (x ≡ q)
  same_is = (same_told, λ e. rw e (same_self q))

-- so with what a place holds
pub holds_is : (x : PairPlace) (q : Pair) → (holds_pair x q ≡ true) ↔ (x.pair ≡ q)
unfolding holds_pair
holds_is x q = same_is x.pair q
