-- What 23 says: a place other than the one that is written holds the same entry. Assumes nothing.
use Prim.Native.Nat.{ℕ, ◌<◌}
use mathlib.Core.Path.{◌≡◌}
use mathlib.Core.Logic.{◌↔◌, ◌≢◌}
use mathlib.Core.Bool.{Bool, true, not, ◌&&◌}
use lib.Dec.{eqb}
use borrow.Author.Tests.{ne_eqb, eqb-false, not-true}
use Rattle.checks.proofs.Bools.{and_true}
use Rattle.address.specs.declared.Address.{Address}
use Rattle.address.specs.declared.PathAddress.{PathAddress}
use Rattle.sets.specs.Limits.{group_places, path_places}
use Rattle.sets.specs.Sets.{any_below}
use Rattle.sets.proofs.Anywhere.{any_is}
use Rattle.state.specs.Relay.{Mission, group_at, path_at}
use Rattle.records.specs.Held.{holds_group, holds_path}
use Rattle.refusals.specs.Elsewhere.{group_elsewhere, path_elsewhere}

-- some place but i, among n, that the test holds at
abbrev pub Elsewhere : (ℕ → Bool) → ℕ → ℕ → Type 0
Elsewhere holds i n = (j : ℕ) × (j < n) × (j ≢ i) × (holds j ≡ true)

elsewhere : (holds : ℕ → Bool) (i n : ℕ) → (any_below (λ j. not (eqb j i) && holds j) n ≡ true) ↔ Elsewhere holds i n
elsewhere holds i n = (there, back)
  where
    there : any_below (λ j. not (eqb j i) && holds j) n ≡ true → Elsewhere holds i n
    there e =
        let at = (any_is (λ j. not (eqb j i) && holds j) n).0 e in
        let p = and_true (not (eqb at.0 i)) (holds at.0) at.2 in
        (at.0, at.1, eqb-false at.0 i (not-true (eqb at.0 i) p.0), p.1)

    back : Elsewhere holds i n → any_below (λ j. not (eqb j i) && holds j) n ≡ true
    back at = (any_is (λ j. not (eqb j i) && holds j) n).1 (at.0, at.1, rw (ne_eqb at.0 i at.2) at.3)

module _ (m : Mission) (i : ℕ) where
  pub group_elsewhere_lem : (a : Address) → (group_elsewhere m i a ≡ true) ↔ Elsewhere (λ j. holds_group (group_at m j) a) i group_places
  unfolding group_elsewhere
  group_elsewhere_lem a = elsewhere (λ j. holds_group (group_at m j) a) i group_places

  pub path_elsewhere_lem : (p : PathAddress) → (path_elsewhere m i p ≡ true) ↔ Elsewhere (λ j. holds_path (path_at m j) p) i path_places
  unfolding path_elsewhere
  path_elsewhere_lem p = elsewhere (λ j. holds_path (path_at m j) p) i path_places
