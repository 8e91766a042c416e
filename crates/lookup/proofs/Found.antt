-- What a place says where one is found, and where none is; groups and paths differ in their record only. Assumes nothing.
use Rattle.std.specs.Prelude.{None}
use Prim.Native.Nat.{ℕ, ◌≤◌, ◌<◌}
use mathlib.Core.Path.{◌≡◌, sym, ap, ◌∙◌}
use mathlib.Core.Bool.{Bool, true}
use borrow.Author.Tests.{lt-ltb, le-ltb}
use Rattle.sets.specs.Sets.{first_below}
use Rattle.sets.proofs.Loops.{first_below_found, first_below_end}
use Rattle.records.specs.Held.{holds_group, holds_path}
use Rattle.address.specs.declared.Address.{Address}
use Rattle.address.specs.declared.PathAddress.{PathAddress}
use Rattle.records.specs.declared.Group.{Group}
use Rattle.records.specs.declared.PathPlace.{PathPlace}
use Rattle.state.specs.Relay.{Relay, group_in, path_in}
use Rattle.lookup.specs.Lookup.{group_found, path_found, group_says, path_says, group_place, path_place}

-- what is tested of a record that was read is what is tested of it in the state
pub test_read : {A B : Type 0} (holds : A → B → Bool) {x y : A} (b : B) {t u : Bool} → t ≡ holds x b → x ≡ y → t ≡ u → holds y b ≡ u
test_read holds b told same is = ap (λ z. holds z b) (sym same) ∙ sym told ∙ is

module _ {i : ℕ} (r : Relay) (a : Address) (arrival : ℕ) (first : first_below (λ (j : ℕ). holds_group (group_in r j) a) i ≡ i) where
  -- none of the places before, and this one
  pub group_there : {g : Group} {t : Bool} → i < 16 → g ≡ group_in r i → t ≡ holds_group g a → t ≡ true → group_says g arrival ≡ group_place r a arrival
  unfolding group_place
  group_there h same told is =
      rw (first_below_found _ i 16 h first (test_read holds_group a told same is)) (simp (lt-ltb i 16 h) (ap (λ (x : Group). group_says x arrival) same))

  -- none at all
  pub group_missing : 16 ≤ i → i ≤ 16 → None ≡ group_place r a arrival
  unfolding group_place
  group_missing h most = let e : i ≡ group_found r a = first_below_end _ i h (most, first) in rw (← e) (simp (le-ltb i 16 h))

module _ {i : ℕ} (r : Relay) (p : PathAddress) (first : first_below (λ (j : ℕ). holds_path (path_in r j) p) i ≡ i) where
  pub path_there : {x : PathPlace} {t : Bool} → i < 16 → x ≡ path_in r i → t ≡ holds_path x p → t ≡ true → path_says x ≡ path_place r p
  unfolding path_place
  path_there h same told is = rw (first_below_found _ i 16 h first (test_read holds_path p told same is)) (simp (lt-ltb i 16 h) (ap path_says same))

  pub path_missing : 16 ≤ i → i ≤ 16 → None ≡ path_place r p
  unfolding path_place
  path_missing h most = let e : i ≡ path_found r p = first_below_end _ i h (most, first) in rw (← e) (simp (le-ltb i 16 h))
