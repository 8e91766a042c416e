-- A port as a mission sees it, over plain variables. Assumes nothing.
use Prim.Native.Nat.{ℕ, ◌≤◌, ◌<◌}
use mathlib.Core.Path.{◌≡◌, refl}
use mathlib.Core.Bool.{Bool, true, false, ◌&&◌}
use lib.Dec.{ltb}
use borrow.Author.Tests.{eq-eqb, ne_eqb, lt-ltb, le-ltb}
use Rattle.records.specs.declared.OwnedPort.{OwnedPort}
use Rattle.records.specs.Fresh.{fresh_port}
use Rattle.records.specs.Owned.{seen_port}

and_false : (t : Bool) → (t && false) ≡ false
and_false true = refl
and_false false = refl

module _ (x : OwnedPort) (n : ℕ) where
  pub its_own : n < 2 → x.mission ≡ n → x.port ≡ seen_port n x
  unfolding seen_port
  its_own h e = simp (lt-ltb n 2 h, eq-eqb x.mission n e)

  pub another : (x.mission ≡ n → ⊥) → fresh_port ≡ seen_port n x
  unfolding seen_port
  another e = simp (ne_eqb x.mission n e, and_false (ltb n 2))

  pub no_mission_lem : 2 ≤ n → fresh_port ≡ seen_port n x
  unfolding seen_port
  no_mission_lem h = simp (le-ltb n 2 h)
