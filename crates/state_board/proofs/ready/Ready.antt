-- The set of ports that are set up, as a loop gathers it. Assumes nothing.
use native.Mathlib.Omega.{arith}
use native.Mathlib.Nat.{one-mul, mod-eq_of_lt}
use Prim.Native.Nat.{ℕ, ◌+◌, ◌*◌, ◌%◌, ◌^◌, ◌≤◌, ◌<◌}
use mathlib.Core.Path.{◌≡◌, sym, ap, ◌∙◌}
use mathlib.Core.Logic.{◌≢◌}
use mathlib.Core.Bool.{Bool, true, false}
use mathlib.Core.List.{List}
use lib.ListN.{get_or}
use lib.Pow.{pow_mono}
use borrow.Author.Tests.{ne_eqb}
use Rattle.checks.specs.Order.{pick}
use Rattle.records.specs.declared.Port.{Port}
use Rattle.records.specs.Fresh.{fresh_port}
use Rattle.records.specs.SetUp.{is_set_up}
use Rattle.sets.specs.Sets.{port_set}
use Rattle.sets.proofs.Loops.{port_set_next, port_set_below}
use Rattle.state.specs.Relay.{ready_of}

-- a one shifted by a port's number is not cut
pub shifted : (p : ℕ) → p < 8 → 1 * 2 ^ p % 4294967296 ≡ 2 ^ p
shifted p h =
    let small : 2 ^ p ≤ 128 = pow_mono {i = p} {j = 7} (omega arith) in
    rw (one-mul (2 ^ p)) (mod-eq_of_lt (omega arith))

-- port p's set
module _ (x : Port) (p : ℕ) where
  pub bit_out : x.ready ≡ 0 → 0 ≡ pick (is_set_up x) (2 ^ p) 0
  bit_out z = rw z

  pub bit_in : (b : ℕ) → x.ready ≢ 0 → b ≡ 2 ^ p → b ≡ pick (is_set_up x) (2 ^ p) 0
  bit_in b nz is = rw (ne_eqb _ _ nz) is

pick_small : (t : Bool) (p : ℕ) → p < 8 → pick t (2 ^ p) 0 ≤ 128
pick_small true p h = pow_mono {i = p} {j = 7} (omega arith)
pick_small false p h = omega arith

-- the set of those of the first p ports that are set up
abbrev pub ready_below : List Port → ℕ → ℕ
ready_below ports p = port_set (λ (q : ℕ). is_set_up (get_or ports q fresh_port)) p

-- x is port p, and b its set
module _ (ports : List Port) (set p : ℕ) (so_far : set ≡ ready_below ports p) where
  module _ (x : Port) (b : ℕ) (is : x ≡ get_or ports p fresh_port) (e : b ≡ pick (is_set_up x) (2 ^ p) 0) where
    pub room : p < 8 → set + b < 1000
    room h =
        let small : 2 ^ p ≤ 128 = pow_mono {i = p} {j = 7} (omega arith) in
        rw (so_far, e) (omega (arith, port_set_below (λ (q : ℕ). is_set_up (get_or ports q fresh_port)) p, pick_small (is_set_up x) p h))

    pub turn : set + b ≡ ready_below ports (p + 1)
    turn = rw (so_far, e, is) (sym (port_set_next (λ (q : ℕ). is_set_up (get_or ports q fresh_port)) p))

  pub gathered : p ≡ 8 → set ≡ ready_of ports
  unfolding ready_of
  gathered e = so_far ∙ ap (ready_below ports) e
