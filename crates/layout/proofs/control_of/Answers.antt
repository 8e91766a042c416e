-- `layout::control_of` meets its contract: a control octet that is not there, by the bit before it, is 0. Assumes nothing.
use Prim.Native.Nat.{◌*◌, ◌≤◌}
use native.Mathlib.Omega.{arith}
use Rattle.header.specs.Form.{control_of}
use Rattle.header.proofs.Bounds.{gate}
use Rattle.layout.proofs.control_of.Goals as goal
use Rattle.layout.proofs.control_of.Goals.{After-octet_at, After-octet_at-2}

pub overflow_mul-second : goal.overflow_mul-second
overflow_mul-second c = let second-le : c.second_follows-more.result * c.octet_at.result ≤ c.octet_at.result = rw c.second_follows-more.ensures (gate 20 _ _) in omega (arith, second-le)

pub overflow_mul-third : goal.overflow_mul-third
overflow_mul-third c = let third-le : c.third_follows-most.result * c.octet_at-2.result ≤ c.octet_at-2.result = rw c.third_follows-most.ensures (gate 24 _ _) in omega (arith, third-le)

pub returns : goal.returns
unfolding control_of
returns c = rw
    (c.octet_at-2.ensures, c.third_follows-most.ensures, c.octet_at.ensures, c.second_follows-more.ensures, c.octet_at-first.ensures)
