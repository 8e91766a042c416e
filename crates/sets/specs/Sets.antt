-- What a loop over numbered things gathers, for any test of a number: page 01, "Settings" (sets of ports; entries that differ from place to
-- place). Assumes nothing.
use Rattle.std.specs.Prelude.{ℕ, zero, suc, ◌+◌, ◌/◌, ◌%◌, ◌^◌, Bool, false, ◌||◌, eqb, ltb}
use Rattle.checks.specs.Order.{pick}
use Rattle.sets.specs.Limits.{port_count}

-- p is in the set
abbrev pub in_set : ℕ → ℕ → Bool
in_set p set = eqb (set / 2 ^ p % 2) 1

-- the set of one port; a port over 7 is none
abbrev pub only_port : ℕ → ℕ
only_port port = pick (ltb port port_count) (2 ^ port) 0

-- the set of those of the first n that the test holds at
abbrev pub port_set : (ℕ → Bool) → ℕ → ℕ
port_set test zero = 0
port_set test (suc p) = port_set test p + pick (test p) (2 ^ p) 0

-- the test holds at some of the first n
abbrev pub any_below : (ℕ → Bool) → ℕ → Bool
any_below test zero = false
any_below test (suc i) = any_below test i || test i

-- the first of the first n that the test holds at; n where there is none
abbrev pub first_below : (ℕ → Bool) → ℕ → ℕ
first_below test zero = zero
first_below test (suc i) = pick (eqb (first_below test i) i) (pick (test i) i (suc i)) (first_below test i)
