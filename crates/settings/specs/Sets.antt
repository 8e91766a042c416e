-- When a set of ports is refused: page 01, "Refusal numbers" (21: place or port number, or port not set up). Port p stands in
-- a set as 2^p, so a set of thirty-two bits can name the ports 0 to 31. Assumes nothing.
use Rattle.std.specs.Prelude.{ℕ, zero, suc, Bool, false, not, ◌&&◌, ◌||◌, ltb}
use Rattle.sets.specs.Limits.{port_count}
use Rattle.sets.specs.Sets.{in_set}

-- p is 0 to 7 and set up
abbrev pub is_ready : ℕ → ℕ → Bool
is_ready p ready = ltb p port_count && in_set p ready

-- some p below k is in the set and not ready
unfoldable pub names_other : ℕ → ℕ → ℕ → Bool
names_other zero set ready = false
names_other (suc p) set ready = (in_set p set && not (is_ready p ready)) || names_other p set ready

-- 21: it names a port over 7, or one that is not set up
unfoldable pub set_refused : ℕ → ℕ → Bool
set_refused set ready = names_other 32 set ready
