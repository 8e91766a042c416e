-- Whose a port is: page 02, W-208 ("Each has its own ports (given at the port's writing)"). There are two missions, 0 and 1; words that C lends
-- may have any number, and one over 1 owns no port. Assumes nothing.
use Rattle.std.specs.Prelude.{ℕ, Bool, ◌&&◌, eqb, ltb}
use Rattle.checks.specs.Order.{pick}
use Rattle.sets.specs.Limits.{mission_count}
use Rattle.records.specs.declared.Port.{Port}
use Rattle.records.specs.declared.OwnedPort.{OwnedPort}
use Rattle.records.specs.Fresh.{fresh_port}

-- a mission's number: 0 or 1
abbrev pub is_mission : ℕ → Bool
is_mission n = ltb n mission_count

abbrev pub owns : ℕ → OwnedPort → Bool
owns n x = is_mission n && eqb x.mission n

-- the port as mission n sees it: another's is not set up
unfoldable pub seen_port : ℕ → OwnedPort → Port
seen_port n x = pick (owns n x) x.port fresh_port
