-- The ports that are set up: page 01, "Numbers that hold everywhere" ("8 ports, numbered 0 to 7, none set up at first"). Assumes nothing.
use Rattle.std.specs.Prelude.{ℕ}
use Rattle.state.specs.Relay.{Relay, ready_of}

-- the set of them, port p as 2^p
abbrev pub ready_set : Relay → ℕ
ready_set r = ready_of r.ports
