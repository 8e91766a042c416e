-- A port that is set up: page 01, "Numbers that hold everywhere" ("8 ports, numbered 0 to 7, none set up at first"). Its flag says no by 0 and
-- yes by anything else. Assumes nothing.
use Rattle.std.specs.Prelude.{Bool, not, eqb}
use Rattle.records.specs.declared.Port.{Port}

abbrev pub is_set_up : Port → Bool
is_set_up p = not (eqb p.ready 0)
