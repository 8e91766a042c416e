-- `survey::names::compared` meets its contract: after i turns the sets are of the first i ports. Assumes nothing.
use Prim.Native.Nat.{◌-◌, ◌≤◌}
use mathlib.Core.Path.{◌≡◌}
use Rattle.sets.specs.Sets.{port_set}
use Rattle.survey.specs.Names.{has_own, has_broadcast}
use Rattle.survey.proofs.names.compared.Given as goal

abbrev pub invariant-loop-i : goal.invariant-loop-i
invariant-loop-i l = (l.i ≤ 8) × ((l.addressed ≡ port_set (has_own l.k l.a) l.i) × (l.broadcast ≡ port_set (has_broadcast l.k l.a) l.i))
