-- What is still to be put over what stands there now makes what was to be made.
use Rattle.std.proofs.Common.{◌≡◌}
use Rattle.octets.specs.Octets.{octets, pasted}
use Rattle.octets.proofs.put_number.Given as goal

abbrev pub invariant-loop-i : goal.invariant-loop-i
invariant-loop-i l = pasted l.out l.place (octets l.i l.rest) ≡ pasted l.initial.out l.place (octets l.count l.value)
