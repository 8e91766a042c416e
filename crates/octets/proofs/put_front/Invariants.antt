-- `octets::put_front` meets its contract: what was passed so far stands in front of what is as it was.
use Rattle.std.proofs.Common.{◌≡◌, ◌++◌, take, drop}
use Rattle.octets.proofs.put_front.Given as goal

abbrev pub invariant-loop-i : goal.invariant-loop-i
invariant-loop-i l = l.out ≡ take l.i l.s ++ drop l.i l.initial.out
