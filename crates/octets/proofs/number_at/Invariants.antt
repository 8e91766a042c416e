-- The value is the number of the octets passed so far, and fits them.
use Rattle.std.proofs.Common.{◌≡◌, ◌<◌, ◌^◌}
use Rattle.octets.specs.Octets.{number}
use Rattle.octets.proofs.number_at.Given as goal

abbrev pub invariant-loop-x : goal.invariant-loop-x
invariant-loop-x l = (l.value ≡ number l.s l.place l.x-index) × (l.value < 256 ^ l.x-index)
