-- The scan of the places that are left, on top of what is found, is the whole scan.
use Rattle.std.proofs.Common.{drop, ◌≡◌}
use Rattle.listing.specs.Scan.{scan_from, scan_of}
use Rattle.list.proofs.scan.Given as goal

abbrev pub invariant-loop-i : goal.invariant-loop-i
invariant-loop-i l = scan_from l.q l.found l.i (drop l.i l.list) ≡ scan_of l.q l.list
