-- What holds before each item is `Inv`; the turns are as many as the items that are left.
use Rattle.std.proofs.Common.{◌-◌}
use Rattle.batch.specs.Items.{Lists}
use Rattle.harpjuniper_batch.proofs.Turns.{Inv}
use Rattle.harpjuniper_batch.proofs.hj_receive_many.Given as goal

abbrev pub invariant-loop-i : goal.invariant-loop-i
invariant-loop-i l =
    let x : Lists = record { lengths = l.lengths; ports = l.ports; slots = l.slots; seconds = l.seconds; octets = l.octets } in
    Inv l.board l.fn.mission l.routes x l.fn.answers l.fn.output l.p l.i l.at l.mission l.answers l.output

abbrev pub decreases-loop-i : goal.decreases-loop-i
decreases-loop-i l = l.n - l.i
