-- `survey::names::names_of` meets its contract: after i turns it has the names of the first i ports. Assumes nothing.
use native.Mathlib.Omega.{arith}
use mathlib.Core.Path.{refl}
use Rattle.survey.proofs.Naming.{room_for_port, no_port_yet, turn_names, all_ports_lem}
use Rattle.survey.proofs.names.names_of.Goals as goal

pub loop-i-init : goal.loop-i-init
loop-i-init c = (omega arith, no_port_yet _)

pub with_port-ready-requires : goal.with_port-ready-requires
with_port-ready-requires c = room_for_port _ _ c.loop-i-test.true c.loop-i.invariant.1.1.1.1.ready c.only_port.ensures

pub loop-i-preserved : goal.loop-i-preserved
loop-i-preserved c = (
  omega arith,
  turn_names _ _ _ c.loop-i-test.true c.loop-i.invariant.1 c.seen_port-p.ensures c.subnet_broadcast-near.ensures c.class_broadcast.ensures c.broadcast_or-far.ensures c.only_port.ensures c.with_port-ready.ensures c.marked_by-marks.ensures,
)

pub returns : goal.returns
returns c = (refl, all_ports_lem _ _ _ c.loop-i-test.false c.loop-i.invariant)
