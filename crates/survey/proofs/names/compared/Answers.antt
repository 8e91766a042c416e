-- `survey::names::compared` meets its contract: after i turns the sets are of the first i ports. Assumes nothing.
use native.Mathlib.Omega.{arith}
use mathlib.Core.Path.{refl}
use Rattle.survey.proofs.Naming.{room_for_port, turn_set, all_compared}
use Rattle.survey.proofs.names.compared.Goals as goal

pub loop-i-init : goal.loop-i-init
loop-i-init c = (omega arith, (refl, refl))

pub with_port-addressed-requires : goal.with_port-addressed-requires
with_port-addressed-requires c = room_for_port _ _ c.loop-i-test.true c.loop-i.invariant.1.0 c.only_port-port.ensures

pub with_port-broadcast-requires : goal.with_port-broadcast-requires
with_port-broadcast-requires c = room_for_port _ _ c.loop-i-test.true c.loop-i.invariant.1.1 c.only_port-port.ensures

pub loop-i-preserved : goal.loop-i-preserved
loop-i-preserved c = (
  omega arith,
  (
    turn_set _ _ c.loop-i-test.true c.loop-i.invariant.1.0 c.only_port-port.ensures refl c.with_port-addressed.ensures,
    turn_set _ _ c.loop-i-test.true c.loop-i.invariant.1.1 c.only_port-port.ensures c.is_either.ensures c.with_port-broadcast.ensures,
  ),
)

pub returns : goal.returns
returns c = all_compared _ _ _ c.loop-i-test.false c.loop-i.invariant
