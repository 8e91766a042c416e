-- `lookup::group_place` meets its contract: no place below i is the group's. Assumes nothing.
use native.Mathlib.Omega.{arith}
use mathlib.Core.Path.{refl}
use Rattle.sets.proofs.Loops.{first_below_none}
use Rattle.state.specs.Seen.{seated}
use Rattle.state.specs.Layout.{decode}
use Rattle.records.specs.Held.{holds_group}
use Rattle.lookup.proofs.Found.{test_read, group_there, group_missing}
use Rattle.lookup.proofs.group_place.Goals as goal

pub loop-i-init : goal.loop-i-init
loop-i-init c = (omega arith, refl)

pub returns-then-holds_group : goal.returns-then-holds_group
returns-then-holds_group c b = group_there (seated b (decode c.args.mission.now)) c.args.a c.args.arrival c.loop-i.invariant.1
    c.loop-i-test.true c.group_of-g.ensures c.holds_group.ensures c.if-holds_group.true

pub loop-i-preserved : goal.loop-i-preserved
loop-i-preserved c = (
  omega arith,
  first_below_none _ _ c.loop-i.invariant.1
      (test_read holds_group _ c.holds_group.ensures c.group_of-g.ensures c.if-holds_group.false),
)

pub returns : goal.returns
returns c b = group_missing (seated b (decode c.args.mission.now)) c.args.a c.args.arrival c.loop-i.invariant.1 c.loop-i-test.false c.loop-i.invariant.0
