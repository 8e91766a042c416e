-- `lookup::path_place` meets its contract: no place below i is the path's. Assumes nothing.
use native.Mathlib.Omega.{arith}
use mathlib.Core.Path.{refl}
use Rattle.sets.proofs.Loops.{first_below_none}
use Rattle.state.specs.Seen.{seated}
use Rattle.state.specs.Layout.{decode}
use Rattle.records.specs.Held.{holds_path}
use Rattle.lookup.proofs.Found.{test_read, path_there, path_missing}
use Rattle.lookup.proofs.path_place.Goals as goal

pub loop-i-init : goal.loop-i-init
loop-i-init c = (omega arith, refl)

pub returns-then-holds_path : goal.returns-then-holds_path
returns-then-holds_path c b = path_there (seated b (decode c.args.mission.now)) c.args.p c.loop-i.invariant.1
    c.loop-i-test.true c.path_of-x.ensures c.holds_path.ensures c.if-holds_path.true

pub loop-i-preserved : goal.loop-i-preserved
loop-i-preserved c = (
  omega arith,
  first_below_none _ _ c.loop-i.invariant.1
      (test_read holds_path _ c.holds_path.ensures c.path_of-x.ensures c.if-holds_path.false),
)

pub returns : goal.returns
returns c b = path_missing (seated b (decode c.args.mission.now)) c.args.p c.loop-i.invariant.1 c.loop-i-test.false c.loop-i.invariant.0
