-- `floods::seek` meets its contract: no place below i holds the pair, and free is the lowest free one of them. Assumes nothing.
use native.Mathlib.Omega.{arith}
use mathlib.Core.Path.{refl}
use Rattle.state.specs.Layout.{decode}
use Rattle.floods.proofs.Seeking.{held_there, not_there, free_further, none_free, one_free}
use Rattle.floods.proofs.seek.Goals as goal

pub loop-i-init : goal.loop-i-init
loop-i-init c = (omega arith, (refl, refl))

pub returns-then-holds_pair : goal.returns-then-holds_pair
returns-then-holds_pair c = held_there (decode c.args.mission.now).memory c.args.q c.loop-i.i c.place_of-x.ensures
    c.loop-i-test.true c.holds_pair.ensures c.if-holds_pair.true

pub loop-i-preserved : goal.loop-i-preserved
loop-i-preserved c = let at = c.loop-i in
    let k = (decode c.args.mission.now).memory in (
      omega arith,
      (
        not_there k c.args.q at.i c.place_of-x.ensures at.invariant.1.0 c.holds_pair.ensures c.if-holds_pair.false,
        free_further k at.i c.place_of-x.ensures at.invariant.1.1 c.free_next-free.ensures,
      ),
    )

pub returns-then-free-ge-PAIRS : goal.returns-then-free-ge-PAIRS
returns-then-free-ge-PAIRS c = let at = c.loop-i in
    none_free (decode c.args.mission.now).memory c.args.q c.loop-i-test.false at.invariant.0 at.invariant.1.0 at.invariant.1.1 c.if-free-ge-PAIRS.true

pub returns : goal.returns
returns c = let at = c.loop-i in
    one_free (decode c.args.mission.now).memory c.args.q c.loop-i-test.false at.invariant.0 at.invariant.1.0 at.invariant.1.1 c.if-free-ge-PAIRS.false
