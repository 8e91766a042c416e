-- `batch::ask` meets its contract. Assumes nothing.
use native.Mathlib.Omega.{arith}
use Rattle.batch.proofs.Stretches.{item_fits, asked_item}
use Rattle.batch.proofs.ask.Goals as goal

pub overflow_add-to : goal.overflow_add-to
overflow_add-to c = omega (arith, item_fits c.args.lengths.now c.args.octets.now c.args.i c.args.at c.requires.0, c.well_formed)

pub returns : goal.returns
returns c = asked_item c.args.lengths.now c.args.octets.now c.args.i c.args.at c.requires.0 c.args.board.now c.args.mission.now c.args.ports.now c.args.seconds.now c.args.routes c.before_named.ensures

pub slice_bounds-before_named-end : goal.slice_bounds-before_named-end
slice_bounds-before_named-end c = item_fits c.args.lengths.now c.args.octets.now c.args.i c.args.at c.requires.0
