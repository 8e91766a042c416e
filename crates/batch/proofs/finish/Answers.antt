-- `batch::finish` meets its contract. Assumes nothing.
use native.Mathlib.Omega.{arith}
use mathlib.Core.Path.{refl}
use Rattle.relay.proofs.Asking.{was_judged}
use Rattle.batch.proofs.Stretches.{item_fits}
use Rattle.batch.proofs.Finishing.{follows, finished, refused_item}
use borrow.Author.Rules.{rules}
use Rattle.batch.proofs.finish.Goals as goal

pub refuse-requires : goal.refuse-requires
refuse-requires c = λ k. (was_judged _ _ _ _ _ _ c.requires.1.1.1.1.1 k.0 k.1.1.0).1.0

pub overflow_add-result : goal.overflow_add-result
overflow_add-result c = omega (arith, item_fits c.args.lengths.now c.args.octets.now c.args.i c.args.at c.requires.0, c.well_formed)

pub returns-then-refusal-ne0 : goal.returns-then-refusal-ne0
returns-then-refusal-ne0 c = refused_item c.args.board.now c.args.mission.now c.args.lengths.now c.args.slots.now c.args.seconds.now c.args.octets.now c.args.answers.now c.args.output.now c.args.i c.args.at c.args.a c.requires c.args.s _ _ _ c.if-refusal-ne0.true refl c.refuse.ensures.value (c.refuse.ensures.by_index _ _ (λ k. (was_judged _ _ _ _ _ _ c.requires.1.1.1.1.1 k.0 k.1.1.0).0))

pub overflow_add-to : goal.overflow_add-to
overflow_add-to c = omega (arith, item_fits c.args.lengths.now c.args.octets.now c.args.i c.args.at c.requires.0, c.well_formed)

pub after-requires : goal.after-requires
after-requires c = follows c.args.board.now c.args.mission.now c.args.lengths.now c.args.slots.now c.args.seconds.now c.args.octets.now c.args.answers.now c.args.output.now c.args.i c.args.at c.args.a c.requires

pub returns : goal.returns
returns c = finished c.args.board.now c.args.mission.now c.args.lengths.now c.args.slots.now c.args.seconds.now c.args.octets.now c.args.answers.now c.args.output.now c.args.i c.args.at c.args.a c.requires c.args.s _ _ _ c.after.result refl c.after.ensures (search rules)

pub slice_bounds-after-end : goal.slice_bounds-after-end
slice_bounds-after-end c = item_fits c.args.lengths.now c.args.octets.now c.args.i c.args.at c.requires.0
