-- `batch::refusal_by` meets its contract. Assumes nothing.
use Rattle.batch.proofs.Planning.{sum_refused, room_refused, none_refused}
use borrow.Author.Tests.{eq-eqb, ne_eqb, lt-ltb, le-ltb}
use Rattle.checks.specs.Order.{first_of}
use Rattle.batch.proofs.refusal_by.Goals as goal

pub returns-then-routes : goal.returns-then-routes
unfolding first_of
returns-then-routes c = search (eq-eqb, ne_eqb, lt-ltb, le-ltb)

pub returns-then-ports-items : goal.returns-then-ports-items
unfolding first_of
returns-then-ports-items c = search (eq-eqb, ne_eqb, lt-ltb, le-ltb)

pub returns-then-slots-items : goal.returns-then-slots-items
unfolding first_of
returns-then-slots-items c = search (eq-eqb, ne_eqb, lt-ltb, le-ltb)

pub returns-then-seconds-items : goal.returns-then-seconds-items
unfolding first_of
returns-then-seconds-items c = search (eq-eqb, ne_eqb, lt-ltb, le-ltb)

pub returns-then-answers-items : goal.returns-then-answers-items
unfolding first_of
returns-then-answers-items c = search (eq-eqb, ne_eqb, lt-ltb, le-ltb)

pub returns-then-items-gt-ITEMS : goal.returns-then-items-gt-ITEMS
unfolding first_of
returns-then-items-gt-ITEMS c = search (eq-eqb, ne_eqb, lt-ltb, le-ltb)

pub returns-then-sum_passes : goal.returns-then-sum_passes
returns-then-sum_passes c = sum_refused c.args.lengths.now c.args.routes c.args.ports c.args.slots c.args.seconds c.args.octets c.args.answers c.args.output c.if-routes.false c.if-ports-items.false c.if-slots-items.false c.if-seconds-items.false c.if-answers-items.false c.if-items-gt-ITEMS.false c.sum_passes.ensures c.if-sum_passes.true

pub returns-then-output-items : goal.returns-then-output-items
returns-then-output-items c = room_refused c.args.lengths.now c.args.routes c.args.ports c.args.slots c.args.seconds c.args.octets c.args.answers c.args.output c.if-routes.false c.if-ports-items.false c.if-slots-items.false c.if-seconds-items.false c.if-answers-items.false c.if-items-gt-ITEMS.false c.sum_passes.ensures c.if-sum_passes.false c.if-output-items.true

pub returns : goal.returns
returns c = none_refused c.args.lengths.now c.args.routes c.args.ports c.args.slots c.args.seconds c.args.octets c.args.answers c.args.output c.if-routes.false c.if-ports-items.false c.if-slots-items.false c.if-seconds-items.false c.if-answers-items.false c.if-items-gt-ITEMS.false c.sum_passes.ensures c.if-sum_passes.false c.if-output-items.false
