-- `survey::own_broadcast` meets its contract. Assumes nothing.
use mathlib.Core.Path.{ap, ◌∙◌}
use borrow.Author.Tests.{eq-eqb, ne_eqb}
use Rattle.std.proofs.Common.{Option}
use Rattle.address.specs.declared.Address.{Address}
use Rattle.survey.specs.Survey.{broadcast_is}
use Rattle.survey.proofs.Walk.{own_subnet, own_class, no_broadcast}
use Rattle.survey.proofs.own_broadcast.Goals as goal

pub returns-then-subnet_broadcast-a : goal.returns-then-subnet_broadcast-a
returns-then-subnet_broadcast-a c = eq-eqb _ _ c.if-subnet_broadcast-a.true
    ∙ own_subnet _ _ _ c.subnet_broadcast.ensures c.if-subnet_broadcast-a.true

pub returns-then-a-eq255 : goal.returns-then-a-eq255
returns-then-a-eq255 c = own_class _ _ _ _ c.subnet_broadcast.ensures c.if-subnet_broadcast-a.false
    (c.broadcast_is.ensures
    ∙ ap (λ (b : Option Address). broadcast_is b c.args.a) c.class_broadcast.ensures)

pub returns-else-a-eq255 : goal.returns-else-a-eq255
returns-else-a-eq255 c = ne_eqb _ _ c.if-a-eq255.false
    ∙ no_broadcast _ c.if-a-eq255.false _ _ c.subnet_broadcast.ensures c.if-subnet_broadcast-a.false
