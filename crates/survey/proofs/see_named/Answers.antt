-- `survey::see_named` meets its contract: a port that is not set up is in no set. Assumes nothing.
use Rattle.survey.proofs.Walk.{named_not, named_all}
use Rattle.survey.proofs.see_named.Goals as goal

pub returns-then-p-eq0 : goal.returns-then-p-eq0
returns-then-p-eq0 c = named_not _ _ _ _ c.if-p-eq0.true

pub with_port-requires : goal.with_port-requires
with_port-requires c = (c.requires.0.0, c.requires.1)

pub with_port-requires-2 : goal.with_port-requires-2
with_port-requires-2 c = (c.requires.0.1.0, c.requires.1)

pub with_port-requires-3 : goal.with_port-requires-3
with_port-requires-3 c = (c.requires.0.1.1.0, c.requires.1)

pub returns : goal.returns
returns c = named_all _ _ _ _ c.if-p-eq0.false c.with_port.ensures c.with_port-2.ensures c.own_broadcast.ensures c.with_port-3.ensures
