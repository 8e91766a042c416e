-- `survey::see_wanted` meets its contract: a port that is not set up is in no set. Assumes nothing.
use Rattle.survey.proofs.Walk.{wanted_not, wanted_all}
use Rattle.survey.proofs.see_wanted.Goals as goal

pub returns-then-p-eq0 : goal.returns-then-p-eq0
returns-then-p-eq0 c = wanted_not _ _ _ _ _ c.if-p-eq0.true

pub with_port-requires : goal.with_port-requires
with_port-requires c = (c.requires.0.1.1.1.0, c.requires.1)

pub with_port-requires-2 : goal.with_port-requires-2
with_port-requires-2 c = (c.requires.0.1.1.1.1.0, c.requires.1)

pub with_port-requires-3 : goal.with_port-requires-3
with_port-requires-3 c = (c.requires.0.1.1.1.1.1, c.requires.1)

pub returns : goal.returns
returns c = wanted_all _ _ _ _ _ c.if-p-eq0.false c.domain_of.ensures c.with_port.ensures c.size_at.ensures c.fits_port.ensures c.with_port-2.ensures c.with_port-3.ensures
