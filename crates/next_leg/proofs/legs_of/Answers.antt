-- `next_leg::legs_of` meets its contract. Assumes nothing.
use Rattle.next_leg.proofs.Made.{legs_none, legs_made}
use Rattle.next_leg.proofs.Measured.{among_rewrites}
use Rattle.next_leg.proofs.legs_of.Goals as goal

pub returns-then-took-eq0 : goal.returns-then-took-eq0
returns-then-took-eq0 c = legs_none _ _ _ c.if-took-eq0.true c.no_legs.ensures

pub rewritten_octets-requires : goal.rewritten_octets-requires
rewritten_octets-requires c = (c.requires.0, (c.requires.1, among_rewrites c.args.took c.args.domain c.args.l c.except-far.ensures c.rewritten_among-rewritten.ensures))

pub returns : goal.returns
returns c = legs_made _ _ _ c.if-took-eq0.false c.except-far.ensures c.rewritten_among-rewritten.ensures c.rewritten_octets.ensures
