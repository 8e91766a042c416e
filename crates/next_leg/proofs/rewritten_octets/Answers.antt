-- `next_leg::rewritten_octets` meets its contract. Assumes nothing.
use Rattle.next_leg.proofs.Made.{octets_none}
use Rattle.next_leg.proofs.Measured.{octets_some}
use Rattle.next_leg.proofs.rewritten_octets.Goals as goal

pub returns-then-rewritten-eq0 : goal.returns-then-rewritten-eq0
returns-then-rewritten-eq0 c = octets_none c.args.rewritten c.args.far c.args.l c.if-rewritten-eq0.true

pub overflow_sub-result-2 : goal.overflow_sub-result-2
overflow_sub-result-2 c = (octets_some c.args.rewritten c.args.far c.args.l c.if-rewritten-eq0.false c.requires.1.1 c.requires.1.0 c.length_for.ensures).0

pub returns : goal.returns
returns c = (octets_some c.args.rewritten c.args.far c.args.l c.if-rewritten-eq0.false c.requires.1.1 c.requires.1.0 c.length_for.ensures).1
