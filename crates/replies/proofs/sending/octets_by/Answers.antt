-- `replies::sending::octets_by` meets its contract. Assumes nothing.
use Rattle.replies.proofs.Going.{none_taken, some_taken}
use Rattle.replies.proofs.sending.octets_by.Goals as goal

pub returns-then-took-eq0 : goal.returns-then-took-eq0
returns-then-took-eq0 c = none_taken _ c.args.far c.args.a c.args.code c.if-took-eq0.true

pub returns : goal.returns
returns c = some_taken _ c.args.far c.args.a c.args.code c.if-took-eq0.false c.wire_length.ensures.0
