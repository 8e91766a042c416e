-- `relay::outgoing::make_if` meets its contract. Assumes nothing.
use Rattle.relay.proofs.outgoing.Headers.{header_fits, made_ready, none_ready}
use Rattle.relay.proofs.outgoing.make_if.Goals as goal

pub returns-then-ports-eq0 : goal.returns-then-ports-eq0
returns-then-ports-eq0 c = none_ready _ c.args.out.now _ c.if-ports-eq0.true

pub write_next-requires : goal.write_next-requires
write_next-requires c = c.requires

pub returns : goal.returns
returns c = made_ready _ _ (header_fits _ _ _ _ _ c.requires.0 c.requires.1.1.0 c.requires.1.1.1.0) c.write_next.ensures.value c.write_next.ensures.out_after
