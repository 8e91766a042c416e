-- `next_leg::addresses_next` meets its contract. Assumes nothing.
use Rattle.next_leg.proofs.addresses_next.Goals as goal

pub returns-then-far : goal.returns-then-far
returns-then-far c = simp c.if-far.true c.widen.ensures
