-- `next_leg::lengths_next` meets its contract. Assumes nothing.
use Rattle.next_leg.proofs.Measured.{near_built, lengths_built, lengths_kept}
use Rattle.next_leg.proofs.lengths_next.Goals as goal

pub overflow_sub-result : goal.overflow_sub-result
overflow_sub-result c = (near_built _ c.requires c.length_far-far.ensures.0 c.length_far-far.ensures.1 c.adds_any.ensures c.if-adds_any.true c.widening_of.ensures).0

pub returns-then-adds_any : goal.returns-then-adds_any
returns-then-adds_any c = lengths_built _ c.requires c.length_far-far.ensures.0 c.length_far-far.ensures.1 c.adds_any.ensures c.if-adds_any.true c.widening_of.ensures

pub returns : goal.returns
returns c = lengths_kept _ c.requires c.length_far-far.ensures.0 c.length_far-far.ensures.1 c.adds_any.ensures c.if-adds_any.false
