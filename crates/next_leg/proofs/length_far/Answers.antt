-- `next_leg::length_far` meets its contract. Assumes nothing.
use native.Mathlib.Omega.{arith}
use Rattle.next_leg.proofs.Made.{next_small, length_kept, length_made}
use Rattle.next_leg.proofs.length_far.Goals as goal

pub header_size-size-requires : goal.header_size-size-requires
header_size-size-requires c = (next_small _ _ _ _ c.requires c.fields_next.ensures).1

pub overflow_add-result : goal.overflow_add-result
overflow_add-result c = omega (arith, (length_made _ _ _ _ c.requires c.is_rewritten.ensures c.if-is_rewritten.true c.fields_next.ensures c.header_size-size.ensures).1)

pub returns-then-is_rewritten : goal.returns-then-is_rewritten
returns-then-is_rewritten c = length_made _ _ _ _ c.requires c.is_rewritten.ensures c.if-is_rewritten.true c.fields_next.ensures c.header_size-size.ensures

pub returns : goal.returns
returns c = length_kept _ _ _ _ c.requires c.is_rewritten.ensures c.if-is_rewritten.false
