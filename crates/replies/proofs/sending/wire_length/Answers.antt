-- `replies::sending::wire_length` meets its contract. Assumes nothing.
use native.Mathlib.Omega.{arith}
use Rattle.replies.proofs.Going.{wired_small, wired_size, length_wired}
use Rattle.replies.proofs.sending.wire_length.Goals as goal

pub header_size-requires : goal.header_size-requires
header_size-requires c = (wired_small _ c.args.a _ c.requires c.wire_fields.ensures).1

pub overflow_add-result : goal.overflow_add-result
overflow_add-result c = omega (arith, (wired_size _ c.args.a _ c.requires c.wire_fields.ensures c.header_size.ensures).0)

pub overflow_add-result-2 : goal.overflow_add-result-2
overflow_add-result-2 c = omega (arith, wired_size _ c.args.a _ c.requires c.wire_fields.ensures c.header_size.ensures)

pub returns : goal.returns
returns c = length_wired _ c.args.a _ c.requires c.wire_fields.ensures c.header_size.ensures
