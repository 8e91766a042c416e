-- `answers::reply_number` meets its contract. Assumes nothing.
use native.Mathlib.Omega.{arith}
use Rattle.answers.proofs.Joined.{replied}
use Rattle.answers.proofs.reply_number.Goals as goal

pub header_parts-requires : goal.header_parts-requires
header_parts-requires c = (c.ruling_parts-below.ensures.1, (omega (arith, c.octets_part.ensures), (omega (arith, c.octets_part-2.ensures), omega arith)))

pub returns : goal.returns
returns c = replied _ _ _ c.part.ensures c.into.ensures c.part-2.ensures c.part-3.ensures c.part-4.ensures c.ruling_parts-below.ensures.0 c.octets_part.ensures c.octets_part-2.ensures c.header_parts.ensures
