-- `answers::receive_number` meets its contract. Assumes nothing.
use native.Mathlib.Omega.{arith}
use Rattle.answers.proofs.Joined.{received}
use Rattle.answers.proofs.receive_number.Goals as goal

pub header_parts-requires : goal.header_parts-requires
header_parts-requires c = (c.ruling_parts-below.ensures.1, (omega (arith, c.octets_part.ensures), (omega (arith, c.octets_part-2.ensures), omega (arith, c.part-6.ensures))))

pub returns : goal.returns
returns c = received _ c.part.ensures c.into.ensures c.part-2.ensures c.into-2.ensures c.part-3.ensures c.part-4.ensures c.part-5.ensures c.ruling_parts-below.ensures.0 c.octets_part.ensures c.octets_part-2.ensures c.part-6.ensures c.header_parts.ensures
