-- `replies::stamp_number` meets its contract. Assumes nothing.
use native.Mathlib.Omega.{arith}
use Rattle.header.proofs.Pieces.{stamp_le}
use Rattle.replies.proofs.Making.{stamp_told}
use Rattle.replies.proofs.stamp_number.Goals as goal

pub number_at-requires : goal.number_at-requires
number_at-requires c = (omega (arith, stamp_le c.args.t, c.put_stamp-size.ensures.value), omega (arith, stamp_le c.args.t, c.put_stamp-size.ensures.value, c.put_stamp-size.auto.out))

pub returns : goal.returns
returns c = stamp_told _ _ _ c.put_stamp-size.ensures.out_after c.put_stamp-size.ensures.value c.number_at.ensures.value
