-- `writer::front::put_front` meets its contract: four numbers, one after the other, of which the last two may have no octets. Assumes nothing.
use native.Mathlib.Omega.{arith}
use Rattle.header.proofs.Pieces.{present_le}
use Rattle.writer.proofs.front.Laws.{front_put}
use Rattle.writer.proofs.front.put_front.Goals as goal

pub put_number-c-requires : goal.put_number-c-requires
put_number-c-requires c = omega
    (arith, present_le c.args.second, c.requires, c.presence.ensures, c.put_number-a.ensures.value, c.put_number-a.auto.out, c.put_number-b.ensures.value, c.put_number-b.auto.out)

pub put_number-requires : goal.put_number-requires
put_number-requires c = omega
    (arith, present_le c.args.second, present_le c.args.third, c.requires, c.presence.ensures, c.presence-2.ensures, c.put_number-a.ensures.value, c.put_number-a.auto.out, c.put_number-b.ensures.value, c.put_number-b.auto.out, c.put_number-c.ensures.value, c.put_number-c.auto.out)

pub returns : goal.returns
returns c = let args = c.args in let t = front_put _ _ _ _ _ _ _ _ _ args.len args.shared args.second args.third _ _ c.presence.ensures c.presence-2.ensures
    (c.put_number-a.ensures.value, c.put_number-a.ensures.out_after) (c.put_number-b.ensures.value, c.put_number-b.ensures.out_after) (c.put_number-c.ensures.value, c.put_number-c.ensures.out_after) (c.put_number.ensures.value, c.put_number.ensures.out_after) c.requires.0 in record { value = t.0; out_after = t.1 }
