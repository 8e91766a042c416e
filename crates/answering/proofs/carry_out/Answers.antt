-- `answering::carry_out` meets its contract. Assumes nothing.
use Rattle.answering.proofs.Left.{counted_entered}
use Rattle.answering.proofs.carry_out.Goals as goal

pub write_reply-requires : goal.write_reply-requires
write_reply-requires c = c.requires

pub returns : goal.returns
returns c = record { value = c.reply_number.ensures; mission_after = (λ b. counted_entered b _ _ c.args.e c.count_reply.ensures (c.enter_all.ensures b)); output_after = c.write_reply.ensures }
