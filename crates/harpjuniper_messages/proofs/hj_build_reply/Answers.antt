-- `harpjuniper_messages::hj_build_reply` meets its contract. Assumes nothing.
use Rattle.harpjuniper_messages.specs.Face.{reply_of}
use Rattle.harpjuniper_messages.proofs.Laws.{answered}
use Rattle.echo.proofs.Refusals.{built_told}
use Rattle.harpjuniper_messages.proofs.hj_build_reply.Goals as goal

pub returns : goal.returns
returns c = let t = answered (reply_of c.args.identifier c.args.sequence c.args.hops c.args.format c.args.stamp c.args.mtu c.args.rate) _ _ _ _ _ _ c.message_with-m.ensures (built_told _ _ _ _ c.build_message.ensures.value)
    c.build_message.ensures.out_after c.built_answer.ensures in record { value = t.0; output_after = t.1 }
