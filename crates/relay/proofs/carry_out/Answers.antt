-- `relay::carry_out` meets its contract. Assumes nothing.
use Rattle.relay.specs.Outgoing.{sent_output}
use Rattle.relay.proofs.Received.{received}
use Rattle.relay.proofs.carry_out.Goals as goal

pub send_all-requires : goal.send_all-requires
send_all-requires c = c.requires

pub returns : goal.returns
unfolding sent_output
returns c = record { value = c.receive_number.ensures; mission_after = (λ b. received b _ _ _ c.count.ensures (c.enter_all.ensures b)); output_after = c.send_all.ensures }
