-- `writer::elements::put_qos` meets its contract, absent and present. Assumes nothing.
use Rattle.octets.proofs.Laws.{put_none, put_one}
use Rattle.header.specs.Build.{qos_octets}
use Rattle.writer.proofs.elements.put_qos.Goals as goal

pub returns-in-None : goal.returns-in-None
unfolding qos_octets
returns-in-None c = let t = put_none _ _ in rw c.in-None.is (record { value = t.0; out_after = t.1 })

pub returns-in-Some : goal.returns-in-Some
unfolding qos_octets
returns-in-Some c = let t = put_one _ _ _ _ _ _ (c.put_number.ensures.value, c.put_number.ensures.out_after) in rw c.in-Some.is (record { value = t.0; out_after = t.1 })
