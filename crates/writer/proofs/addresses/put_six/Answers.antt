-- `writer::addresses::put_six` meets its contract: two numbers of eight octets, one after the other. Assumes nothing.
use native.Mathlib.Omega.{arith}
use Rattle.octets.proofs.Laws.{put_numbers}
use Rattle.header.specs.Build.{six_octets}
use Rattle.writer.proofs.addresses.put_six.Goals as goal

pub returns : goal.returns
unfolding six_octets
returns c = let t = put_numbers _ _ _ _ _ _ _ _ _ _ (c.put_number-next.ensures.value, c.put_number-next.ensures.out_after) (c.put_number.ensures.value, c.put_number.ensures.out_after) (omega arith) in record { value = t.0; out_after = t.1 }
