-- `writer::elements::put_stamp` meets its contract, format by format. Assumes nothing.
use native.Mathlib.Omega.{arith}
use Rattle.octets.proofs.Laws.{put_none, put_one, put_numbers}
use Rattle.header.specs.Build.{stamp_octets}
use Rattle.writer.proofs.elements.put_stamp.Goals as goal

pub returns-in-None : goal.returns-in-None
unfolding stamp_octets
returns-in-None c = let t = put_none _ _ in rw c.in-None.is (record { value = t.0; out_after = t.1 })

pub returns-in-Some-Implicit : goal.returns-in-Some-Implicit
unfolding stamp_octets
returns-in-Some-Implicit c = let t = put_one _ _ _ _ _ _ (c.put_number.ensures.value, c.put_number.ensures.out_after) in rw (c.in-Some-Implicit.is, rw c.in-Some-Implicit.is at c.in-Some-Implicit.field-0-is) (record { value = t.0; out_after = t.1 })

pub returns-in-Some-Explicit : goal.returns-in-Some-Explicit
unfolding stamp_octets
returns-in-Some-Explicit c = let t = put_numbers _ _ _ _ _ _ _ _ _ _ (c.put_number-next.ensures.value, c.put_number-next.ensures.out_after) (c.put_number-in-Some-Explicit.ensures.value, c.put_number-in-Some-Explicit.ensures.out_after) (omega arith) in rw (c.in-Some-Explicit.is, rw c.in-Some-Explicit.is at c.in-Some-Explicit.field-0-is, ← c.time_size-time_size.ensures) (record { value = t.0; out_after = t.1 })

pub returns-in-Some-Binary : goal.returns-in-Some-Binary
unfolding stamp_octets
returns-in-Some-Binary c = let t = put_one _ _ _ _ _ _ (c.put_number-in-Some-Binary.ensures.value, c.put_number-in-Some-Binary.ensures.out_after) in rw (c.in-Some-Binary.is, rw c.in-Some-Binary.is at c.in-Some-Binary.field-0-is) (record { value = t.0; out_after = t.1 })
