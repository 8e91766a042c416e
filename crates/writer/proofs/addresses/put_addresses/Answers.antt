-- `writer::addresses::put_addresses` meets its contract, row by row of table 3-5: one piece, or two one after the other. Assumes nothing.
use native.Mathlib.Omega.{arith}
use Rattle.octets.proofs.Laws.{put_one, put_two, put_numbers}
use Rattle.header.specs.Build.{addresses_octets}
use Rattle.header.proofs.Pieces.{six_length}
use Rattle.writer.proofs.addresses.put_addresses.Goals as goal

pub put_six-requires : goal.put_six-requires
put_six-requires c = omega (arith, six_length c.in-Ipv6.d)

pub returns-in-BasicPath : goal.returns-in-BasicPath
unfolding addresses_octets
returns-in-BasicPath c = let t = put_one _ _ _ _ _ _ (c.put_number.ensures.value, c.put_number.ensures.out_after) in rw c.in-BasicPath.is (record { value = t.0; out_after = t.1 })

pub returns-in-ExtendedPath : goal.returns-in-ExtendedPath
unfolding addresses_octets
returns-in-ExtendedPath c = let t = put_one _ _ _ _ _ _ (c.put_number-in-ExtendedPath.ensures.value, c.put_number-in-ExtendedPath.ensures.out_after) in rw c.in-ExtendedPath.is (record { value = t.0; out_after = t.1 })

pub returns-in-BasicEndSystem : goal.returns-in-BasicEndSystem
unfolding addresses_octets
returns-in-BasicEndSystem c = let t = put_numbers _ _ _ _ _ _ _ _ _ _ (c.put_number-next.ensures.value, c.put_number-next.ensures.out_after) (c.put_number-in-BasicEndSystem.ensures.value, c.put_number-in-BasicEndSystem.ensures.out_after) (omega arith) in rw c.in-BasicEndSystem.is (record { value = t.0; out_after = t.1 })

pub returns-in-ExtendedEndSystem : goal.returns-in-ExtendedEndSystem
unfolding addresses_octets
returns-in-ExtendedEndSystem c = let t = put_numbers _ _ _ _ _ _ _ _ _ _ (c.put_number-next-in-ExtendedEndSystem.ensures.value, c.put_number-next-in-ExtendedEndSystem.ensures.out_after) (c.put_number-in-ExtendedEndSystem.ensures.value, c.put_number-in-ExtendedEndSystem.ensures.out_after) (omega arith) in rw c.in-ExtendedEndSystem.is (record { value = t.0; out_after = t.1 })

pub returns-in-Ipv6 : goal.returns-in-Ipv6
unfolding addresses_octets
returns-in-Ipv6 c = let t = put_two _ _ _ _ _ _ _ _ (c.put_six-next.ensures.value, c.put_six-next.ensures.out_after) (c.put_six.ensures.value, c.put_six.ensures.out_after) (omega (arith, six_length c.in-Ipv6.d, six_length c.in-Ipv6.s)) in rw c.in-Ipv6.is (record { value = t.0; out_after = t.1 })
