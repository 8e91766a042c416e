-- `builder::put_rest` meets its contract: five elements, one after the other, in room for the most that each has. Assumes nothing.
use native.Mathlib.Omega.{arith}
use Rattle.builder.proofs.Laws.{element_sizes, rest_put}
use Rattle.builder.proofs.put_rest.Goals as goal

pub put_qos-b-requires : goal.put_qos-b-requires
put_qos-b-requires c = let z = element_sizes c.args.f in
    omega (arith, c.requires, c.put_addresses-a.ensures.value, c.put_addresses-a.auto.out)

pub put_octet-c-requires : goal.put_octet-c-requires
put_octet-c-requires c = let z = element_sizes c.args.f in
    omega (arith, c.requires, c.put_addresses-a.ensures.value, c.put_addresses-a.auto.out, c.put_qos-b.ensures.value, c.put_qos-b.auto.out)

pub put_stamp-d-requires : goal.put_stamp-d-requires
put_stamp-d-requires c = let z = element_sizes c.args.f in
    omega
    (arith, c.requires, c.put_addresses-a.ensures.value, c.put_addresses-a.auto.out, c.put_qos-b.ensures.value, c.put_qos-b.auto.out, c.put_octet-c.ensures.value, c.put_octet-c.auto.out)

pub put_octet-requires : goal.put_octet-requires
put_octet-requires c = let z = element_sizes c.args.f in
    omega
    (arith, c.requires, c.put_addresses-a.ensures.value, c.put_addresses-a.auto.out, c.put_qos-b.ensures.value, c.put_qos-b.auto.out, c.put_octet-c.ensures.value, c.put_octet-c.auto.out, c.put_stamp-d.ensures.value, c.put_stamp-d.auto.out)

pub returns : goal.returns
returns c = let t = rest_put c.args.f _ _ _ _ _ _ _ _ _ _ _ _ (c.put_addresses-a.ensures.value, c.put_addresses-a.ensures.out_after) (c.put_qos-b.ensures.value, c.put_qos-b.ensures.out_after) (c.put_octet-c.ensures.value, c.put_octet-c.ensures.out_after) (c.put_stamp-d.ensures.value, c.put_stamp-d.ensures.out_after)
    (c.put_octet.ensures.value, c.put_octet.ensures.out_after) c.requires in record { value = t.0; out_after = t.1 }
