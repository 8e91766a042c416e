-- `layout::layout_of` meets its contract: each place is a sum of bits and of sizes that are small, so no sum wraps. Assumes nothing.
use Prim.Native.Nat.{◌+◌, ◌*◌, ◌≤◌}
use native.Mathlib.Omega.{arith}
use Rattle.header.specs.Form.{layout_of}
use Rattle.header.proofs.Bounds.{gate, address_size_le, stamp_size_le}
use Rattle.layout.proofs.layout_of.Goals as goal
use Rattle.layout.proofs.layout_of.Goals.{After-address_size-one, After-has_source, After-stamp_size}

pub overflow_add-qos : goal.overflow_add-qos
overflow_add-qos c = let one-le : c.address_size-one.result ≤ 16 = rw c.address_size-one.ensures (address_size_le c.args.k) in omega (arith, one-le, c.requires)

pub overflow_mul-qos : goal.overflow_mul-qos
overflow_mul-qos c = let one-le : c.address_size-one.result ≤ 16 = rw c.address_size-one.ensures (address_size_le c.args.k) in let source-le : c.has_source.result * c.address_size-one.result ≤ c.address_size-one.result = rw c.has_source.ensures (gate 25 _ _) in omega (arith, one-le, source-le)

pub overflow_add-qos-2 : goal.overflow_add-qos-2
overflow_add-qos-2 c = let one-le : c.address_size-one.result ≤ 16 = rw c.address_size-one.ensures (address_size_le c.args.k) in let source-le : c.has_source.result * c.address_size-one.result ≤ c.address_size-one.result = rw c.has_source.ensures (gate 25 _ _) in let both-le : c.args.k.end + c.address_size-one.result + c.has_source.result * c.address_size-one.result ≤ 37 = omega (arith, one-le, source-le, c.requires) in omega (arith, both-le)

pub overflow_add-hops : goal.overflow_add-hops
overflow_add-hops c = let one-le : c.address_size-one.result ≤ 16 = rw c.address_size-one.ensures (address_size_le c.args.k) in let source-le : c.has_source.result * c.address_size-one.result ≤ c.address_size-one.result = rw c.has_source.ensures (gate 25 _ _) in let both-le : c.args.k.end + c.address_size-one.result + c.has_source.result * c.address_size-one.result ≤ 37 = omega (arith, one-le, source-le, c.requires) in omega (arith, both-le)

pub overflow_add-stamp : goal.overflow_add-stamp
overflow_add-stamp c = let one-le : c.address_size-one.result ≤ 16 = rw c.address_size-one.ensures (address_size_le c.args.k) in let source-le : c.has_source.result * c.address_size-one.result ≤ c.address_size-one.result = rw c.has_source.ensures (gate 25 _ _) in let both-le : c.args.k.end + c.address_size-one.result + c.has_source.result * c.address_size-one.result ≤ 37 = omega (arith, one-le, source-le, c.requires) in omega (arith, both-le)

pub overflow_add-expanded : goal.overflow_add-expanded
overflow_add-expanded c = let one-le : c.address_size-one.result ≤ 16 = rw c.address_size-one.ensures (address_size_le c.args.k) in let source-le : c.has_source.result * c.address_size-one.result ≤ c.address_size-one.result = rw c.has_source.ensures (gate 25 _ _) in let both-le : c.args.k.end + c.address_size-one.result + c.has_source.result * c.address_size-one.result ≤ 37 = omega (arith, one-le, source-le, c.requires) in let stamp_le : c.stamp_size.result ≤ 8 = rw c.stamp_size.ensures (stamp_size_le _ _) in omega (arith, both-le, stamp_le)

pub overflow_add-checksum : goal.overflow_add-checksum
overflow_add-checksum c = let one-le : c.address_size-one.result ≤ 16 = rw c.address_size-one.ensures (address_size_le c.args.k) in let source-le : c.has_source.result * c.address_size-one.result ≤ c.address_size-one.result = rw c.has_source.ensures (gate 25 _ _) in let both-le : c.args.k.end + c.address_size-one.result + c.has_source.result * c.address_size-one.result ≤ 37 = omega (arith, one-le, source-le, c.requires) in let stamp_le : c.stamp_size.result ≤ 8 = rw c.stamp_size.ensures (stamp_size_le _ _) in omega (arith, both-le, stamp_le)

pub overflow_add-result : goal.overflow_add-result
overflow_add-result c = let one-le : c.address_size-one.result ≤ 16 = rw c.address_size-one.ensures (address_size_le c.args.k) in let source-le : c.has_source.result * c.address_size-one.result ≤ c.address_size-one.result = rw c.has_source.ensures (gate 25 _ _) in let both-le : c.args.k.end + c.address_size-one.result + c.has_source.result * c.address_size-one.result ≤ 37 = omega (arith, one-le, source-le, c.requires) in let stamp_le : c.stamp_size.result ≤ 8 = rw c.stamp_size.ensures (stamp_size_le _ _) in omega (arith, both-le, stamp_le)

pub returns : goal.returns
unfolding layout_of
returns c = rw
    (c.has_checksum.ensures, c.has_expanded.ensures, c.stamp_size.ensures, c.octet_at.ensures, c.format_bits.ensures, c.has_hops.ensures, c.has_qos.ensures, c.has_source.ensures, c.address_size-one.ensures)
