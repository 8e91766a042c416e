-- `writer::front::second_octet` meets its contract: each bit has its own weight, so no sum wraps. Assumes nothing.
use Prim.Native.Nat.{◌≤◌}
use native.Mathlib.Omega.{arith}
use Rattle.header.specs.Build.{second_octet}
use Rattle.header.proofs.Pieces.{address_flags, qos_flag_le, octet_flag_le, format_le, present_le}
use Rattle.writer.proofs.front.second_octet.Goals as goal
use Rattle.writer.proofs.front.second_octet.Goals.{After-extended_flag, After-octet_flag, After-presence, After-qos_flag, After-source_flag, After-stamp_format}

pub overflow_mul-result : goal.overflow_mul-result
overflow_mul-result c = let more-le : c.presence.result ≤ 1 = rw c.presence.ensures (present_le c.args.third) in omega (arith, more-le)

pub overflow_mul-result-2 : goal.overflow_mul-result-2
overflow_mul-result-2 c = let source-le : c.source_flag.result ≤ 1 = rw c.source_flag.ensures (address_flags c.args.f.addresses).0 in omega (arith, source-le)

pub overflow_add-result : goal.overflow_add-result
overflow_add-result c = let more-le : c.presence.result ≤ 1 = rw c.presence.ensures (present_le c.args.third) in let source-le : c.source_flag.result ≤ 1 = rw c.source_flag.ensures (address_flags c.args.f.addresses).0 in omega (arith, more-le, source-le)

pub overflow_mul-result-3 : goal.overflow_mul-result-3
overflow_mul-result-3 c = let hops-le : c.octet_flag.result ≤ 1 = rw c.octet_flag.ensures (octet_flag_le c.args.f.hops) in omega (arith, hops-le)

pub overflow_add-result-2 : goal.overflow_add-result-2
overflow_add-result-2 c = let more-le : c.presence.result ≤ 1 = rw c.presence.ensures (present_le c.args.third) in let source-le : c.source_flag.result ≤ 1 = rw c.source_flag.ensures (address_flags c.args.f.addresses).0 in let hops-le : c.octet_flag.result ≤ 1 = rw c.octet_flag.ensures (octet_flag_le c.args.f.hops) in omega (arith, more-le, source-le, hops-le)

pub overflow_mul-result-4 : goal.overflow_mul-result-4
overflow_mul-result-4 c = let stamp_le : c.stamp_format.result ≤ 3 = rw c.stamp_format.ensures (format_le c.args.f.stamp) in omega (arith, stamp_le)

pub overflow_add-result-3 : goal.overflow_add-result-3
overflow_add-result-3 c = let more-le : c.presence.result ≤ 1 = rw c.presence.ensures (present_le c.args.third) in let source-le : c.source_flag.result ≤ 1 = rw c.source_flag.ensures (address_flags c.args.f.addresses).0 in let hops-le : c.octet_flag.result ≤ 1 = rw c.octet_flag.ensures (octet_flag_le c.args.f.hops) in let stamp_le : c.stamp_format.result ≤ 3 = rw c.stamp_format.ensures (format_le c.args.f.stamp) in omega (arith, more-le, source-le, hops-le, stamp_le)

pub overflow_mul-result-5 : goal.overflow_mul-result-5
overflow_mul-result-5 c = let qos-le : c.qos_flag.result ≤ 1 = rw c.qos_flag.ensures (qos_flag_le c.args.f.qos) in omega (arith, qos-le)

pub overflow_add-result-4 : goal.overflow_add-result-4
overflow_add-result-4 c = let more-le : c.presence.result ≤ 1 = rw c.presence.ensures (present_le c.args.third) in let source-le : c.source_flag.result ≤ 1 = rw c.source_flag.ensures (address_flags c.args.f.addresses).0 in let hops-le : c.octet_flag.result ≤ 1 = rw c.octet_flag.ensures (octet_flag_le c.args.f.hops) in let stamp_le : c.stamp_format.result ≤ 3 = rw c.stamp_format.ensures (format_le c.args.f.stamp) in let qos-le : c.qos_flag.result ≤ 1 = rw c.qos_flag.ensures (qos_flag_le c.args.f.qos) in omega (arith, more-le, source-le, hops-le, stamp_le, qos-le)

pub overflow_mul-result-6 : goal.overflow_mul-result-6
overflow_mul-result-6 c = let extended-le : c.extended_flag.result ≤ 1 = rw c.extended_flag.ensures (omega (arith, address_flags c.args.f.addresses)) in omega (arith, extended-le)

pub overflow_add-result-5 : goal.overflow_add-result-5
overflow_add-result-5 c = let more-le : c.presence.result ≤ 1 = rw c.presence.ensures (present_le c.args.third) in let source-le : c.source_flag.result ≤ 1 = rw c.source_flag.ensures (address_flags c.args.f.addresses).0 in let hops-le : c.octet_flag.result ≤ 1 = rw c.octet_flag.ensures (octet_flag_le c.args.f.hops) in let stamp_le : c.stamp_format.result ≤ 3 = rw c.stamp_format.ensures (format_le c.args.f.stamp) in let qos-le : c.qos_flag.result ≤ 1 = rw c.qos_flag.ensures (qos_flag_le c.args.f.qos) in let extended-le : c.extended_flag.result ≤ 1 = rw c.extended_flag.ensures (omega (arith, address_flags c.args.f.addresses)) in omega
    (arith, more-le, source-le, hops-le, stamp_le, qos-le, extended-le)

pub returns : goal.returns
unfolding second_octet
returns c = rw
    (c.presence.ensures, c.requires, c.source_flag.ensures, c.octet_flag.ensures, c.stamp_format.ensures, c.qos_flag.ensures, c.extended_flag.ensures)
