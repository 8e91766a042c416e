-- `writer::front::third_octet` meets its contract: each bit has its own weight, so no sum wraps. Assumes nothing.
use Prim.Native.Nat.{◌≤◌}
use native.Mathlib.Omega.{arith}
use Rattle.header.specs.Build.{third_octet}
use Rattle.header.proofs.Pieces.{address_flags, octet_flag_le}
use Rattle.writer.proofs.front.third_octet.Goals as goal
use Rattle.writer.proofs.front.third_octet.Goals.{After-ipv6_flag, After-octet_flag}

pub overflow_mul-result : goal.overflow_mul-result
overflow_mul-result c = let ipv6-le : c.ipv6_flag.result ≤ 1 = rw c.ipv6_flag.ensures (omega (arith, address_flags c.args.f.addresses)) in omega (arith, ipv6-le)

pub overflow_mul-result-2 : goal.overflow_mul-result-2
overflow_mul-result-2 c = let expanded-le : c.octet_flag.result ≤ 1 = rw c.octet_flag.ensures (octet_flag_le c.args.f.expanded) in omega (arith, expanded-le)

pub overflow_add-result : goal.overflow_add-result
overflow_add-result c = let ipv6-le : c.ipv6_flag.result ≤ 1 = rw c.ipv6_flag.ensures (omega (arith, address_flags c.args.f.addresses)) in let expanded-le : c.octet_flag.result ≤ 1 = rw c.octet_flag.ensures (octet_flag_le c.args.f.expanded) in omega (arith, ipv6-le, expanded-le)

pub overflow_add-result-2 : goal.overflow_add-result-2
overflow_add-result-2 c = let ipv6-le : c.ipv6_flag.result ≤ 1 = rw c.ipv6_flag.ensures (omega (arith, address_flags c.args.f.addresses)) in let expanded-le : c.octet_flag.result ≤ 1 = rw c.octet_flag.ensures (octet_flag_le c.args.f.expanded) in omega (arith, ipv6-le, expanded-le)

pub returns : goal.returns
unfolding third_octet
returns c = rw (c.ipv6_flag.ensures, c.octet_flag.ensures)
