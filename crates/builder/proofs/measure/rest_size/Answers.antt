-- `builder::measure::rest_size` meets its contract. Assumes nothing.
use native.Mathlib.Omega.{arith}
use Rattle.builder.proofs.measure.Laws.{few_addresses, few_qos, few_octet, few_stamp, rest_measured}
use Rattle.builder.proofs.measure.rest_size.Goals as goal

pub overflow_add-result : goal.overflow_add-result
overflow_add-result c = omega (arith, few_addresses c.args.f.addresses c.addresses_size.ensures, few_qos c.args.f.qos c.qos_flag.ensures)

pub overflow_add-result-2 : goal.overflow_add-result-2
overflow_add-result-2 c = omega (arith, few_addresses c.args.f.addresses c.addresses_size.ensures, few_qos c.args.f.qos c.qos_flag.ensures, few_octet c.args.f.hops c.octet_flag.ensures)

pub overflow_add-result-3 : goal.overflow_add-result-3
overflow_add-result-3 c = omega (arith, few_addresses c.args.f.addresses c.addresses_size.ensures, few_qos c.args.f.qos c.qos_flag.ensures, few_octet c.args.f.hops c.octet_flag.ensures, few_stamp c.args.f.stamp c.stamp_size.ensures)

pub overflow_add-result-4 : goal.overflow_add-result-4
overflow_add-result-4 c = omega (arith, few_addresses c.args.f.addresses c.addresses_size.ensures, few_qos c.args.f.qos c.qos_flag.ensures, few_octet c.args.f.hops c.octet_flag.ensures, few_stamp c.args.f.stamp c.stamp_size.ensures, few_octet c.args.f.expanded c.octet_flag-2.ensures)

pub returns : goal.returns
returns c = rest_measured _ c.addresses_size.ensures c.qos_flag.ensures c.octet_flag.ensures c.stamp_size.ensures c.octet_flag-2.ensures
