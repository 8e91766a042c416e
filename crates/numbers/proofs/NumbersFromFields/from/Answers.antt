-- `Numbers::from` of fields meets its contract: each number is what its function answers. Assumes nothing.
use Rattle.numbers.proofs.Laws.{made}
use Rattle.numbers.proofs.NumbersFromFields.from.Goals as goal

pub returns : goal.returns
returns c = made c.args.f c.destination_number.ensures c.source_number.ensures c.time_number.ensures c.source_flag.ensures c.extended_flag.ensures c.ipv6_flag.ensures c.qos_flag.ensures c.precedence_number.ensures c.routing_number.ensures c.program_number.ensures c.octet_flag.ensures c.octet_number.ensures c.stamp_format.ensures c.pfield_number.ensures c.octet_flag-2.ensures c.octet_number-2.ensures
