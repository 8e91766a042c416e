-- `Fields::from` of numbers meets its contract: each field is what its function answers. Assumes nothing.
use Rattle.numbers.specs.Fields.{fields_from}
use Rattle.numbers.proofs.fields_from.FieldsFromNumbers.from.Goals as goal

pub returns : goal.returns
unfolding fields_from
returns c = rw (c.addresses_from.ensures, c.qos_from.ensures, c.octet_from.ensures, c.stamp_from.ensures, c.octet_from-2.ensures)
