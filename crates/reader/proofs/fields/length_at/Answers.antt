-- `reader::fields::length_at` meets its contract: five bits of the first octet and the whole second. Assumes nothing.
use Rattle.header.specs.Read.{length_of}
use Rattle.reader.proofs.fields.length_at.Goals as goal

pub returns : goal.returns
unfolding length_of
returns c = rw (c.octet_at.ensures, c.octet_at-2.ensures)
