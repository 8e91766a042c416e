-- `reader::renewal_of` meets its contract. Assumes nothing.
use Rattle.reader.proofs.renewal_of.Goals as goal

pub returns : goal.returns
returns c = rw (c.has_checksum.ensures, c.has_hops.ensures)
