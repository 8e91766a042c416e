-- `reader::fields::six_at` meets its contract: two numbers of eight octets. Assumes nothing.
use Rattle.header.specs.Read.{six_of}
use Rattle.reader.proofs.fields.six_at.Goals as goal

pub returns : goal.returns
unfolding six_of
returns c = rw (c.long_at.ensures, c.long_at-2.ensures)
