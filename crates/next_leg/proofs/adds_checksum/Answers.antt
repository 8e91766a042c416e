-- `next_leg::adds_checksum` meets its contract. Assumes nothing.
use mathlib.Core.Path.{refl}
use lib.Dec.{eqb}
use Rattle.next_leg.proofs.Made.{both_so, one_not}
use Rattle.next_leg.proofs.adds_checksum.Goals as goal

pub returns-then-asks_checksum : goal.returns-then-asks_checksum
returns-then-asks_checksum c = both_so _ (eqb c.args.on 0) c.asks_checksum.ensures c.if-asks_checksum.true refl

pub returns : goal.returns
returns c = one_not _ (eqb c.args.on 0) c.asks_checksum.ensures c.if-asks_checksum.false
