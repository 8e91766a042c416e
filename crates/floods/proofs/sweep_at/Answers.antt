-- `floods::sweep_at` meets its contract. Assumes nothing.
use Rattle.floods.proofs.Sweeping.{stays, goes}
use mathlib.Core.Path.{ap}
use mathlib.Core.Bool.{not}
use Rattle.floods.proofs.sweep_at.Goals as goal

pub returns-then-not-is_old : goal.returns-then-not-is_old
returns-then-not-is_old c = stays _ _ _ c.args.i c.place_of-x.ensures c.is_old.ensures (ap not c.if-not-is_old.true)

pub returns : goal.returns
returns c = goes _ _ _ c.args.i c.place_of-x.ensures c.is_old.ensures (ap not c.if-not-is_old.false) c.put_pair.ensures
