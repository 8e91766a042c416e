-- `floods::sweep` meets its contract. Assumes nothing.
use Rattle.state.proofs.Sizes.{pairs_length}
use Rattle.floods.proofs.Sweeping.{past, accepted}
use Rattle.floods.proofs.sweep.Goals as goal

pub returns-then-second-last_of : goal.returns-then-second-last_of
returns-then-second-last_of c = let t = past _ _ _ c.last_of.ensures c.if-second-last_of.true in record { value = t.0; mission_after = t.1 }

pub returns : goal.returns
returns c = let t = accepted _ _ _ c.last_of.ensures c.if-second-last_of.false (pairs_length _) c.put_last.ensures c.sweep_all.ensures in record { value = t.0; mission_after = t.1 }
