-- `floods::remember` meets its contract. Assumes nothing.
use Rattle.floods.proofs.Keeping.{second_kept}
use Rattle.floods.proofs.remember.Goals as goal

pub returns : goal.returns
returns c = second_kept c.args.f _ _ _ c.put_last.ensures c.keep.ensures
