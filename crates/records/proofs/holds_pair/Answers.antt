-- A derived equality compares field by field, as `same_pair` does.
use Rattle.records.specs.Held.{holds_pair}
use Rattle.records.proofs.holds_pair.Goals as goal

pub returns : goal.returns
unfolding holds_pair
returns c = c.eq.ensures
