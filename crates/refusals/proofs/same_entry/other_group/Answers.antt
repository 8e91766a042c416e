-- `refusals::same_entry::other_group` meets its contract. Assumes nothing.
use Rattle.records.specs.Held.{holds_group}
use Rattle.refusals.proofs.same_entry.Others.{written, compared}
use Rattle.refusals.proofs.same_entry.other_group.Goals as goal

pub returns-then-i-place : goal.returns-then-i-place
returns-then-i-place c = written _ _ _ c.if-i-place.true

pub returns : goal.returns
returns c = compared holds_group _ _ _ _ _ _ c.if-i-place.false c.holds_group.ensures c.group_of.ensures
