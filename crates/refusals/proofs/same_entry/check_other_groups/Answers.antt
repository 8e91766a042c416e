-- `refusals::same_entry::check_other_groups` meets its contract: no place below i is another one with the same entry. Assumes nothing.
use borrow.Author.Rules.{rules}
use Rattle.refusals.specs.Elsewhere.{group_elsewhere}
use Rattle.refusals.proofs.same_entry.Others.{at_first, found, not_here, nowhere}
use Rattle.refusals.proofs.same_entry.check_other_groups.Goals as goal

pub loop-i-init : goal.loop-i-init
loop-i-init c = (search rules, at_first _)

pub returns-then-other_group : goal.returns-then-other_group
unfolding group_elsewhere
returns-then-other_group c = found _ _ c.loop-i.invariant.1 _ c.other_group.ensures _ c.loop-i-test.true c.if-other_group.true

pub loop-i-preserved : goal.loop-i-preserved
loop-i-preserved c = (search rules, not_here _ _ c.loop-i.invariant.1 _ c.other_group.ensures c.if-other_group.false)

pub returns : goal.returns
unfolding group_elsewhere
returns c = nowhere _ _ c.loop-i.invariant.1 _ c.loop-i.invariant.0 c.loop-i-test.false
