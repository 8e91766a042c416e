-- `refusals::same_entry::check_other_paths` meets its contract: no place below i is another one with the same entry. Assumes nothing.
use borrow.Author.Rules.{rules}
use Rattle.refusals.specs.Elsewhere.{path_elsewhere}
use Rattle.refusals.proofs.same_entry.Others.{at_first, found, not_here, nowhere}
use Rattle.refusals.proofs.same_entry.check_other_paths.Goals as goal

pub loop-i-init : goal.loop-i-init
loop-i-init c = (search rules, at_first _)

pub returns-then-other_path : goal.returns-then-other_path
unfolding path_elsewhere
returns-then-other_path c = found _ _ c.loop-i.invariant.1 _ c.other_path.ensures _ c.loop-i-test.true c.if-other_path.true

pub loop-i-preserved : goal.loop-i-preserved
loop-i-preserved c = (search rules, not_here _ _ c.loop-i.invariant.1 _ c.other_path.ensures c.if-other_path.false)

pub returns : goal.returns
unfolding path_elsewhere
returns c = nowhere _ _ c.loop-i.invariant.1 _ c.loop-i.invariant.0 c.loop-i-test.false
