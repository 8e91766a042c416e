-- `verdict::onward_half::group_line` meets its contract. Assumes nothing.
use Rattle.std.proofs.Common.{rules}
use Rattle.verdict.specs.Rule.{group_line}
use Rattle.verdict.proofs.onward_half.group_line.Goals as goal

pub returns-in_default : goal.returns-in_default
unfolding group_line
returns-in_default c = search rules

pub returns-then-is_alone : goal.returns-then-is_alone
unfolding group_line
returns-then-is_alone c = search rules

pub returns-then-set-eq0 : goal.returns-then-set-eq0
unfolding group_line
returns-then-set-eq0 c = search rules

pub returns : goal.returns
unfolding group_line
returns c = search rules
