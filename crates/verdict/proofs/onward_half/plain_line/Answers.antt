-- `verdict::onward_half::plain_line` meets its contract. Assumes nothing.
use Rattle.std.proofs.Common.{rules}
use Rattle.verdict.specs.Rule.{plain_line}
use Rattle.verdict.proofs.onward_half.plain_line.Goals as goal

pub returns-then-c-eq0 : goal.returns-then-c-eq0
unfolding plain_line
returns-then-c-eq0 c = search rules

pub returns : goal.returns
unfolding plain_line
returns c = search rules
