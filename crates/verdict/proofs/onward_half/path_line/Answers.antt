-- `verdict::onward_half::path_line` meets its contract. Assumes nothing.
use Rattle.std.proofs.Common.{rules}
use Rattle.verdict.specs.Rule.{path_line}
use Rattle.verdict.proofs.onward_half.path_line.Goals as goal

pub returns-in_default : goal.returns-in_default
unfolding path_line
returns-in_default c = search rules

pub returns-then-set-ne0 : goal.returns-then-set-ne0
unfolding path_line
returns-then-set-ne0 c = search rules

pub returns-then-place-ne0 : goal.returns-then-place-ne0
unfolding path_line
returns-then-place-ne0 c = search rules

pub returns : goal.returns
unfolding path_line
returns c = search rules
