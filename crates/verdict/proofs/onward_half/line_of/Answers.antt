-- `verdict::onward_half::line_of` meets its contract. Assumes nothing.
use Rattle.std.proofs.Common.{rules}
use Rattle.verdict.specs.Rule.{line_of}
use Rattle.verdict.proofs.onward_half.line_of.Goals as goal

pub returns-in_default : goal.returns-in_default
unfolding line_of
returns-in_default c = search rules

pub returns : goal.returns
unfolding line_of
returns c = search rules
