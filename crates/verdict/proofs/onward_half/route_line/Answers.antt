-- `verdict::onward_half::route_line` meets its contract. Assumes nothing.
use Rattle.std.proofs.Common.{rules}
use Rattle.verdict.specs.Rule.{route_line}
use Rattle.verdict.proofs.onward_half.route_line.Goals as goal

pub returns-in_default : goal.returns-in_default
unfolding route_line
returns-in_default c = search rules

pub returns : goal.returns
unfolding route_line
returns c = search rules
