-- `verdict::local_half::target_of` meets its contract. Assumes nothing.
use Rattle.std.proofs.Common.{rules}
use Rattle.verdict.specs.Rule.{target_of}
use Rattle.verdict.proofs.local_half.target_of.Goals as goal

pub returns-then-s-ne0 : goal.returns-then-s-ne0
unfolding target_of
returns-then-s-ne0 c = search rules

pub returns-then-s-ne0-2 : goal.returns-then-s-ne0-2
unfolding target_of
returns-then-s-ne0-2 c = search rules

pub returns : goal.returns
unfolding target_of
returns c = search rules
