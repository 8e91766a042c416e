-- `verdict::local_half::local_of` meets its contract. Assumes nothing.
use Rattle.std.proofs.Common.{rules}
use Rattle.verdict.specs.Rule.{local_of}
use Rattle.verdict.proofs.local_half.local_of.Goals as goal

pub returns-then-not-is_wanted_here : goal.returns-then-not-is_wanted_here
unfolding local_of
returns-then-not-is_wanted_here c = search rules

pub returns-then-c-eq0 : goal.returns-then-c-eq0
unfolding local_of
returns-then-c-eq0 c = search rules

pub returns : goal.returns
unfolding local_of
returns c = search rules
