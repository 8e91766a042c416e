-- `verdict::copies::copies_of` meets its contract. Assumes nothing.
use Rattle.std.proofs.Common.{rules}
use Rattle.verdict.specs.Rule.{copies_of}
use Rattle.verdict.proofs.copies.copies_of.Goals as goal

pub returns-then-took-eq0 : goal.returns-then-took-eq0
unfolding copies_of
returns-then-took-eq0 c = search rules

pub returns : goal.returns
unfolding copies_of
returns c = search rules
