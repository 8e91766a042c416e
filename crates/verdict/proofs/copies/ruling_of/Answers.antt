-- `verdict::copies::ruling_of` meets its contract. Assumes nothing.
use Rattle.std.proofs.Common.{rules}
use Rattle.verdict.specs.Rule.{ruling_of}
use Rattle.verdict.proofs.copies.ruling_of.Goals as goal

pub returns-in-NotAsked : goal.returns-in-NotAsked
unfolding ruling_of
returns-in-NotAsked c = search rules

pub returns-in-Refused : goal.returns-in-Refused
unfolding ruling_of
returns-in-Refused c = search rules

pub returns-in-Wanted : goal.returns-in-Wanted
unfolding ruling_of
returns-in-Wanted c = search rules
