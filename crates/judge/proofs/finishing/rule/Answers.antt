-- `judge::finishing::rule` meets its contract. Assumes nothing.
use Rattle.judge.proofs.Wanted.{wished_not, wished_refused, wished_among}
use Rattle.judge.proofs.finishing.rule.Goals as goal

pub returns-in-NotAsked : goal.returns-in-NotAsked
returns-in-NotAsked c d = wished_not _ d _ _ _ _ c.after_hops.ensures c.in-NotAsked.is c.unsent.ensures

pub returns-in-Refused : goal.returns-in-Refused
returns-in-Refused c d = wished_refused _ d _ _ _ _ c.after_hops.ensures _ c.in-Refused.is c.unsent-in-Refused.ensures

pub returns-in-Wanted : goal.returns-in-Wanted
returns-in-Wanted c d = wished_among _ d _ _ _ _ c.after_hops.ensures _ c.in-Wanted.is c.rule_wanted.ensures
