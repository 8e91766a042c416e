-- `settings::check_set` meets its contract. Assumes nothing.
use borrow.Author.Rules.{rules}
use Rattle.settings.proofs.Answers.{passes, fails}
use Rattle.settings.proofs.PortSets.{bits_taken}
use Rattle.settings.proofs.check_set.Goals as goal

pub returns-then-set-ready : goal.returns-then-set-ready
returns-then-set-ready c = fails (bits_taken _ _ (search rules)) c.if-set-ready.true

pub returns : goal.returns
returns c = passes (bits_taken _ _ (search rules)) c.if-set-ready.false
