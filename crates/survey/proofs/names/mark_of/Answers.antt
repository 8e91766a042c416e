-- `survey::names::mark_of` meets its contract. Assumes nothing.
use Rattle.survey.proofs.Naming.{shifted}
use Rattle.survey.proofs.names.mark_of.Goals as goal

pub returns : goal.returns
returns c = shifted _
