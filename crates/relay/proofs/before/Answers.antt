-- `relay::before` meets its contract: no names are no wrong names. Assumes nothing.
use Rattle.survey.proofs.Naming.{unlooked}
use Rattle.relay.proofs.before.Goals as goal

pub before_named-requires : goal.before_named-requires
before_named-requires c = λ held here. unlooked _ _ c.no_names.ensures

pub returns : goal.returns
returns c = c.before_named.ensures
