-- `survey::names::named_by` meets its contract: the names say what the ports say. Assumes nothing.
use Rattle.survey.proofs.Naming.{compared_named, nobody_named}
use Rattle.survey.proofs.names.named_by.Goals as goal

pub returns-then-k-a-eq1 : goal.returns-then-k-a-eq1
returns-then-k-a-eq1 c = compared_named _ _ (c.requires c.if-k-ne1.false) _ c.compared.ensures

pub returns : goal.returns
returns c = nobody_named _ _ (c.requires c.if-k-ne1.false) _ c.if-k-a-eq1.false
