-- `settings::check_group_class` meets its contract: what the class is told to be, or not to be, is what the law of taken classes asks.
-- Assumes nothing.
use mathlib.Core.Path.{sym, ◌∙◌}
use Rattle.address.specs.declared.Class.TheVariants.{Multicast}
use Rattle.settings.proofs.Answers.{passes, fails}
use Rattle.settings.proofs.Values.{class_taken}
use Rattle.settings.proofs.check_group_class.Goals as goal

pub returns-in_default : goal.returns-in_default
returns-in_default c = fails (class_taken Multicast _) λ e.
    c.in_default.not-Multicast (c.class_of.ensures ∙ e)

pub returns : goal.returns
returns c = passes (class_taken Multicast _) (sym c.class_of.ensures ∙ c.in-Multicast.is)
