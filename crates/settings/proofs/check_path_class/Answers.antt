-- `settings::check_path_class` meets its contract. Assumes nothing.
use mathlib.Core.Path.{sym, ◌∙◌}
use Rattle.settings.specs.Refusals.{path_class_refused}
use Rattle.settings.proofs.check_path_class.Goals as goal

pub returns-in_default : goal.returns-in_default
unfolding path_class_refused
returns-in_default c = simp (sym c.path_form.ensures ∙ c.in_default.is)

pub returns : goal.returns
unfolding path_class_refused
returns c = simp (sym c.path_form.ensures ∙ c.in-Valid.is)
