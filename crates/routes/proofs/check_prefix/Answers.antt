-- `routes::check_prefix` meets its contract: the mask's form is told before the prefix is looked at. Assumes nothing.
use borrow.Author.Tests.{eq-eqb, ne_eqb}
use mathlib.Core.Path.{sym, ◌∙◌}
use Rattle.routes.specs.Refusals.{prefix_refused}
use Rattle.routes.proofs.check_prefix.Goals as goal

pub returns-in_default : goal.returns-in_default
unfolding prefix_refused
returns-in_default c = simp (sym c.mask_form.ensures ∙ c.in_default.is)

pub returns-then-prefix-mask : goal.returns-then-prefix-mask
unfolding prefix_refused
returns-then-prefix-mask c = let k = c.before.before.before.before in
    simp (sym k.mask_form.ensures ∙ k.in-Some.is, ne_eqb _ _ c.if-prefix-mask.true)

pub returns : goal.returns
unfolding prefix_refused
returns c = let k = c.before.before.before.before in
    simp (sym k.mask_form.ensures ∙ k.in-Some.is, eq-eqb _ _ c.if-prefix-mask.false)
