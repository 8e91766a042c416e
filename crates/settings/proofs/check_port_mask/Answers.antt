-- `settings::check_port_mask` meets its contract. Assumes nothing.
use mathlib.Core.Path.{sym, ap, ◌∙◌}
use Rattle.checks.proofs.Bools.{true_false}
use Rattle.checks.proofs.Laws.{passed_false, failed_true}
use Rattle.address.specs.declared.Address.{Address}
use Rattle.settings.specs.Refusals.{form_refused, port_mask_refused}
use Rattle.settings.proofs.Answers.{passes, fails}
use Rattle.settings.proofs.PortMask.{broadcast_taken}
use Rattle.settings.proofs.check_port_mask.Goals as goal

pub returns-in_default : goal.returns-in_default
unfolding port_mask_refused form_refused
returns-in_default c = simp (sym c.mask_form.ensures ∙ c.in_default.is)

pub returns-in_default-check_ones : goal.returns-in_default-check_ones
returns-in_default-check_ones c = fails (broadcast_taken _ _ _
    (sym c.mask_form.ensures ∙ c.in-Some.is))
    (λ h. true_false (sym (failed_true _ (sym c.check_ones.ensures ∙ c.in_default-check_ones.is)) ∙ h.0))

pub returns-then-subnet_broadcast-a : goal.returns-then-subnet_broadcast-a
returns-then-subnet_broadcast-a c = fails (broadcast_taken _ _ _
    (sym c.mask_form.ensures
    ∙ c.in-Some.is))
    (λ h. h.1 (sym (ap (λ (b : Address). b.0) c.subnet_broadcast.ensures) ∙ c.if-subnet_broadcast-a.true))

pub returns : goal.returns
returns c = passes (broadcast_taken _ _ _
    (sym c.mask_form.ensures
    ∙ c.in-Some.is)) (
      passed_false _
          (sym c.check_ones.ensures
          ∙ c.in-Passed.is),
      λ own. c.if-subnet_broadcast-a.false (ap (λ (b : Address). b.0) c.subnet_broadcast.ensures ∙ own),
    )
