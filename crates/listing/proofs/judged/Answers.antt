-- `listing::judged` meets its contract: each return has the tests that its definition asks. Assumes nothing.
use mathlib.Core.Path.{sym, ◌∙◌}
use native.Mathlib.Omega.{arith}
use Rattle.address.proofs.Masks.{form_ones}
use Rattle.listing.proofs.Turns.{unready, uncoded, mixed, hidden, shown}
use Rattle.listing.proofs.judged.Goals as goal

pub returns-in_default : goal.returns-in_default
returns-in_default c = unready _ _ _ _ c.check_ready.ensures c.in_default.is

pub returns-in_default-check_codes : goal.returns-in_default-check_codes
returns-in_default-check_codes c = uncoded _ _ _ _ c.check_ready.ensures c.check_codes.ensures c.in-Passed.is c.in_default-check_codes.is

pub returns-in_default-mask_form : goal.returns-in_default-mask_form
returns-in_default-mask_form c = mixed _ _ _ _ c.check_ready.ensures c.check_codes.ensures c.in-Passed.is c.in-Passed-check_codes.is
    (sym c.mask_form.ensures ∙ c.in_default-mask_form.is)

pub overflow_shr-s : goal.overflow_shr-s
overflow_shr-s c = omega (arith, ((form_ones _ _).0 (sym c.mask_form.ensures ∙ c.in-Some.is)).0)

pub returns-then-s-n-eq1 : goal.returns-then-s-n-eq1
returns-then-s-n-eq1 c = hidden _ _ _ _ c.check_ready.ensures c.check_codes.ensures c.in-Passed.is c.in-Passed-check_codes.is _
    (sym c.mask_form.ensures ∙ c.in-Some.is) c.if-s-n-eq1.true

pub overflow_shl-noted : goal.overflow_shl-noted
overflow_shl-noted c = omega (arith, ((form_ones _ _).0 (sym c.mask_form.ensures ∙ c.in-Some.is)).0)

pub returns : goal.returns
returns c = c.taken.ensures
    ∙ shown _ _ _ _ c.check_ready.ensures c.check_codes.ensures c.in-Passed.is c.in-Passed-check_codes.is _
    (sym c.mask_form.ensures ∙ c.in-Some.is) c.if-s-n-eq1.false
