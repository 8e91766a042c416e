-- `numbers::validity::check_address_widths` meets its contract: each address is held to the limit that its flags give. Assumes nothing.
use borrow.Author.Tests.{eq-eqb, ne_eqb}
use mathlib.Core.Path.{sym, ◌∙◌}
use Rattle.checks.proofs.Laws.{passed_false, failed_true}
use Rattle.numbers.specs.Out.{wide_out, address_limit, address_widths_out}
use Rattle.numbers.proofs.validity.check_address_widths.Goals as goal

pub returns-then-n-eq1 : goal.returns-then-n-eq1
unfolding address_widths_out
returns-then-n-eq1 c = simp (eq-eqb _ _ c.if-n-eq1.true)

pub returns-in_default : goal.returns-in_default
unfolding address_widths_out
returns-in_default c = let n = c.args.n in
    let answer = rw c.address_limit.ensures at (sym c.check_wide.ensures) ∙ c.in_default.is in
    simp (ne_eqb _ _ c.if-n-eq1.false, failed_true (wide_out (address_limit 1 n.extended) n.destination) answer)

pub returns : goal.returns
unfolding address_widths_out
returns c = let n = c.args.n in
    let answer = rw c.address_limit.ensures at (sym c.check_wide.ensures) ∙ c.in-Passed.is in
    simp (ne_eqb _ _ c.if-n-eq1.false, passed_false (wide_out (address_limit 1 n.extended) n.destination) answer)
    (rw c.address_limit-2.ensures at c.check_wide-2.ensures)
