-- `numbers::validity::check_numbers` meets its contract, check by check: what each answers tells its condition. Assumes nothing.
use mathlib.Core.Path.{◌≡◌, sym, ◌∙◌}
use mathlib.Core.Bool.{false}
use Rattle.checks.proofs.Laws.{passed_false, failed_true}
use Rattle.numbers.specs.Out.{octets_out, address_flags_out, address_widths_out, numbers_out}
use Rattle.numbers.proofs.validity.check_numbers.Goals as goal
use Rattle.numbers.proofs.validity.check_numbers.Goals.{In-Passed, In-Passed-check_address_flags, In-Passed-check_address_widths}

pub returns-in_default : goal.returns-in_default
unfolding numbers_out
returns-in_default c = let n = c.args.n in
    let out = failed_true (octets_out n) (sym c.check_under.ensures ∙ c.in_default.is) in
    simp out

pub returns-in_default-check_address_flags : goal.returns-in_default-check_address_flags
unfolding numbers_out
returns-in_default-check_address_flags c = let octets-in : octets_out c.args.n ≡ false = passed_false _ (sym c.check_under.ensures ∙ c.in-Passed.is) in let n = c.args.n in
    let out = failed_true (address_flags_out n) (sym c.check_address_flags.ensures ∙ c.in_default-check_address_flags.is) in
    simp (octets-in, out)

pub returns-in_default-check_address_widths : goal.returns-in_default-check_address_widths
unfolding numbers_out
returns-in_default-check_address_widths c = let octets-in : octets_out c.args.n ≡ false = passed_false _ (sym c.check_under.ensures ∙ c.in-Passed.is) in let flags-in : address_flags_out c.args.n ≡ false = passed_false _ (sym c.check_address_flags.ensures ∙ c.in-Passed-check_address_flags.is) in let n = c.args.n in
    let out = failed_true (address_widths_out n) (sym c.check_address_widths.ensures ∙ c.in_default-check_address_widths.is) in
    simp (octets-in, flags-in, out)

pub returns : goal.returns
unfolding numbers_out
returns c = let octets-in : octets_out c.args.n ≡ false = passed_false _ (sym c.check_under.ensures ∙ c.in-Passed.is) in let flags-in : address_flags_out c.args.n ≡ false = passed_false _ (sym c.check_address_flags.ensures ∙ c.in-Passed-check_address_flags.is) in let widths-in : address_widths_out c.args.n ≡ false = passed_false _ (sym c.check_address_widths.ensures ∙ c.in-Passed-check_address_widths.is) in simp (octets-in, flags-in, widths-in)
    c.check_elements.ensures
