-- `numbers::validity::check_elements` meets its contract, check by check: what each answers tells its condition. Assumes nothing.
use mathlib.Core.Path.{◌≡◌, sym, ◌∙◌}
use mathlib.Core.Bool.{Bool, false}
use Rattle.checks.proofs.Laws.{passed_false, failed_true}
use Rattle.numbers.specs.declared.Numbers.{Numbers}
use Rattle.numbers.specs.Out.{octet_out, qos_out, elements_out}
use Rattle.numbers.proofs.validity.check_elements.Goals as goal
use Rattle.numbers.proofs.validity.check_elements.Goals.{In-Passed, In-Passed-check_octet, In-Passed-check_octet-2}

abbrev hopsOut : Numbers → Bool
hopsOut n = octet_out n.counted n.hops

abbrev expandedOut : Numbers → Bool
expandedOut n = octet_out n.expands n.expanded

pub returns-in_default : goal.returns-in_default
unfolding elements_out
returns-in_default c = let n = c.args.n in
    let out = failed_true (qos_out n) (sym c.check_qos.ensures ∙ c.in_default.is) in
    simp out

pub returns-in_default-check_octet : goal.returns-in_default-check_octet
unfolding elements_out
returns-in_default-check_octet c = let qos_in : qos_out c.args.n ≡ false = passed_false _ (sym c.check_qos.ensures ∙ c.in-Passed.is) in let n = c.args.n in
    let out = failed_true (hopsOut n) (sym c.check_octet.ensures ∙ c.in_default-check_octet.is) in
    simp (qos_in, out)

pub returns-in_default-check_octet-2 : goal.returns-in_default-check_octet-2
unfolding elements_out
returns-in_default-check_octet-2 c = let qos_in : qos_out c.args.n ≡ false = passed_false _ (sym c.check_qos.ensures ∙ c.in-Passed.is) in let hops-in : hopsOut c.args.n ≡ false = passed_false _ (sym c.check_octet.ensures ∙ c.in-Passed-check_octet.is) in let n = c.args.n in
    let out = failed_true (expandedOut n) (sym c.check_octet-2.ensures ∙ c.in_default-check_octet-2.is) in
    simp (qos_in, hops-in, out)

pub returns : goal.returns
unfolding elements_out
returns c = let qos_in : qos_out c.args.n ≡ false = passed_false _ (sym c.check_qos.ensures ∙ c.in-Passed.is) in let hops-in : hopsOut c.args.n ≡ false = passed_false _ (sym c.check_octet.ensures ∙ c.in-Passed-check_octet.is) in let expanded-in : expandedOut c.args.n ≡ false = passed_false _ (sym c.check_octet-2.ensures ∙ c.in-Passed-check_octet-2.is) in simp (qos_in, hops-in, expanded-in)
    c.check_stamp.ensures
