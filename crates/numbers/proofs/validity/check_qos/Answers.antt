-- `numbers::validity::check_qos` meets its contract, check by check: what each answers tells its condition. Assumes nothing.
use mathlib.Core.Path.{◌≡◌, sym, ◌∙◌}
use mathlib.Core.Bool.{Bool, false}
use Rattle.checks.proofs.Laws.{passed_false, failed_true}
use Rattle.numbers.specs.declared.Numbers.{Numbers}
use Rattle.numbers.specs.Out.{octet_out}
use Rattle.numbers.proofs.validity.check_qos.Goals as goal
use Rattle.numbers.proofs.validity.check_qos.Goals.{In-Passed, In-Passed-check_octet}

-- ---- what a check that passed tells
abbrev precedenceOut : Numbers → Bool
precedenceOut n = octet_out n.qualified n.precedence

abbrev routingOut : Numbers → Bool
routingOut n = octet_out n.qualified n.routing

pub returns-in_default : goal.returns-in_default
returns-in_default c = let n = c.args.n in
    let out = failed_true (precedenceOut n) (sym c.check_octet.ensures ∙ c.in_default.is) in
    simp out

pub returns-in_default-check_octet : goal.returns-in_default-check_octet
returns-in_default-check_octet c = let precedence-in : precedenceOut c.args.n ≡ false = passed_false _ (sym c.check_octet.ensures ∙ c.in-Passed.is) in let n = c.args.n in
    let out = failed_true (routingOut n) (sym c.check_octet-2.ensures ∙ c.in_default-check_octet.is) in
    simp (precedence-in, out)

pub returns : goal.returns
returns c = let precedence-in : precedenceOut c.args.n ≡ false = passed_false _ (sym c.check_octet.ensures ∙ c.in-Passed.is) in let routing-in : routingOut c.args.n ≡ false = passed_false _ (sym c.check_octet-2.ensures ∙ c.in-Passed-check_octet.is) in simp (precedence-in, routing-in) c.check_octet-3.ensures
