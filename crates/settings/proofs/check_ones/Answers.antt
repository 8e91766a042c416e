-- `settings::check_ones` meets its contract: each return has or breaks what the law of taken counts asks. Assumes nothing.
use native.Mathlib.Omega.{arith}
use borrow.Author.Tests.{eqb-true, eqb-false}
use mathlib.Core.Path.{sym, ◌∙◌}
use Rattle.settings.proofs.Answers.{passes, fails}
use Rattle.settings.proofs.PortMask.{ones_taken}
use Rattle.settings.proofs.check_ones.Goals as goal

pub returns-then-ones-lt8 : goal.returns-then-ones-lt8
returns-then-ones-lt8 c = fails (ones_taken _ c.args.ones) (λ h. omega arith)

pub returns-then-ones-gt30 : goal.returns-then-ones-gt30
returns-then-ones-gt30 c = fails (ones_taken _ c.args.ones) (λ h. omega arith)

pub returns-then-not-in_net_10 : goal.returns-then-not-in_net_10
returns-then-not-in_net_10 c = let other = eqb-false _ _ (sym c.in_net_10.ensures ∙ c.if-not-in_net_10.true) in
    passes (ones_taken _ _) (c.if-ones-lt8.false, c.if-ones-gt30.false, λ ten. absurd (other ten))

pub returns-then-ones-ne24 : goal.returns-then-ones-ne24
returns-then-ones-ne24 c = let ten = eqb-true _ _ (sym c.in_net_10.ensures ∙ c.if-not-in_net_10.false) in
    fails (ones_taken _ _) (λ h. c.if-ones-ne24.true (h.2 ten))

pub returns : goal.returns
returns c = passes (ones_taken _ _)
    (c.if-ones-lt8.false, c.if-ones-gt30.false, λ ten. c.if-ones-ne24.false)
