-- `next_leg::rewritten_among` meets its contract. Assumes nothing.
use mathlib.Core.Path.{sym, ◌∙◌}
use Rattle.next_leg.proofs.rewritten_among.Goals as goal

pub returns-then-adds_any : goal.returns-then-adds_any
returns-then-adds_any c = simp (sym c.adds_any.ensures ∙ c.if-adds_any.true)

pub returns-then-is_narrow : goal.returns-then-is_narrow
returns-then-is_narrow c = simp (sym c.adds_any.ensures ∙ c.if-adds_any.false, sym c.is_narrow.ensures ∙ c.if-is_narrow.true)

pub returns : goal.returns
returns c = simp (sym c.adds_any.ensures ∙ c.if-adds_any.false, sym c.is_narrow.ensures ∙ c.if-is_narrow.false)
