-- `listing::taken` meets its contract. Assumes nothing.
use mathlib.Core.Path.{sym, ◌∙◌}
use Rattle.listing.proofs.Turns.{unwanted, not_longer, longer, first}
use Rattle.listing.proofs.taken.Goals as goal

pub returns-then-not-is_wanted : goal.returns-then-not-is_wanted
returns-then-not-is_wanted c = unwanted _ _ _ _ (sym c.is_wanted.ensures ∙ c.if-not-is_wanted.true)

pub returns-then-r-found : goal.returns-then-r-found
returns-then-r-found c = not_longer _ _ _ _ (sym c.is_wanted.ensures ∙ c.if-not-is_wanted.false) _ c.in-Some.is c.if-r-found.true

pub returns-else-r-found : goal.returns-else-r-found
returns-else-r-found c = longer _ _ _ _ (sym c.is_wanted.ensures ∙ c.if-not-is_wanted.false) _ c.in-Some.is c.if-r-found.false

pub returns-in_default : goal.returns-in_default
returns-in_default c = first _ _ _ _ (sym c.is_wanted.ensures ∙ c.if-not-is_wanted.false) c.in_default.is
