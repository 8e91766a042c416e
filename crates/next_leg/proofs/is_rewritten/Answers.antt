-- `next_leg::is_rewritten` meets its contract. Assumes nothing.
use Rattle.next_leg.proofs.Made.{rewrites_first, rewrites_second}
use Rattle.next_leg.proofs.is_rewritten.Goals as goal

pub returns-then-widens_for : goal.returns-then-widens_for
returns-then-widens_for c = rewrites_first _ _ _ c.widens_for.ensures c.if-widens_for.true

pub returns : goal.returns
returns c = rewrites_second _ _ _ c.widens_for.ensures c.if-widens_for.false c.adds_any.ensures
