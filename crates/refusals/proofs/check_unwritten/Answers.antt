-- `refusals::check_unwritten` meets its contract. Assumes nothing.
use mathlib.Core.Path.{sym, ap, ◌∙◌}
use borrow.Author.Tests.{eq-eqb, ne_eqb}
use Rattle.records.specs.declared.OwnedPort.{OwnedPort}
use Rattle.refusals.proofs.check_unwritten.Goals as goal

pub returns-then-owned_of-eq0 : goal.returns-then-owned_of-eq0
returns-then-owned_of-eq0 c = rw (eq-eqb _ _ (ap (λ (x : OwnedPort). x.port.ready) (sym c.owned_of.ensures) ∙ c.if-owned_of-eq0.true))

pub returns : goal.returns
returns c = rw (ne_eqb _ _ (λ e. c.if-owned_of-eq0.false (ap (λ (x : OwnedPort). x.port.ready) c.owned_of.ensures ∙ e)))
