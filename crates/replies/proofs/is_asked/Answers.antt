-- `replies::is_asked` meets its contract. Assumes nothing.
use Prim.Native.Nat.{ℕ}
use Rattle.replies.specs.Request.{is_to_many}
use Rattle.replies.proofs.Chosen.{denied, granted}
use Rattle.replies.specs.Reply.{is_asked}
use Rattle.replies.specs.Request.{is_delivered}
use mathlib.Core.Bool.{not}
use mathlib.Core.Path.{ap, ◌∙◌}
use borrow.Author.Tests.{eq-eqb, ne_eqb}
use Rattle.replies.proofs.Chosen.{and_stops, and_goes}
use Rattle.replies.proofs.is_asked.Goals as goal

pub returns-then-a-ne0 : goal.returns-then-a-ne0
unfolding is_asked
returns-then-a-ne0 c = and_stops _ _ (ne_eqb _ _ c.if-a-ne0.true)

pub returns-then-dropping-ne0 : goal.returns-then-dropping-ne0
unfolding is_asked
returns-then-dropping-ne0 c = and_goes _ _ (eq-eqb _ _ c.if-a-ne0.false) (and_stops _ _ (ne_eqb _ _ c.if-dropping-ne0.true))

pub returns-then-not-is_delivered : goal.returns-then-not-is_delivered
unfolding is_asked
returns-then-not-is_delivered c = and_goes _ _ (eq-eqb _ _ c.if-a-ne0.false) (and_goes _ _ (eq-eqb _ _ c.if-dropping-ne0.false) (and_stops _ _ (denied _ (c.is_delivered.ensures ∙ ap is_delivered c.local_of.ensures) (ap not c.if-not-is_delivered.true))))

pub returns-then-not-asks_in_header : goal.returns-then-not-asks_in_header
unfolding is_asked
returns-then-not-asks_in_header c = and_goes _ _ (eq-eqb _ _ c.if-a-ne0.false) (and_goes _ _ (eq-eqb _ _ c.if-dropping-ne0.false) (and_goes _ _ (granted _ (c.is_delivered.ensures ∙ ap is_delivered c.local_of.ensures) (ap not c.if-not-is_delivered.false)) (and_stops _ _ (denied _ c.asks_in_header.ensures (ap not c.if-not-asks_in_header.true)))))

pub returns : goal.returns
unfolding is_asked
returns c = and_goes _ _ (eq-eqb _ _ c.if-a-ne0.false) (and_goes _ _ (eq-eqb _ _ c.if-dropping-ne0.false) (and_goes _ _ (granted _ (c.is_delivered.ensures ∙ ap is_delivered c.local_of.ensures) (ap not c.if-not-is_delivered.false)) (and_goes _ _ (granted _ c.asks_in_header.ensures (ap not c.if-not-asks_in_header.false)) (ap not (c.is_to_many.ensures ∙ ap (λ (x : ℕ). is_to_many c.args.s (record { 0 = x })) c.address_in.ensures)))))
