-- `replies::request::is_to_many` meets its contract. Assumes nothing.
use mathlib.Core.Bool.{not}
use lib.Dec.{eqb}
use Rattle.address.specs.Class.{class_of}
use Rattle.replies.specs.Request.{is_many}
use mathlib.Core.Path.{refl, ap, ◌∙◌}
use Rattle.replies.proofs.Chosen.{to_one, to_many, to_ours}
use Rattle.replies.proofs.request.is_to_many.Goals as goal

pub returns-then-is_owned : goal.returns-then-is_owned
returns-then-is_owned c = to_one _ (is_many (class_of c.args.a.0)) c.is_owned.ensures refl (not (eqb c.args.s.broadcast 0)) c.if-is_owned.true

pub returns-then-is_many : goal.returns-then-is_many
returns-then-is_many c = to_many _ _ c.is_owned.ensures (c.is_many.ensures ∙ ap is_many c.class_of.ensures) _ c.if-is_owned.false c.if-is_many.true

pub returns : goal.returns
returns c = to_ours _ _ c.is_owned.ensures (c.is_many.ensures ∙ ap is_many c.class_of.ensures) _ c.if-is_owned.false c.if-is_many.false refl
