-- `address::class_of` meets its contract: each arm knows what the first octet said, and the definition goes by just that.
-- Assumes nothing.
use borrow.Author.Tests.{eq-eqb, ne_eqb}
use mathlib.Core.Path.{sym, ◌∙◌}
use Rattle.address.specs.Class.{class_in, class_of}
use Rattle.address.proofs.Families.{net_pos}
use Rattle.address.proofs.class_of.Goals as goal

pub net_class-requires : goal.net_class-requires
net_class-requires c = net_pos _ _ (sym c.family_of.ensures ∙ c.in-Net.is)

pub returns-then-v : goal.returns-then-v
unfolding class_of class_in
returns-then-v c = simp (sym c.family_of.ensures ∙ c.in-Invalid.is, eq-eqb _ _ c.if-v.true)

pub returns-in-Net : goal.returns-in-Net
unfolding class_of class_in
returns-in-Net c = simp (sym c.family_of.ensures ∙ c.in-Net.is)
    c.net_class.ensures

pub returns-in-Scps : goal.returns-in-Scps
unfolding class_of class_in
returns-in-Scps c = simp (sym c.family_of.ensures ∙ c.in-Scps.is) c.scps_class.ensures

pub returns-in-Multicast : goal.returns-in-Multicast
unfolding class_of class_in
returns-in-Multicast c = simp (sym c.family_of.ensures ∙ c.in-Multicast.is)

pub returns-else-v : goal.returns-else-v
unfolding class_of class_in
returns-else-v c = simp (sym c.family_of.ensures ∙ c.in-Invalid.is, ne_eqb _ _ c.if-v.false)
