-- `meaning::check_carried` meets its contract: each answer by what its callees ensure. Assumes nothing.
use Prim.Native.Nat.{ℕ}
use mathlib.Core.Path.{◌≡◌, ap, ◌∙◌}
use mathlib.Core.Bool.{Bool}
use Rattle.meaning.specs.Names.{carried_routing}
use borrow.Author.Tests.{eq-eqb, ne_eqb}
use Rattle.meaning.proofs.check_carried.Goals as goal

-- whether the routing requirement is carried, as it was told
routed : {q n : ℕ} {t : Bool} → n ≡ q → t ≡ carried_routing n → t ≡ carried_routing q
routed e told = told ∙ ap carried_routing e

pub returns-then-not-is_carried : goal.returns-then-not-is_carried
returns-then-not-is_carried c = rw (← routed c.routing_of.ensures c.is_carried.ensures) (simp c.if-not-is_carried.true)

pub returns-then-ipv6_flag-ne0 : goal.returns-then-ipv6_flag-ne0
returns-then-ipv6_flag-ne0 c = rw (← routed c.routing_of.ensures c.is_carried.ensures, ← c.ipv6_flag.ensures)
    (simp (c.if-not-is_carried.false, ne_eqb _ _ c.if-ipv6_flag-ne0.true))

pub returns : goal.returns
returns c = rw (← routed c.routing_of.ensures c.is_carried.ensures, ← c.ipv6_flag.ensures)
    (simp (c.if-not-is_carried.false, eq-eqb _ _ c.if-ipv6_flag-ne0.false))
