-- `address::net_class` meets its contract. Assumes nothing.
use borrow.Author.Tests.{eq-eqb, ne_eqb}
use Rattle.address.specs.Class.{net_class}
use Rattle.address.proofs.net_class.Goals as goal

pub returns-then-v-hosts : goal.returns-then-v-hosts
unfolding net_class
returns-then-v-hosts c = simp (eq-eqb _ _ c.if-v-hosts.true)

pub returns : goal.returns
unfolding net_class
returns c = simp (ne_eqb _ _ c.if-v-hosts.false)
