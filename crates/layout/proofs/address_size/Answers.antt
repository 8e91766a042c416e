-- `layout::address_size` meets its contract, test by test. Assumes nothing.
use Rattle.header.specs.Form.{address_size}
use Rattle.header.proofs.Tests.{equal, other}
use Rattle.layout.proofs.address_size.Goals as goal

pub returns-then-is_ipv6-eq1 : goal.returns-then-is_ipv6-eq1
unfolding address_size
returns-then-is_ipv6-eq1 c = simp (equal c.is_ipv6.ensures c.if-is_ipv6-eq1.true)

pub returns-then-is_extended-eq1 : goal.returns-then-is_extended-eq1
unfolding address_size
returns-then-is_extended-eq1 c = simp (other c.is_ipv6.ensures c.if-is_ipv6-eq1.false, equal c.is_extended.ensures c.if-is_extended-eq1.true)

pub returns : goal.returns
unfolding address_size
returns c = simp (other c.is_ipv6.ensures c.if-is_ipv6-eq1.false, other c.is_extended.ensures c.if-is_extended-eq1.false)
