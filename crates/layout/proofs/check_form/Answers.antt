-- `layout::check_form` meets its contract, test by test; the last part is what `check_ipv6` answers. Assumes nothing.
use Rattle.header.specs.Form.{forbidden}
use Rattle.header.proofs.Tests.{equal, other}
use Rattle.layout.proofs.check_form.Goals as goal

pub returns-then-reserved_21-eq1 : goal.returns-then-reserved_21-eq1
unfolding forbidden
returns-then-reserved_21-eq1 c = simp (equal c.reserved_21.ensures c.if-reserved_21-eq1.true)

pub returns-then-has_destination-eq0 : goal.returns-then-has_destination-eq0
unfolding forbidden
returns-then-has_destination-eq0 c = simp (other c.reserved_21.ensures c.if-reserved_21-eq1.false, equal c.has_destination.ensures c.if-has_destination-eq0.true)

pub returns-then-reserved_29-eq1 : goal.returns-then-reserved_29-eq1
unfolding forbidden
returns-then-reserved_29-eq1 c = simp (other c.reserved_21.ensures c.if-reserved_21-eq1.false, other c.has_destination.ensures c.if-has_destination-eq0.false, equal c.reserved_29.ensures c.if-reserved_29-eq1.true)

pub returns-then-fourth_follows-eq1 : goal.returns-then-fourth_follows-eq1
unfolding forbidden
returns-then-fourth_follows-eq1 c = simp (other c.reserved_21.ensures c.if-reserved_21-eq1.false, other c.has_destination.ensures c.if-has_destination-eq0.false, other c.reserved_29.ensures c.if-reserved_29-eq1.false, equal c.fourth_follows.ensures c.if-fourth_follows-eq1.true)

pub returns-then-unassigned_bits-ne0 : goal.returns-then-unassigned_bits-ne0
unfolding forbidden
returns-then-unassigned_bits-ne0 c = simp (other c.reserved_21.ensures c.if-reserved_21-eq1.false, other c.has_destination.ensures c.if-has_destination-eq0.false, other c.reserved_29.ensures c.if-reserved_29-eq1.false, other c.fourth_follows.ensures c.if-fourth_follows-eq1.false, other c.unassigned_bits.ensures c.if-unassigned_bits-ne0.true)

pub returns : goal.returns
unfolding forbidden
returns c = simp (other c.reserved_21.ensures c.if-reserved_21-eq1.false, other c.has_destination.ensures c.if-has_destination-eq0.false, other c.reserved_29.ensures c.if-reserved_29-eq1.false, other c.fourth_follows.ensures c.if-fourth_follows-eq1.false, equal c.unassigned_bits.ensures c.if-unassigned_bits-ne0.false)
    (rw (← c.is_ipv6.ensures, ← c.is_extended.ensures, ← c.has_source.ensures) c.check_ipv6.ensures)
