-- `reader::check_sum` meets its contract: where there is a checksum, the number carried against the one due. Assumes nothing.
use native.Mathlib.Omega.{arith}
use mathlib.Core.Path.{sym, ◌∙◌}
use Rattle.reader.proofs.Rooms.{rooms}
use borrow.Author.Tests.{eq-eqb, ne_eqb}
use Rattle.header.proofs.Tests.{equal, other}
use Rattle.reader.proofs.check_sum.Goals as goal

pub returns-then-has_checksum-ne1 : goal.returns-then-has_checksum-ne1
returns-then-has_checksum-ne1 c = simp (other c.has_checksum.ensures c.if-has_checksum-ne1.true)

pub number_at-carried-requires : goal.number_at-carried-requires
number_at-carried-requires c = let room = (rooms _ _ _ _ c.requires.0 c.requires.1).checksum in
    let summed = sym c.has_checksum.ensures ∙ c.if-has_checksum-ne1.false in
    (omega arith, omega (arith, room, summed))

pub element-due-requires : goal.element-due-requires
element-due-requires c = omega (arith, (rooms _ _ _ _ c.requires.0 c.requires.1).checksum)

pub returns-then-carried-due : goal.returns-then-carried-due
returns-then-carried-due c = rw (← c.number_at-carried.ensures.value, ← c.element-due.ensures)
    (simp (equal c.has_checksum.ensures c.if-has_checksum-ne1.false, ne_eqb _ _ c.if-carried-due.true))

pub returns : goal.returns
returns c = rw (← c.number_at-carried.ensures.value, ← c.element-due.ensures)
    (simp (equal c.has_checksum.ensures c.if-has_checksum-ne1.false, eq-eqb _ _ c.if-carried-due.false))
