-- `reader::fields::stamp_at` meets its contract, format by format. Assumes nothing.
use native.Mathlib.Omega.{arith}
use Rattle.reader.proofs.Rooms.{implicit_room, explicit_room, binary_room}
use borrow.Author.Tests.{ne_eqb}
use Rattle.header.specs.Read.{stamp_of}
use Rattle.reader.proofs.fields.stamp_at.Goals as goal

pub number_at-requires : goal.number_at-requires
number_at-requires c = (omega arith, implicit_room _ _ _ _ c.requires c.in-1.is)

pub octet_within-p-requires : goal.octet_within-p-requires
octet_within-p-requires c = omega (arith, explicit_room _ _ _ _ c.requires c.in-2.is)

pub number_at-requires-in-2 : goal.number_at-requires-in-2
number_at-requires-in-2 c = let room = explicit_room _ _ _ _ c.requires c.in-2.is in
    rw (c.time_size-time_size.ensures, c.octet_within-p.ensures) (omega arith, omega (arith, room))

pub number_at-requires-in_default : goal.number_at-requires-in_default
number_at-requires-in_default c = (omega arith, binary_room _ _ _ _ c.requires (omega arith) (omega arith) (omega arith))

pub returns-in-0 : goal.returns-in-0
unfolding stamp_of
returns-in-0 c = simp c.in-0.is

pub returns-in-1 : goal.returns-in-1
unfolding stamp_of
returns-in-1 c = rw c.number_at.ensures.value (simp c.in-1.is)

pub returns-in-2 : goal.returns-in-2
unfolding stamp_of
returns-in-2 c = rw (c.number_at-in-2.ensures.value, c.time_size-time_size.ensures, c.octet_within-p.ensures) (simp c.in-2.is)

pub returns-in_default : goal.returns-in_default
unfolding stamp_of
returns-in_default c = rw c.number_at-in_default.ensures.value (simp (ne_eqb c.args.format 0 (omega arith), ne_eqb c.args.format 1 (omega arith), ne_eqb c.args.format 2 (omega arith)))
