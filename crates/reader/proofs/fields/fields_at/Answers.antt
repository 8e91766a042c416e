-- `reader::fields::fields_at` meets its contract: each field is what its own reader answers. Assumes nothing.
use lib.ListN.{length}
use Rattle.reader.proofs.Rooms.{Rooms, rooms}
use Rattle.header.specs.Read.{fields_of}
use Rattle.reader.proofs.fields.fields_at.Goals as goal
use Rattle.reader.proofs.fields.fields_at.Goals.{After-shared_slice_known-1}

pub addresses_at-requires : goal.addresses_at-requires
addresses_at-requires c = let known : Rooms c.args.s.now c.args.k c.args.l (length c.args.s.now) = rooms _ _ _ _ c.requires.1.0 c.requires.1.1 in (c.requires.0, (known).addresses)

pub qos_at-requires : goal.qos_at-requires
qos_at-requires c = let known : Rooms c.args.s.now c.args.k c.args.l (length c.args.s.now) = rooms _ _ _ _ c.requires.1.0 c.requires.1.1 in rw c.has_qos.ensures (known).qos

pub element_at-requires : goal.element_at-requires
element_at-requires c = let known : Rooms c.args.s.now c.args.k c.args.l (length c.args.s.now) = rooms _ _ _ _ c.requires.1.0 c.requires.1.1 in rw c.has_hops.ensures (known).hops

pub stamp_at-requires : goal.stamp_at-requires
stamp_at-requires c = let known : Rooms c.args.s.now c.args.k c.args.l (length c.args.s.now) = rooms _ _ _ _ c.requires.1.0 c.requires.1.1 in rw c.format_bits.ensures (known).stamp

pub element_at-requires-2 : goal.element_at-requires-2
element_at-requires-2 c = let known : Rooms c.args.s.now c.args.k c.args.l (length c.args.s.now) = rooms _ _ _ _ c.requires.1.0 c.requires.1.1 in rw c.has_expanded.ensures (known).expanded

pub returns : goal.returns
unfolding fields_of
returns c = rw
    (c.is_intermediate.ensures, c.has_checksum.ensures, c.octet_at.ensures, c.element_at-2.ensures, c.has_expanded.ensures, c.stamp_at.ensures, c.format_bits.ensures, c.element_at.ensures, c.has_hops.ensures, c.qos_at.ensures, c.has_qos.ensures, c.addresses_at.ensures)
