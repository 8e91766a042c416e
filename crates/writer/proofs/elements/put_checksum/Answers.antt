-- `writer::elements::put_checksum` meets its contract: the element that `checksum::element` answers is that of the octets before the place. Assumes nothing.
use borrow.Author.Tests.{eq-eqb, ne_eqb}
use Rattle.checksum.specs.Sum.{element_of}
use Rattle.octets.proofs.Laws.{put_one, put_none}
use Rattle.header.specs.Build.{checksum_octets}
use Rattle.writer.proofs.elements.put_checksum.Goals as goal

pub returns-then-on-eq1 : goal.returns-then-on-eq1
unfolding checksum_octets element_of
returns-then-on-eq1 c =
    let t = put_one _ _ _ _ _ _ (c.put_number.ensures.value, c.put_number.ensures.out_after) in
    simp (eq-eqb _ _ c.if-on-eq1.true) (rw (← c.element-sum.ensures) (record { value = t.0; out_after = t.1 }))

pub returns : goal.returns
unfolding checksum_octets
returns c = let t = put_none _ _ in simp (ne_eqb _ _ c.if-on-eq1.false) (record { value = t.0; out_after = t.1 })
