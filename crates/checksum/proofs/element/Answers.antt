-- `checksum::element` meets its contract: the element is the checksum of the octets before it. Assumes nothing.
use mathlib.Core.Path.{sym, ◌∙◌}
use native.Mathlib.Omega.{arith}
use lib.ListN.{length-take}
use Rattle.checksum.proofs.Words.{Octets}
use Rattle.checksum.proofs.Laws.{element_before}
use Rattle.checksum.proofs.element.Goals as goal

pub slice_bounds-checksum-end : goal.slice_bounds-checksum-end
slice_bounds-checksum-end c = simp length-take (omega (arith, c.requires))

pub returns : goal.returns
returns c = let start = c.before.before.before in
    let octets : Octets start.args.s.now = λ i. (c.type_inv.s i).fits in
    c.checksum.ensures ∙ sym (element_before start.args.s.now start.args.at octets)
