-- What crate listing's laws of a scan as a loop give.
use Rattle.listing.proofs.Loop.{starts, turned, ended}
use Rattle.std.proofs.Common.{◌∙◌, refl}
use Rattle.list.proofs.scan.Goals as goal

pub loop-i-init : goal.loop-i-init
loop-i-init c = starts c.args.list.now c.args.q _ c.begun-found.ensures _ c.first_place-i.ensures

pub loop-i-preserved : goal.loop-i-preserved
loop-i-preserved c =
    turned c.args.list.now c.args.q c.loop-i.found c.loop-i.i c.loop-i-test.true _ refl _ c.step-found.ensures ∙ c.loop-i.invariant

pub returns : goal.returns
returns c = ended c.args.list.now c.args.q _ c.loop-i.i c.loop-i-test.false ∙ c.loop-i.invariant
