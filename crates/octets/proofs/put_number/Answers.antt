-- The last octet that is left to put may be stored first.
use Rattle.std.proofs.Common.{◌≡◌, ◌-◌, suc, sym, ◌∙◌, arith}
use Rattle.octets.specs.Octets.{octets}
use Rattle.octets.proofs.Laws.{pasted_none, octets_step}
use Rattle.octets.proofs.put_number.Goals as goal

pub loop-i-preserved : goal.loop-i-preserved
loop-i-preserved c =
    let e : suc (c.loop-i.i - 1) ≡ c.loop-i.i = omega arith in
    sym (octets_step _ c.args.place (c.loop-i.i - 1) _ (omega arith)) ∙ rw e c.loop-i.invariant

pub returns-clause-out_after : goal.returns-clause-out_after
unfolding octets
returns-clause-out_after c =
    let none : c.loop-i.i ≡ 0 = omega arith in
    sym (pasted_none c.loop-i.out c.args.place) ∙ rw none at c.loop-i.invariant
