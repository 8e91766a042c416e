-- `floods::sweep_all` meets its contract: after i turns the first i places are swept. Assumes nothing.
use native.Mathlib.Omega.{arith}
use mathlib.Core.Path.{refl}
use Rattle.floods.proofs.Sweeping.{one_further, all_passed}
use borrow.Author.Rules.{rules}
use Rattle.floods.proofs.sweep_all.Goals as goal

pub loop-i-init : goal.loop-i-init
loop-i-init c = (omega arith, (c.told-mission, refl))

pub loop-i-preserved : goal.loop-i-preserved
loop-i-preserved c = (omega arith, (search rules, one_further _ _ _ _ c.loop-i.invariant.1.1 c.sweep_at.ensures))

pub returns : goal.returns
returns c = all_passed _ _ _ _ c.loop-i-test.false c.loop-i.invariant.0 c.loop-i.invariant.1.1
