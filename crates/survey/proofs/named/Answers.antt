-- `survey::named` meets its contract: after i turns it is the survey of the first i ports. Assumes nothing.
use native.Mathlib.Omega.{arith}
use mathlib.Core.Path.{◌∙◌}
use Rattle.survey.specs.Survey.{named_below}
use Rattle.survey.proofs.Walk.{roomy_named, turn_named, all_named}
use Rattle.survey.proofs.named.Goals as goal

pub loop-i-init : goal.loop-i-init
unfolding named_below
loop-i-init c = (omega arith, c.none-s.ensures)

pub see_named-s-requires : goal.see_named-s-requires
see_named-s-requires c = roomy_named _ _ _ _ c.loop-i-test.true c.loop-i.invariant.1 c.only_port.ensures

pub loop-i-preserved : goal.loop-i-preserved
loop-i-preserved c = (omega arith, c.see_named-s.ensures ∙ turn_named _ _ _ c.loop-i-test.true c.loop-i.invariant.1 c.only_port.ensures c.seen_port-p.ensures)

pub returns : goal.returns
returns c = all_named _ _ _ _ c.loop-i-test.false c.loop-i.invariant
