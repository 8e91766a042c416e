-- `survey::wanted` meets its contract: after i turns it is the survey of the first i ports of the set. Assumes nothing.
use native.Mathlib.Omega.{arith}
use mathlib.Core.Path.{◌∙◌}
use Rattle.survey.specs.Survey.{survey_within}
use Rattle.survey.proofs.Walk.{roomy_wanted, turn_wanted, all_wanted}
use Rattle.survey.proofs.wanted.Goals as goal

pub loop-i-init : goal.loop-i-init
unfolding survey_within
loop-i-init c = (omega arith, c.none-s.ensures)

pub see_if-s-requires : goal.see_if-s-requires
see_if-s-requires c = (c.loop-i-test.true, roomy_wanted _ _ _ _ _ c.loop-i-test.true c.loop-i.invariant.1)

pub loop-i-preserved : goal.loop-i-preserved
loop-i-preserved c = (omega arith, c.see_if-s.ensures ∙ turn_wanted _ _ _ _ c.loop-i.invariant.1)

pub returns : goal.returns
returns c = all_wanted _ _ _ _ _ c.loop-i-test.false c.loop-i.invariant
