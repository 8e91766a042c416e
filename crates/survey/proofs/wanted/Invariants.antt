-- `survey::wanted` meets its contract: after i turns it is the survey of the first i ports of the set. Assumes nothing.
use Prim.Native.Nat.{◌-◌, ◌≤◌}
use mathlib.Core.Path.{◌≡◌}
use Rattle.state.specs.Seen.{seated}
use Rattle.state.specs.Layout.{decode_board, decode}
use Rattle.survey.specs.Survey.{survey_within}
use Rattle.survey.proofs.wanted.Given as goal

abbrev pub invariant-loop-i : goal.invariant-loop-i
invariant-loop-i l = (l.i ≤ 8) × (l.s ≡ survey_within (seated (decode_board l.board) (decode l.mission)) l.set l.q l.i)
