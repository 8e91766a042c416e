-- `survey::named` meets its contract: after i turns it is the survey of the first i ports. Assumes nothing.
use Prim.Native.Nat.{◌-◌, ◌≤◌}
use mathlib.Core.Path.{◌≡◌}
use Rattle.state.specs.Seen.{ports_seen}
use Rattle.state.specs.Layout.{decode_board}
use Rattle.survey.specs.Survey.{named_below}
use Rattle.survey.proofs.named.Given as goal

abbrev pub invariant-loop-i : goal.invariant-loop-i
invariant-loop-i l = (l.i ≤ 8) × (l.s ≡ named_below (ports_seen l.number (decode_board l.board)) l.a l.i)
