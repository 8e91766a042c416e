-- `survey::names::names_of` meets its contract: after i turns it has the names of the first i ports. Assumes nothing.
use Prim.Native.Nat.{◌-◌, ◌≤◌}
use Rattle.state.specs.Seen.{ports_seen}
use Rattle.state.specs.Layout.{decode_board}
use Rattle.survey.proofs.Naming.{Gathered}
use Rattle.survey.proofs.names.names_of.Given as goal

abbrev pub invariant-loop-i : goal.invariant-loop-i
invariant-loop-i l = (l.i ≤ 8)
    × Gathered (ports_seen l.number (decode_board l.board)) l.i
    (record { looked = 1; ready = l.ready; marks = l.marks; own = l.own; subnet = l.subnet; class = l.class })
