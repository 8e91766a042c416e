-- `state_board::ready::ready_ports` meets its contract: the set so far is that of the first p ports. Assumes nothing.
use Prim.Native.Nat.{◌≤◌}
use mathlib.Core.Path.{◌≡◌}
use Rattle.state.specs.Layout.{decode_board}
use Rattle.state.specs.Seen.{ports_seen}
use Rattle.state_board.proofs.ready.Ready.{ready_below}
use Rattle.state_board.proofs.ready.ready_ports.Given as goal

abbrev pub invariant-loop-p : goal.invariant-loop-p
invariant-loop-p l = (l.p ≤ 8) × (l.set ≡ ready_below (ports_seen l.number (decode_board l.board)) l.p)
