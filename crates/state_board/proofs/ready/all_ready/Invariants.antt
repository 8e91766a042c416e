-- `state_board::ready::all_ready` meets its contract: the set so far is that of the first p ports. Assumes nothing.
use Prim.Native.Nat.{◌≤◌}
use mathlib.Core.Path.{◌≡◌}
use Rattle.state.specs.Layout.{decode_board}
use Rattle.state.specs.Seen.{all_ports}
use Rattle.state_board.proofs.ready.Ready.{ready_below}
use Rattle.state_board.proofs.ready.all_ready.Given as goal

abbrev pub invariant-loop-p : goal.invariant-loop-p
invariant-loop-p l = (l.p ≤ 8) × (l.set ≡ ready_below (all_ports (decode_board l.board)) l.p)
