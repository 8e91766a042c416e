-- `state_board::ready::ready_ports` meets its contract: the set so far is that of the first p ports. Assumes nothing.
use native.Mathlib.Omega.{arith}
use mathlib.Core.Path.{refl}
use borrow.Author.Rules.{rules}
use Rattle.state.specs.Layout.{decode_board}
use Rattle.state.specs.Seen.{ports_seen}
use Rattle.state_board.proofs.ready.Ready.{room, turn, gathered}
use Rattle.state_board.proofs.ready.ready_ports.Goals as goal

pub loop-p-init : goal.loop-p-init
loop-p-init c = (search rules, refl)

pub overflow_add-set : goal.overflow_add-set
overflow_add-set c = omega (
  arith,
  room (ports_seen c.args.number (decode_board c.args.board.now)) _ c.loop-p.p c.loop-p.invariant.1 _ _
      c.seen_port.ensures
      c.bit_of-set.ensures c.loop-p-test.true,
)

pub loop-p-preserved : goal.loop-p-preserved
loop-p-preserved c = (
  search rules,
  turn (ports_seen c.args.number (decode_board c.args.board.now)) _ c.loop-p.p c.loop-p.invariant.1 _ _
      c.seen_port.ensures
      c.bit_of-set.ensures,
)

pub returns : goal.returns
returns c = gathered (ports_seen c.args.number (decode_board c.args.board.now)) _ c.loop-p.p c.loop-p.invariant.1 (omega arith)
