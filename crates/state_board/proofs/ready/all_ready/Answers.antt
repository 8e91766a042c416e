-- `state_board::ready::all_ready` meets its contract: the set so far is that of the first p ports. Assumes nothing.
use native.Mathlib.Omega.{arith}
use mathlib.Core.Path.{refl, sym, ap, ◌∙◌}
use borrow.Author.Rules.{rules}
use Rattle.records.specs.declared.OwnedPort.{OwnedPort}
use Rattle.state.specs.Layout.{decode_board}
use Rattle.state.specs.Seen.{all_ports}
use Rattle.state.proofs.Seen.{all_at}
use Rattle.state_board.proofs.ready.Ready.{room, turn, gathered}
use Rattle.state_board.proofs.ready.all_ready.Goals as goal

pub loop-p-init : goal.loop-p-init
loop-p-init c = (search rules, refl)

pub overflow_add-set : goal.overflow_add-set
overflow_add-set c = omega (
  arith,
  room (all_ports (decode_board c.args.board.now)) _ c.loop-p.p c.loop-p.invariant.1 _ _
      (ap (λ (x : OwnedPort). x.port) c.owned_of.ensures ∙ sym (all_at _ _))
      c.bit_of-set.ensures c.loop-p-test.true,
)

pub loop-p-preserved : goal.loop-p-preserved
loop-p-preserved c = (
  search rules,
  turn (all_ports (decode_board c.args.board.now)) _ c.loop-p.p c.loop-p.invariant.1 _ _
      (ap (λ (x : OwnedPort). x.port) c.owned_of.ensures ∙ sym (all_at _ _))
      c.bit_of-set.ensures,
)

pub returns : goal.returns
returns c = gathered (all_ports (decode_board c.args.board.now)) _ c.loop-p.p c.loop-p.invariant.1 (omega arith)
