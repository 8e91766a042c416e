-- `state_board::ready::bit_of` meets its contract. Assumes nothing.
use Rattle.state_board.proofs.ready.Ready.{bit_out, bit_in, shifted}
use Rattle.state_board.proofs.ready.bit_of.Goals as goal

pub returns-then-x-eq0 : goal.returns-then-x-eq0
returns-then-x-eq0 c = bit_out c.args.x _ c.if-x-eq0.true

pub returns : goal.returns
returns c = bit_in c.args.x _ _ c.if-x-eq0.false (shifted _ c.requires)
