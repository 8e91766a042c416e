-- `state_board::seen_port` meets its contract. Assumes nothing.
use mathlib.Core.Path.{sym, ap, ◌∙◌}
use Rattle.records.specs.Owned.{seen_port}
use Rattle.state.specs.Layout.{decode_board}
use Rattle.state.proofs.Seen.{seen_at}
use Rattle.state_board.proofs.seen_port.Goals as goal

pub returns : goal.returns
returns c = let n = c.args.number in
    c.seen.ensures ∙ ap (seen_port n) c.owned_of.ensures ∙ sym (seen_at (decode_board c.args.board.now) c.args.p n)
