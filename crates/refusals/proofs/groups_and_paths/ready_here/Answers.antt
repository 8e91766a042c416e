-- `refusals::groups_and_paths::ready_here` meets its contract. Assumes nothing.
use Prim.Native.Nat.{ℕ}
use mathlib.Core.Path.{ap, ◌∙◌}
use Rattle.state.specs.Relay.{ready_of}
use Rattle.state.specs.Seen.{ports_seen}
use Rattle.state.specs.Layout.{decode_board}
use Rattle.refusals.proofs.groups_and_paths.ready_here.Goals as goal

pub returns : goal.returns
returns c = c.ready_ports.ensures ∙ ap (λ (n : ℕ). ready_of (ports_seen n (decode_board c.args.board.now))) c.number_of.ensures
