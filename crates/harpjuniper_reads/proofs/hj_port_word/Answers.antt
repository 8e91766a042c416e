-- `harpjuniper_reads::hj_port_word` meets its contract. Assumes nothing.
use Rattle.std.proofs.Common.{◌∙◌, refl, rules}
use Rattle.state.specs.Layout.{owned_words}
use Rattle.lent_state.proofs.Calls.{board_same_told, board_held_told, board_other_told}
use Rattle.lent_state.proofs.Read.{no_place}
use Rattle.harpjuniper_reads.specs.Back.{port_answer}
use Rattle.harpjuniper_reads.proofs.Read.{read_here}
use Rattle.harpjuniper_reads.proofs.hj_port_word.Goals as goal

pub returns-in_default : goal.returns-in_default
returns-in_default c = c.refusal_number-in_default.ensures ∙ board_other_told _ (search rules) _ _

pub returns-then-port-ge-PORTS : goal.returns-then-port-ge-PORTS
unfolding port_answer
returns-then-port-ge-PORTS c = c.refusal_number.ensures ∙ board_same_told _ _ _ (λ _. no_place _ _ _ c.if-port-ge-PORTS.true refl)

pub returns : goal.returns
unfolding port_answer
returns c = board_held_told c.args.board.now (search rules) _ _
    (read_here owned_words _ _ _ (assumption) c.owned_word.ensures (rw (← c.in-Ok.ensures.1.same) c.owned_of.ensures))

pub owned_of-requires : goal.owned_of-requires
owned_of-requires c = (assumption)
