-- `harpjuniper_reads::hj_pair_word` meets its contract. Assumes nothing.
use Rattle.std.proofs.Common.{◌∙◌, refl, rules}
use Rattle.state.specs.Layout.{pair_words}
use Rattle.lent_state.proofs.Calls.{same_told, held_told, other_told}
use Rattle.lent_state.proofs.Read.{no_place}
use Rattle.harpjuniper_reads.specs.Back.{pair_answer}
use Rattle.harpjuniper_reads.proofs.Read.{read_here}
use Rattle.harpjuniper_reads.proofs.hj_pair_word.Goals as goal

pub returns-in_default : goal.returns-in_default
returns-in_default c = c.refusal_number-in_default.ensures ∙ other_told _ (search rules) _ _

pub returns-then-place-ge-PAIRS : goal.returns-then-place-ge-PAIRS
unfolding pair_answer
returns-then-place-ge-PAIRS c = c.refusal_number.ensures ∙ same_told _ _ _ (λ _. no_place _ _ _ c.if-place-ge-PAIRS.true refl)

pub returns : goal.returns
unfolding pair_answer
returns c = held_told _ (search rules) _ _
    (read_here pair_words _ _ _ (assumption) c.pair_word.ensures (rw (← c.in-Ok.ensures.1.same) c.place_of.ensures))

pub place_of-requires : goal.place_of-requires
place_of-requires c = (assumption)
