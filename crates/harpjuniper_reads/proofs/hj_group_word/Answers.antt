-- `harpjuniper_reads::hj_group_word` meets its contract. Assumes nothing.
use Rattle.std.proofs.Common.{◌∙◌, refl, rules}
use Rattle.state.specs.Layout.{group_words}
use Rattle.lent_state.proofs.Calls.{same_told, held_told, other_told}
use Rattle.lent_state.proofs.Read.{no_place}
use Rattle.harpjuniper_reads.specs.Back.{group_answer}
use Rattle.harpjuniper_reads.proofs.Read.{read_here}
use Rattle.harpjuniper_reads.proofs.hj_group_word.Goals as goal

pub returns-in_default : goal.returns-in_default
returns-in_default c = c.refusal_number-in_default.ensures ∙ other_told _ (search rules) _ _

pub returns-then-place-ge-GROUPS : goal.returns-then-place-ge-GROUPS
unfolding group_answer
returns-then-place-ge-GROUPS c = c.refusal_number.ensures ∙ same_told _ _ _ (λ _. no_place _ _ _ c.if-place-ge-GROUPS.true refl)

pub returns : goal.returns
unfolding group_answer
returns c = held_told _ (search rules) _ _
    (read_here group_words _ _ _ (assumption) c.group_word.ensures (rw (← c.in-Ok.ensures.1.same) c.group_of.ensures))

pub group_of-requires : goal.group_of-requires
group_of-requires c = (assumption)
