-- `harpjuniper_reads::hj_path_word` meets its contract. Assumes nothing.
use Rattle.std.proofs.Common.{◌∙◌, refl, rules}
use Rattle.state.specs.Layout.{path_words}
use Rattle.lent_state.proofs.Calls.{same_told, held_told, other_told}
use Rattle.lent_state.proofs.Read.{no_place}
use Rattle.harpjuniper_reads.specs.Back.{path_answer}
use Rattle.harpjuniper_reads.proofs.Read.{read_here}
use Rattle.harpjuniper_reads.proofs.hj_path_word.Goals as goal

pub returns-in_default : goal.returns-in_default
returns-in_default c = c.refusal_number-in_default.ensures ∙ other_told _ (search rules) _ _

pub returns-then-place-ge-PATHS : goal.returns-then-place-ge-PATHS
unfolding path_answer
returns-then-place-ge-PATHS c = c.refusal_number.ensures ∙ same_told _ _ _ (λ _. no_place _ _ _ c.if-place-ge-PATHS.true refl)

pub returns : goal.returns
unfolding path_answer
returns c = held_told _ (search rules) _ _
    (read_here path_words _ _ _ (assumption) c.path_word.ensures (rw (← c.in-Ok.ensures.1.same) c.path_of.ensures))

pub path_of-requires : goal.path_of-requires
path_of-requires c = (assumption)
