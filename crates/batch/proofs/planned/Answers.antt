-- `batch::planned` meets its contract. Assumes nothing.
use mathlib.Core.Path.{refl, sym, ◌∙◌}
use Rattle.batch.proofs.Planning.{none_heard}
use Rattle.batch.proofs.planned.Goals as goal

pub returns-then-refusal-ne0 : goal.returns-then-refusal-ne0
returns-then-refusal-ne0 c = (
  c.refusal_by-refusal.ensures,
  (
    none_heard _ _ c.if-refusal-ne0.true,
    record { heard = λ none. absurd (c.if-refusal-ne0.true none); refused = λ some. c.no_names.ensures },
  ),
)

pub returns : goal.returns
returns c = (sym c.if-refusal-ne0.false ∙ c.refusal_by-refusal.ensures, (refl, record { heard = λ none. c.names_in.ensures; refused = λ some. absurd (some refl) }))
