-- `replies::no_answer` meets its contract. Assumes nothing.
use Rattle.header.specs.declared.Header.{Header}
use mathlib.Core.Path.{ap}
use Rattle.replies.proofs.Making.{none_told}
use Rattle.replies.proofs.no_answer.Goals as goal

pub returns : goal.returns
returns c = none_told _ (ap (λ (h : Header). h.fields) c.no_header-header.ensures)
