-- `answers::header_parts` meets its contract. Assumes nothing.
use native.Mathlib.Omega.{arith}
use Rattle.answers.specs.Answers.{header_parts}
use Rattle.answers.proofs.header_parts.Goals as goal

pub returns : goal.returns
unfolding header_parts
returns c = omega arith
