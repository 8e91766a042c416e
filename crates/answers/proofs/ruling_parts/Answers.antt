-- `answers::ruling_parts` meets its contract. Assumes nothing.
use native.Mathlib.Omega.{arith}
use Rattle.answers.specs.Answers.{ruling_parts}
use Rattle.answers.proofs.ruling_parts.Goals as goal

pub returns : goal.returns
unfolding ruling_parts
returns c = (omega arith, omega arith)
