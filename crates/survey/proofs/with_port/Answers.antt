-- `survey::with_port` meets its contract. Assumes nothing.
use native.Mathlib.Nat.{add-zero}
use Rattle.survey.proofs.with_port.Goals as goal

pub returns-then-test : goal.returns-then-test
returns-then-test c = simp c.if-test.true

pub returns : goal.returns
returns c = simp (c.if-test.false, add-zero)
