-- `layout::stamp_size` meets its contract, format by format. Assumes nothing.
use borrow.Author.Tests.{ne_eqb}
use native.Mathlib.Omega.{arith}
use Rattle.header.specs.Form.{stamp_size}
use Rattle.layout.proofs.stamp_size.Goals as goal

pub returns-in-0 : goal.returns-in-0
unfolding stamp_size
returns-in-0 c = simp c.in-0.is

pub returns-in-1 : goal.returns-in-1
unfolding stamp_size
returns-in-1 c = simp c.in-1.is

pub returns-in-2 : goal.returns-in-2
unfolding stamp_size
returns-in-2 c = simp c.in-2.is (omega arith)

pub returns-in_default : goal.returns-in_default
unfolding stamp_size
returns-in_default c =
    let f = c.args.format in
    simp (ne_eqb f 0 (omega arith), ne_eqb f 1 (omega arith), ne_eqb f 2 (omega arith))
