-- `tally::counter_for` meets its contract, row by row. Assumes nothing.
use borrow.Author.Tests.{ne_eqb}
use Rattle.tally.specs.Tally.{counter_for}
use native.Mathlib.Omega.{arith}
use Rattle.tally.proofs.counter_for.Goals as goal

pub returns-in-1 : goal.returns-in-1
unfolding counter_for
returns-in-1 c = simp c.in-1.is

pub returns-in-2 : goal.returns-in-2
unfolding counter_for
returns-in-2 c = simp c.in-2.is

pub returns-in-3 : goal.returns-in-3
unfolding counter_for
returns-in-3 c = simp c.in-3.is

pub returns-in-4 : goal.returns-in-4
unfolding counter_for
returns-in-4 c = simp c.in-4.is

pub returns-in-5 : goal.returns-in-5
unfolding counter_for
returns-in-5 c = simp c.in-5.is

pub returns-in-6 : goal.returns-in-6
unfolding counter_for
returns-in-6 c = simp c.in-6.is

pub returns-in-7 : goal.returns-in-7
unfolding counter_for
returns-in-7 c = simp c.in-7.is

pub returns-in-8 : goal.returns-in-8
unfolding counter_for
returns-in-8 c = simp c.in-8.is

pub returns-in-9 : goal.returns-in-9
unfolding counter_for
returns-in-9 c = simp c.in-9.is

pub returns-in-10 : goal.returns-in-10
unfolding counter_for
returns-in-10 c = simp c.in-10.is

pub returns-in-11 : goal.returns-in-11
unfolding counter_for
returns-in-11 c = simp c.in-11.is

pub returns-in-12 : goal.returns-in-12
unfolding counter_for
returns-in-12 c = simp c.in-12.is

pub returns-in-13 : goal.returns-in-13
unfolding counter_for
returns-in-13 c = simp c.in-13.is

pub returns-in-14 : goal.returns-in-14
unfolding counter_for
returns-in-14 c = simp c.in-14.is

pub returns-in-26 : goal.returns-in-26
unfolding counter_for
returns-in-26 c = simp c.in-26.is

pub returns-in-28 : goal.returns-in-28
unfolding counter_for
returns-in-28 c = simp c.in-28.is

pub returns-in-30 : goal.returns-in-30
unfolding counter_for
returns-in-30 c = simp c.in-30.is

pub returns-in_default : goal.returns-in_default
unfolding counter_for
returns-in_default c = simp (ne_eqb c.args.number 1 (omega arith), ne_eqb c.args.number 2 (omega arith), ne_eqb c.args.number 3 (omega arith), ne_eqb c.args.number 4 (omega arith), ne_eqb c.args.number 5 (omega arith), ne_eqb c.args.number 6 (omega arith), ne_eqb c.args.number 7 (omega arith), ne_eqb c.args.number 8 (omega arith), ne_eqb c.args.number 9 (omega arith), ne_eqb c.args.number 10 (omega arith), ne_eqb c.args.number 11 (omega arith), ne_eqb c.args.number 12 (omega arith), ne_eqb c.args.number 13 (omega arith), ne_eqb c.args.number 14 (omega arith), ne_eqb c.args.number 26 (omega arith), ne_eqb c.args.number 28 (omega arith), ne_eqb c.args.number 30 (omega arith))
