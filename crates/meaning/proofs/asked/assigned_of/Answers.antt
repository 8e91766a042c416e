-- `meaning::asked::assigned_of` meets its contract, number by number. Assumes nothing.
use borrow.Author.Tests.{ne_eqb}
use native.Mathlib.Omega.{arith}
use Rattle.meaning.proofs.asked.assigned_of.Goals as goal

pub returns-in-1 : goal.returns-in-1
returns-in-1 c = simp c.in-1.is

pub returns-in-4 : goal.returns-in-4
returns-in-4 c = simp c.in-4.is

pub returns-in-5 : goal.returns-in-5
returns-in-5 c = simp c.in-5.is

pub returns-in-6 : goal.returns-in-6
returns-in-6 c = simp c.in-6.is

pub returns-in-8 : goal.returns-in-8
returns-in-8 c = simp c.in-8.is

pub returns-in-10 : goal.returns-in-10
returns-in-10 c = simp c.in-10.is

pub returns-in-11 : goal.returns-in-11
returns-in-11 c = simp c.in-11.is

pub returns-in_default : goal.returns-in_default
returns-in_default c = simp (ne_eqb c.args.tpid 1 (omega arith), ne_eqb c.args.tpid 4 (omega arith), ne_eqb c.args.tpid 5 (omega arith), ne_eqb c.args.tpid 6 (omega arith), ne_eqb c.args.tpid 8 (omega arith), ne_eqb c.args.tpid 10 (omega arith), ne_eqb c.args.tpid 11 (omega arith))
