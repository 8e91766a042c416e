-- `harpjuniper_messages::write_words` meets its contract. Assumes nothing.
use native.Mathlib.Omega.{arith}
use lib.ListN.{length-set}
use Rattle.harpjuniper_messages.proofs.Laws.{size_fits, message_written}
use Rattle.harpjuniper_messages.proofs.write_words.Goals as goal

pub bounds-words-1 : goal.bounds-words-1
bounds-words-1 c = simp length-set (omega (arith, c.requires))

pub bounds-words-2 : goal.bounds-words-2
bounds-words-2 c = simp length-set (omega (arith, c.requires))

pub overflow_cast-words-4 : goal.overflow_cast-words-4
overflow_cast-words-4 c = omega (arith, c.fixed_size.ensures, size_fits c.args.m.kind)

pub bounds-words-3 : goal.bounds-words-3
bounds-words-3 c = simp length-set (omega (arith, c.requires))

pub bounds-words-4 : goal.bounds-words-4
bounds-words-4 c = simp length-set (omega (arith, c.requires))

pub bounds-words-5 : goal.bounds-words-5
bounds-words-5 c = simp length-set (omega (arith, c.requires))

pub bounds-words-6 : goal.bounds-words-6
bounds-words-6 c = simp length-set (omega (arith, c.requires))

pub bounds-words-7 : goal.bounds-words-7
bounds-words-7 c = simp length-set (omega (arith, c.requires))

pub bounds-words-8 : goal.bounds-words-8
bounds-words-8 c = simp length-set (omega (arith, c.requires))

pub bounds-words-9 : goal.bounds-words-9
bounds-words-9 c = simp length-set (omega (arith, c.requires))

pub shape_of-words : goal.shape_of-words
shape_of-words c = simp length-set

pub returns : goal.returns
returns c = message_written c.args.m c.args.words.now _ _ _ c.type_number.ensures c.fixed_size.ensures
    c.seen_in-seen.ensures c.requires
