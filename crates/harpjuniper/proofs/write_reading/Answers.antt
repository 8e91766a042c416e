-- `harpjuniper::write_reading` leaves the words of what was read. Assumes nothing.
use lib.ListN.{length-set}
use Rattle.harpjuniper.proofs.Laws.{reading_written}
use borrow.Author.Rules.{rules}
use Rattle.harpjuniper.proofs.write_reading.Goals as goal

pub bounds-words-1 : goal.bounds-words-1
bounds-words-1 c = simp length-set (search rules)

pub returns : goal.returns
returns c = reading_written c.args.words.now c.args.h _ _ c.requires.0 c.from.ensures c.write_numbers.ensures
