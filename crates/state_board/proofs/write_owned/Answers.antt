-- `state_board::write_owned` leaves the words of the record. Assumes nothing.
use native.Mathlib.Omega.{arith}
use lib.ListN.{length-set}
use Rattle.words.proofs.Parts.{all_stored}
use Rattle.state.specs.Layout.{owned_words}
use Rattle.state_board.proofs.write_owned.Goals as goal

pub bounds-s-4 : goal.bounds-s-4
bounds-s-4 c = simp length-set (omega (arith, c.requires))

pub returns : goal.returns
returns c = all_stored c.args.s.now (owned_words c.args.x) c.requires
