-- `state_pairs::write_pair` leaves the words of the record. Assumes nothing.
use native.Mathlib.Omega.{arith}
use lib.ListN.{length-set}
use Rattle.words.proofs.Parts.{all_stored}
use Rattle.state.specs.Layout.{pair_words}
use Rattle.state_pairs.proofs.write_pair.Goals as goal

pub bounds-s-4 : goal.bounds-s-4
bounds-s-4 c = simp length-set (omega (arith, c.requires))

pub returns : goal.returns
returns c = all_stored c.args.s.now (pair_words c.args.x) c.requires
