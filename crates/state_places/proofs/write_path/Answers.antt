-- `state_places::write_path` leaves the words of the record. Assumes nothing.
use Rattle.words.proofs.Parts.{all_stored}
use Rattle.state.specs.Layout.{path_words}
use Rattle.state_places.proofs.write_path.Goals as goal

pub returns : goal.returns
returns c = all_stored c.args.s.now (path_words c.args.x) c.requires
