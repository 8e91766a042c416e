-- `state_places::write_group` leaves the words of the record. Assumes nothing.
use Rattle.words.proofs.Parts.{all_stored}
use Rattle.state.specs.Layout.{group_words}
use Rattle.state_places.proofs.write_group.Goals as goal

pub returns : goal.returns
returns c = all_stored c.args.s.now (group_words c.args.x) c.requires
