-- `floods::seek_for` meets its contract. Assumes nothing.
use mathlib.Core.Path.{ap, ◌∙◌}
use Rattle.floods.specs.Memory.{sought_pair}
use Rattle.floods.proofs.seek_for.Goals as goal

pub returns-in-Here : goal.returns-in-Here
returns-in-Here c = rw c.in-Here.is

pub returns-in-Broadcast : goal.returns-in-Broadcast
returns-in-Broadcast c = rw c.in-Broadcast.is (c.seek.ensures ∙ ap (sought_pair _) c.pair_of.ensures)

pub returns-in-Group : goal.returns-in-Group
returns-in-Group c = rw c.in-Group.is (c.seek-in-Group.ensures ∙ ap (sought_pair _) c.pair_of-in-Group.ensures)

pub returns-in-Path : goal.returns-in-Path
returns-in-Path c = rw c.in-Path.is

pub returns-in-Route : goal.returns-in-Route
returns-in-Route c = rw c.in-Route.is (c.seek-in-Route.ensures ∙ ap (sought_pair _) c.pair_of-in-Route.ensures)
