-- `meaning::aim_of` meets its contract: each answer by the law of its return. Assumes nothing.
use Rattle.meaning.specs.Names.{aim_of}
use Rattle.meaning.proofs.Laws.{path_filled, node_filled}
use Rattle.meaning.proofs.aim_of.Goals as goal

pub returns-in-BasicPath : goal.returns-in-BasicPath
returns-in-BasicPath c = rw c.in-BasicPath.is (path_filled _ _ _ c.filled_in.ensures)

pub returns-in-ExtendedPath : goal.returns-in-ExtendedPath
unfolding aim_of
returns-in-ExtendedPath c = rw c.in-ExtendedPath.is

pub returns-in-BasicEndSystem : goal.returns-in-BasicEndSystem
returns-in-BasicEndSystem c = rw c.in-BasicEndSystem.is (node_filled _ _ _ _ c.filled_in-in-BasicEndSystem.ensures)

pub returns-in-ExtendedEndSystem : goal.returns-in-ExtendedEndSystem
unfolding aim_of
returns-in-ExtendedEndSystem c = rw c.in-ExtendedEndSystem.is

pub returns-in-Ipv6 : goal.returns-in-Ipv6
unfolding aim_of
returns-in-Ipv6 c = rw c.in-Ipv6.is
