-- `numbers::destination_number` meets its contract: the destination of each variant, made wide by `narrow` where it is short. Assumes nothing.
use Rattle.numbers.proofs.destination_number.Goals as goal

pub returns-in-BasicPath : goal.returns-in-BasicPath
returns-in-BasicPath c = rw c.in-BasicPath.is c.narrow.ensures

pub returns-in-ExtendedPath : goal.returns-in-ExtendedPath
returns-in-ExtendedPath c = rw c.in-ExtendedPath.is c.narrow-in-ExtendedPath.ensures

pub returns-in-BasicEndSystem : goal.returns-in-BasicEndSystem
returns-in-BasicEndSystem c = rw c.in-BasicEndSystem.is c.narrow-in-BasicEndSystem.ensures

pub returns-in-ExtendedEndSystem : goal.returns-in-ExtendedEndSystem
returns-in-ExtendedEndSystem c = rw c.in-ExtendedEndSystem.is c.narrow-in-ExtendedEndSystem.ensures

pub returns-in-Ipv6 : goal.returns-in-Ipv6
returns-in-Ipv6 c = rw c.in-Ipv6.is
