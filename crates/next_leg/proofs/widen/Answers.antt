-- `next_leg::widen` meets its contract. Assumes nothing.
use mathlib.Core.Path.{refl}
use Rattle.next_leg.proofs.Made.{as_they_are, widened_both}
use Rattle.next_leg.proofs.widen.Goals as goal

pub returns-in-BasicPath : goal.returns-in-BasicPath
returns-in-BasicPath c = as_they_are _ _ c.in-BasicPath.is refl

pub returns-in-ExtendedPath : goal.returns-in-ExtendedPath
returns-in-ExtendedPath c = as_they_are _ _ c.in-ExtendedPath.is refl

pub returns-in-BasicEndSystem : goal.returns-in-BasicEndSystem
returns-in-BasicEndSystem c = widened_both _ _ _ c.in-BasicEndSystem.is c.filled_in.ensures c.filled_in-in-BasicEndSystem.ensures

pub returns-in-ExtendedEndSystem : goal.returns-in-ExtendedEndSystem
returns-in-ExtendedEndSystem c = as_they_are _ _ c.in-ExtendedEndSystem.is refl

pub returns-in-Ipv6 : goal.returns-in-Ipv6
returns-in-Ipv6 c = as_they_are _ _ c.in-Ipv6.is refl
