-- `replies::reply_addresses` meets its contract. Assumes nothing.
use mathlib.Core.Path.{refl}
use Rattle.replies.proofs.Making.{addresses_stay, octets_turned, addresses_turned}
use Rattle.replies.proofs.reply_addresses.Goals as goal

pub returns-in-BasicPath : goal.returns-in-BasicPath
returns-in-BasicPath c = addresses_stay _ _ _ c.in-BasicPath.is refl

pub returns-in-ExtendedPath : goal.returns-in-ExtendedPath
returns-in-ExtendedPath c = addresses_stay _ _ _ c.in-ExtendedPath.is refl

pub returns-in-BasicEndSystem : goal.returns-in-BasicEndSystem
returns-in-BasicEndSystem c = octets_turned _ _ _ _ c.in-BasicEndSystem.is c.own_octet.ensures

pub returns-in-ExtendedEndSystem : goal.returns-in-ExtendedEndSystem
returns-in-ExtendedEndSystem c = addresses_turned _ _ _ _ c.in-ExtendedEndSystem.is c.own_address.ensures

pub returns-in-Ipv6 : goal.returns-in-Ipv6
returns-in-Ipv6 c = addresses_stay _ _ _ c.in-Ipv6.is refl
