-- Where a datagram for an address may go on: page 01, "Onward half". What a line does not ask is not looked up. Assumes nothing.
use Rattle.std.specs.Prelude.{ℕ, Option, Some, None}
use Rattle.sets.specs.Sets.{only_port}
use Rattle.address.specs.declared.Address.{Address}
use Rattle.routes.specs.Search.{Found, search_of}
use Rattle.state.specs.Relay.{Relay}
use Rattle.verdict.specs.declared.Target.{Target}
use Rattle.verdict.specs.declared.Target.TheVariants.{Here, Broadcast, Group, Path, Route}
use Rattle.verdict.specs.declared.Place.{Place}
use Rattle.verdict.specs.declared.Way.{Way}
use Rattle.lookup.specs.Lookup.{group_place}

-- the place of the group, for a group alone
abbrev pub place_for : Relay → Target → Address → ℕ → Option Place
place_for r Here a arrival = None
place_for r Broadcast a arrival = None
place_for r Group a arrival = group_place r a arrival
place_for r Path a arrival = None
place_for r Route a arrival = None

-- the port of the route taken, as a set, and its capabilities: a route that the search answers is up
abbrev pub way_of : Option Found → Option Way
way_of (Some top) = Some (record { port = only_port top.route.port; code = top.route.capabilities })
way_of None = None

-- the route, where the route line decides
abbrev pub way_for : Relay → Target → Address → Option Way
way_for r Here a = None
way_for r Broadcast a = None
way_for r Group a = None
way_for r Path a = None
way_for r Route a = way_of (search_of a r.routes)
