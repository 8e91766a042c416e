-- What holds of the settings in every state that a history reaches: page 01, "Settings"; page 02, W-208 and W-207. Each record that stands in a place still passes
-- the tests that took it, those of the ports that are set up now included; and each route that the mission sees passes its tests, whatever list is lent.
-- Assumes nothing.
use Rattle.std.specs.Prelude.{ℕ, ◌<◌, ◌≡◌, Bool, true, false, not, ◌&&◌, List, length, get_or, eqb}
use Rattle.records.specs.Fresh.{fresh_group, fresh_path}
use Rattle.records.specs.Owned.{is_mission}
use Rattle.records.specs.SetUp.{is_set_up}
use Rattle.records.specs.declared.Group.{Group}
use Rattle.records.specs.declared.PathPlace.{PathPlace}
use Rattle.routes.specs.Refusals.{prefix_refused, codes_refused}
use Rattle.routes.specs.Routes.{is_filled, same_entry, empty_route}
use Rattle.routes.specs.declared.Record.{Record}
use Rattle.routes.specs.declared.Route.{Route}
use Rattle.settings.specs.Refusals.{port_class_refused, port_mask_refused, mtu_refused, group_class_refused, path_class_refused}
use Rattle.settings.specs.Sets.{is_ready, set_refused}
use Rattle.state.specs.Relay.{route_in, group_at, path_at}
use Rattle.state.specs.Seen.{owned_at}
use Rattle.refusals.specs.Ready.{ready_set}
use Rattle.history.specs.Seat.{Seat, relay_in, relay_with}

-- a route whose port is one of these, its prefix and codes good
pub record RouteGood (ready : ℕ) (x : Route) : Type 0 where
  pub port : is_ready x.port ready ≡ true
  pub prefix : prefix_refused x.prefix x.mask ≡ false
  pub codes : codes_refused x.availability x.capabilities ≡ false

pub record Reached (x : Seat) : Type 0 where
  -- a port that is set up, whosever it is, has a unicast address, a good mask and MTU, and is a mission's
  pub ports : (p : ℕ) → p < 8 → is_set_up (owned_at x.board p).port ≡ true
      → (port_class_refused (owned_at x.board p).port.address ≡ false)
      × ((port_mask_refused (owned_at x.board p).port.address (owned_at x.board p).port.mask ≡ false)
      × ((mtu_refused (owned_at x.board p).port.mtu ≡ false) × (is_mission (owned_at x.board p).mission ≡ true)))
  -- a filled route's port is set up and the mission's own, its prefix and codes are good
  pub routes : (rs : List Record) (i : ℕ) → is_filled (route_in (relay_with x rs) i) ≡ true → RouteGood (ready_set (relay_in x)) (route_in (relay_with x rs) i)
  -- a filled group's address is multicast, and its sets name only ports that are set up and the mission's own
  pub groups : (i : ℕ) → i < 16 → not (eqb (group_at x.mission i).filled 0) ≡ true
      → (group_class_refused (group_at x.mission i).address ≡ false)
      × ((set_refused (group_at x.mission i).send (ready_set (relay_in x)) ≡ false)
      × (set_refused (group_at x.mission i).subscribed (ready_set (relay_in x)) ≡ false))
  -- a filled path's address is valid, and its set names only such ports
  pub paths : (i : ℕ) → i < 16 → not (eqb (path_at x.mission i).filled 0) ≡ true
      → (path_class_refused (path_at x.mission i).path ≡ false) × (set_refused (path_at x.mission i).send (ready_set (relay_in x)) ≡ false)
  -- there are 64 places for pairs, whatever was kept and freed
  pub pairs : length x.memory.pairs ≡ 64

-- ---- no two places hold the same entry
abbrev pub same_group : Group → Group → Bool
same_group x y = not (eqb x.filled 0) && (not (eqb y.filled 0) && eqb x.address.0 y.address.0)

abbrev pub same_path : PathPlace → PathPlace → Bool
same_path x y = not (eqb x.filled 0) && (not (eqb y.filled 0) && eqb x.path.0 y.path.0)

-- of n places, no two that differ hold the same
abbrev pub Unique : {A : Type 0} → (A → A → Bool) → A → ℕ → List A → Type 0
Unique same d n l = (i j : ℕ) → i < n → j < n → (i ≡ j → ⊥) → same (get_or l i d) (get_or l j d) ≡ false

pub record KeysUnique (x : Seat) : Type 0 where
  -- of the routes that the mission sees, whatever list is lent
  pub routes : (rs : List Record) → Unique same_entry empty_route (length rs) (relay_with x rs).routes
  pub groups : Unique same_group fresh_group 16 x.mission.groups
  pub paths : Unique same_path fresh_path 16 x.mission.paths
