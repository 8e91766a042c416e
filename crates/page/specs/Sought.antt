-- Where a route is sought: the last line of page 01's onward half decides, since no step refuses and no line before it fits. And where the pairs are looked
-- up, since a datagram is flooded (page 02, W-207). Assumes nothing.
use Rattle.std.specs.Prelude.{ℕ, ◌≤◌, ◌≡◌, ◌⊎◌, true, false, ◌||◌, List}
use Rattle.checks.specs.Order.{NoneHolds}
use Rattle.address.specs.Mask.{ones_of}
use Rattle.address.specs.declared.Address.{Address}
use Rattle.header.specs.Read.{header_of}
use Rattle.meaning.specs.Flood.{is_flooded}
use Rattle.meaning.specs.Names.{aim_of}
use Rattle.meaning.specs.declared.Aim.TheVariants.{Node}
use Rattle.routes.specs.Routes.{candidate}
use Rattle.state.specs.Relay.{Relay, port_in, route_in}
use Rattle.page.specs.Table.{aim_at, step_rows, destination_is, is_host, equals_port, is_limited, broadcast_of_ours, is_multicast, pair_held, some_free}

-- for a datagram that names the address a
pub record RouteSought (r : Relay) (at second : ℕ) (octets : List ℕ) (room : ℕ) (a : Address) : Type 0 where
  pub judged : NoneHolds (step_rows r at second octets room)
  pub named : aim_of (port_in r at).address.0 (header_of octets).fields.addresses ≡ Node a
  pub router : is_host r ≡ false
  pub not_flooded : is_flooded (header_of octets).fields ≡ false
  pub not_own : (equals_port r (Node a) || is_limited a) ≡ false
  pub not_ours : broadcast_of_ours r (Node a) ≡ false
  pub no_group : is_multicast a ≡ false

-- "the one taken matches the destination under its mask, no matching entry has more mask bits": of the route that sends a copy to port p
pub record RouteTaken (r : Relay) (a : Address) (p : ℕ) : Type 0 where
  pub place : ℕ
  pub matches : candidate (route_in r place) a ≡ true
  pub most : (q : ℕ) → candidate (route_in r q) a ≡ true → ones_of (route_in r q).mask.0 ≤ ones_of (route_in r place).mask.0
  pub port : (route_in r place).port ≡ p

-- "Onward, on a router: not asked for .. a port's address or limited broadcast": a flooded datagram beyond these, which no step refuses
pub record FloodSought (r : Relay) (at second : ℕ) (octets : List ℕ) (room : ℕ) : Type 0 where
  pub judged : NoneHolds (step_rows r at second octets room)
  pub router : is_host r ≡ false
  pub flooded : is_flooded (header_of octets).fields ≡ true
  pub not_own : (equals_port r (aim_at r at octets) || destination_is (aim_at r at octets) is_limited) ≡ false

-- "else the pair is kept": its pair is not held, and not all places are
pub record FloodNew (r : Relay) (at second : ℕ) (octets : List ℕ) (room : ℕ) : Type 0 where
  pub sought : FloodSought r at second octets room
  pub not_held : pair_held r at (header_of octets).fields ≡ false
  pub free : some_free r ≡ true

-- what becomes of it onward: ports that took an entry, "11 if none" is wanted, "and 10, 13, 14 and 15 apply"
abbrev pub FloodNumber : ℕ → Type 0
FloodNumber n = (n ≡ 1) ⊎ ((n ≡ 10) ⊎ ((n ≡ 11) ⊎ ((n ≡ 13) ⊎ ((n ≡ 14) ⊎ (n ≡ 15)))))
