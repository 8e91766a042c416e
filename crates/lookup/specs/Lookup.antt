-- The place of a group or a path: page 01, "Settings" ("Group and path addresses are matched exactly"), "Local half" and "Onward half".
-- Assumes nothing.
use Rattle.std.specs.Prelude.{ℕ, ltb, Option, Some, None}
use Rattle.std.specs.Int.Bits.{bit_and}
use Rattle.checks.specs.Order.{pick}
use Rattle.sets.specs.Limits.{group_places, path_places}
use Rattle.sets.specs.Sets.{first_below}
use Rattle.address.specs.declared.Address.{Address}
use Rattle.address.specs.declared.PathAddress.{PathAddress}
use Rattle.records.specs.Held.{holds_group, holds_path}
use Rattle.records.specs.declared.Group.{Group}
use Rattle.records.specs.declared.PathPlace.{PathPlace}
use Rattle.state.specs.Relay.{Relay, group_in, path_in}
use Rattle.verdict.specs.declared.Place.{Place}

-- the first place that is the address's; the number of places where there is none
abbrev pub group_found : Relay → Address → ℕ
group_found r a = first_below (λ (i : ℕ). holds_group (group_in r i) a) group_places

abbrev pub path_found : Relay → PathAddress → ℕ
path_found r p = first_below (λ (i : ℕ). holds_path (path_in r i) p) path_places

-- the ports to send to, and the subscription on the arrival port, 0 where there is none
abbrev pub group_says : Group → ℕ → Option Place
group_says g arrival = Some (record { send = g.send; here = bit_and g.subscribed arrival })

unfoldable pub group_place : Relay → Address → ℕ → Option Place
group_place r a arrival = pick (ltb (group_found r a) group_places) (group_says (group_in r (group_found r a)) arrival) None

-- the ports to send to, and whether it is delivered here
abbrev pub path_says : PathPlace → Option Place
path_says x = Some (record { send = x.send; here = x.here })

unfoldable pub path_place : Relay → PathAddress → Option Place
path_place r p = pick (ltb (path_found r p) path_places) (path_says (path_in r (path_found r p))) None
