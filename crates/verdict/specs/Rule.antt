-- The verdict on a datagram that has been read and whose addresses are good (page 01, "Local half" and "Onward half"). A set of ports is a number
-- in which port p is 2 ^ p. Assumes nothing.
use Rattle.std.specs.Prelude.{ℕ, ◌-◌, Bool, true, false, not, ◌&&◌, ◌||◌, eqb, Option, Some, None}
use Rattle.std.specs.Int.Bits.{bit_and}
use Rattle.checks.specs.Order.{pick}
use Rattle.address.specs.declared.Class.{Class}
use Rattle.address.specs.declared.Class.TheVariants as class
use Rattle.verdict.specs.declared.Target.{Target}
use Rattle.verdict.specs.declared.Target.TheVariants.{Here, Broadcast, Group, Path, Route}
use Rattle.verdict.specs.declared.Survey.{Survey}
use Rattle.verdict.specs.declared.Place.{Place}
use Rattle.verdict.specs.declared.Way.{Way}
use Rattle.verdict.specs.declared.Flood.{Flood}
use Rattle.verdict.specs.declared.Flood.TheVariants.{Plain, Unsent, Full, New}
use Rattle.verdict.specs.declared.Case.{Case}
use Rattle.verdict.specs.declared.Obstacle.TheVariants.{NotForUs, HopsUsedUp, NoRoute, LeavesDomain, TooBig, QueuesFull, PairsHeld}
use Rattle.verdict.specs.declared.Wish.{Wish}
use Rattle.verdict.specs.declared.Wish.TheVariants.{NotAsked, Refused, Wanted}
use Rattle.verdict.specs.declared.Local.{Local}
use Rattle.verdict.specs.declared.Local.TheVariants.{No, Delivered, Unknown}
use Rattle.verdict.specs.declared.Onward.TheVariants as onward
use Rattle.verdict.specs.declared.Ruling.{Ruling}

-- ---- which line fits first

-- a limited broadcast is for this node, a multicast address for a group, all else for a route
abbrev pub class_target : Class → Target
class_target class.Invalid = Route
class_target class.Unicast = Route
class_target class.Multicast = Group
class_target class.NetBroadcast = Route
class_target class.DomainBroadcast = Route
class_target class.ScpsBroadcast = Route
class_target class.LimitedBroadcast = Here

abbrev pub over_broadcast : Target → Target
over_broadcast Here = Here
over_broadcast Broadcast = Broadcast
over_broadcast Group = Broadcast
over_broadcast Path = Broadcast
over_broadcast Route = Broadcast

-- a port's own address first, then the limited broadcast, then a broadcast of ours, then its class
unfoldable pub target_of : Class → Survey → Target
target_of c s = pick (not (eqb s.addressed 0)) Here (pick (not (eqb s.broadcast 0)) (over_broadcast (class_target c)) (class_target c))

-- ---- the local half

-- what the place for the group or path says, 0 where it says no: the arrival port where it is subscribed, or delivered here
abbrev pub here_by : Option Place → ℕ
here_by (Some place) = place.here
here_by None = 0

-- whether the target makes the datagram ours, by what its place says
abbrev pub ours_by : Target → ℕ → Bool
ours_by Here here = true
ours_by Broadcast here = true
ours_by Group here = not (eqb here 0)
ours_by Path here = not (eqb here 0)
ours_by Route here = false

abbrev pub wanted_here : Bool → ℕ → Bool
wanted_here ours intermediate = ours || not (eqb intermediate 0)

-- "If it would be delivered and its TP-ID is not assigned in table 3-2, the local half is 26"
unfoldable pub local_of : Target → Option Place → Case → Local
local_of t p c = pick (not (wanted_here (ours_by t (here_by p)) c.intermediate)) No (pick (eqb c.assigned 0) Unknown Delivered)

-- ---- the lines of the onward half

-- a set without the ports of another
abbrev pub except_by : ℕ → ℕ → ℕ
except_by set others = set - bit_and set others

abbrev pub broadcast_line : ℕ → Wish
broadcast_line set = pick (eqb set 0) NotAsked (Wanted set)

-- subscribed on the arrival port, and no other port is set up
abbrev pub alone_by : ℕ → ℕ → Bool
alone_by subscribed others = not (eqb subscribed 0) && eqb others 0

-- the group's set without the arrival port; `others` are the other ports set up
unfoldable pub group_line : Option Place → ℕ → ℕ → Wish
group_line None arrival others = Refused NoRoute
group_line (Some place) arrival others =
    pick (alone_by place.here others) NotAsked (pick (eqb (except_by place.send arrival) 0) (Refused NoRoute) (Wanted (except_by place.send arrival)))

-- the path's set without the arrival port
unfoldable pub path_line : Option Place → ℕ → Wish
path_line None arrival = Refused NoRoute
path_line (Some place) arrival =
    pick (not (eqb (except_by place.send arrival) 0)) (Wanted (except_by place.send arrival)) (pick (not (eqb place.here 0)) NotAsked (Refused NoRoute))

-- the port of the route taken; 11 if no route that is up matches (page 02, W-204)
unfoldable pub route_line : Option Way → Wish
route_line None = Refused NoRoute
route_line (Some way) = Wanted way.port

-- what a header needs on its next leg: the capabilities of the route taken; "Copies without a route get no added elements" (page 02, W-214)
abbrev pub code_of : Option Way → ℕ
code_of None = 0
code_of (Some way) = way.code

abbrev pub router_line : Target → Option Place → Option Way → ℕ → ℕ → Wish
router_line Here p w arrival ready = NotAsked
router_line Broadcast p w arrival ready = broadcast_line (except_by ready arrival)
router_line Group p w arrival ready = group_line p arrival (except_by ready arrival)
router_line Path p w arrival ready = path_line p arrival
router_line Route p w arrival ready = route_line w

-- a host: not asked where the local half is delivered or 26, else 9
abbrev pub unheard_by : Local → Wish
unheard_by No = Refused NotForUs
unheard_by Delivered = NotAsked
unheard_by Unknown = NotAsked

abbrev pub host_line : Target → Local → Wish
host_line Here local = NotAsked
host_line Broadcast local = unheard_by local
host_line Group local = unheard_by local
host_line Path local = unheard_by local
host_line Route local = unheard_by local

unfoldable pub plain_line : Target → Option Place → Option Way → Case → ℕ → Local → Wish
plain_line t p w c ready local = pick (eqb c.router 0) (host_line t local) (router_line t p w c.arrival ready)

-- a flooded datagram, on a router (page 02, W-207): "not asked for a held pair, a port's address or limited broadcast; with all places held 30 ..; else the
-- pair is kept .., every other set-up port is wanted, 11 if none"; `others` are the other ports set up
abbrev pub flood_line : Flood → ℕ → Wish → Wish
flood_line Plain others line = line
flood_line Unsent others line = NotAsked
flood_line Full others line = Refused PairsHeld
flood_line (New place) others line = pick (eqb others 0) (Refused NoRoute) (Wanted others)

unfoldable pub line_of : Target → Option Place → Option Way → Case → ℕ → Local → Wish
line_of t p w c ready local = flood_line c.flood (except_by ready c.arrival) (plain_line t p w c ready local)

-- a flood takes no route: W-214, "Copies without a route get no added elements"
abbrev pub way_under : Flood → Option Way → Option Way
way_under Plain w = w
way_under Unsent w = None
way_under Full w = None
way_under (New place) w = None

-- ---- with ports wanted: 10, 13, 14, in this order

abbrev pub hops_left : ℕ → ℕ → Wish
hops_left set spent = pick (eqb spent 0) (Wanted set) (Refused HopsUsedUp)

-- "one-octet paths keep 13" (page 02, W-214)
abbrev pub same_domain : ℕ → ℕ → ℕ → Wish
same_domain set bound domain =
    pick (eqb bound 0) (Wanted set) (pick (eqb (bit_and set domain) 0) (Refused LeavesDomain) (Wanted (bit_and set domain)))

abbrev pub large_enough : ℕ → ℕ → Wish
large_enough set fitting = pick (eqb (bit_and set fitting) 0) (Refused TooBig) (Wanted (bit_and set fitting))

-- what is not wanted stays as it is
abbrev pub after_hops : Wish → ℕ → Wish
after_hops NotAsked spent = NotAsked
after_hops (Refused o) spent = Refused o
after_hops (Wanted set) spent = hops_left set spent

abbrev pub after_domain : Wish → ℕ → ℕ → Wish
after_domain NotAsked bound domain = NotAsked
after_domain (Refused o) bound domain = Refused o
after_domain (Wanted set) bound domain = same_domain set bound domain

abbrev pub after_size : Wish → ℕ → Wish
after_size NotAsked fitting = NotAsked
after_size (Refused o) fitting = Refused o
after_size (Wanted set) fitting = large_enough set fitting

unfoldable pub granted_of : Wish → Case → Survey → Wish
granted_of w c s = after_size (after_domain (after_hops w c.spent) c.bound s.domain) s.fitting

-- ---- the copies: a port whose queue is not full takes one, the others drop theirs; all dropped: 15

unfoldable pub copies_of : Local → ℕ → ℕ → Ruling
copies_of local granted full =
    record {
      local = local;
      onward = pick (eqb (except_by granted full) 0) (onward.Refused QueuesFull) onward.SentOn;
      granted = granted;
      took = except_by granted full;
      dropped = bit_and granted full;
    }

unfoldable pub ruling_of : Local → Wish → ℕ → Ruling
ruling_of local NotAsked full = record { local = local; onward = onward.NotAsked; granted = 0; took = 0; dropped = 0 }
ruling_of local (Refused o) full = record { local = local; onward = onward.Refused o; granted = 0; took = 0; dropped = 0 }
ruling_of local (Wanted set) full = copies_of local set full
