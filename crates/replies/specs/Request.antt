-- Which datagrams an echo reply is made to: page 02, W-203 ("a request that page 01 does not deliver, that is flooded, lacks source or hop count, leaves no room for the
-- fixed fields, or goes to a broadcast or multicast address gets none. A setting that drops all requests defaults to off"). Assumes nothing.
use Rattle.std.specs.Prelude.{ℕ, Bool, true, false, not, ◌&&◌, ◌||◌, List, take, drop, eqb, Option, Some, None}
use Rattle.address.specs.Class.{class_of}
use Rattle.address.specs.declared.Address.{Address}
use Rattle.address.specs.declared.Class.{Class}
use Rattle.address.specs.declared.Class.TheVariants as class
use Rattle.header.specs.Build.{source_flag}
use Rattle.header.specs.declared.Fields.{Fields}
use Rattle.header.specs.declared.Header.{Header}
use Rattle.echo.specs.Message.{reading_of, Reading}
use Rattle.echo.specs.declared.Kind.{Kind}
use Rattle.checks.specs.Told.{Good, Refused}
use Rattle.echo.specs.declared.Kind.TheVariants as kind
use Rattle.meaning.specs.Flood.{is_flooded}
use Rattle.next_leg.specs.Leg.{is_absent, data_of}
use Rattle.verdict.specs.declared.Local.{Local}
use Rattle.verdict.specs.declared.Local.TheVariants.{No, Delivered, Unknown}
use Rattle.verdict.specs.declared.Survey.{Survey}
use Rattle.replies.specs.declared.request.Request.{Request}

-- "that page 01 does not deliver": the local half is delivered, and not 26 either
abbrev pub is_delivered : Local → Bool
is_delivered No = false
is_delivered Delivered = true
is_delivered Unknown = false

-- ---- the header
-- "The TP-ID field of the SCPS-NP header shall be set to '1' for SCMP" (003, 3.3.1.3)
abbrev pub scmp : ℕ
scmp = 1

-- an SCMP message that is not flooded and has a source and a hop count
unfoldable pub asks_in_header : Fields → Bool
asks_in_header f = eqb f.tpid scmp && (not (is_flooded f) && (not (eqb (source_flag f.addresses) 0) && not (is_absent f.hops)))

-- ---- the destination
abbrev pub is_many : Class → Bool
is_many class.Invalid = false
is_many class.Unicast = false
is_many class.Multicast = true
is_many class.NetBroadcast = true
is_many class.DomainBroadcast = true
is_many class.ScpsBroadcast = true
is_many class.LimitedBroadcast = true

-- by what the ports say of it: whether one of them has the address
abbrev pub is_owned : Survey → Bool
is_owned s = not (eqb s.addressed 0)

-- "goes to a broadcast or multicast address": by its class, or as a broadcast of ours; a port's own address does not
abbrev pub is_to_many : Survey → Address → Bool
is_to_many s a = not (is_owned s) && (is_many (class_of a.0) || not (eqb s.broadcast 0))

-- ---- the message
-- the user data, between the header and the end that the length field says
abbrev pub user_data : Header → List ℕ → List ℕ
user_data h octets = take (data_of h) (drop h.size octets)

-- an Echo Request's identifier and sequence number; a reply asks for nothing
abbrev pub asking_by : Kind → ℕ → ℕ → Option Request
asking_by kind.Request identifier sequence = Some (record { identifier = identifier; sequence = sequence })
asking_by (kind.Reply s) identifier sequence = None

abbrev pub asking_in : Reading → Option Request
asking_in (Good m) = asking_by m.kind m.identifier m.sequence
asking_in (Refused n) = None

unfoldable pub asking_of : Header → List ℕ → Option Request
asking_of h octets = asking_in (reading_of (user_data h octets))
