-- Whether a reply goes, and how: page 02, W-203 ("the caller lends room, at least the arrival port's MTU, else 17"; "page 01 says how a reply goes"); page 01, "it takes the
-- route line, on a host too, with 11 to 15"; page 02, W-214 ("Size is tested against MTU and 8,191 after the rewrite, a reply's also against the room
-- lent, and 14 reads so"). 12 is no longer given, and 13 is for paths, which no reply is. Assumes nothing.
use Rattle.std.specs.Prelude.{ℕ, ◌+◌, ◌≤◌, ◌<◌, ◌≡◌, Bool, true, false, not, List, [], ◌∷◌, ◌++◌, length, take, drop, eqb, ltb, Option, Some, None}
use Rattle.checks.specs.Order.{pick, Checks, first_of}
use Rattle.octets.specs.Octets.{fronted}
use Rattle.header.specs.Limits.{length_limit}
use Rattle.header.specs.Onward.{found_of}
use Rattle.header.specs.Build.{size_of, header_octets}
use Rattle.header.specs.declared.Fields.{Fields}
use Rattle.echo.specs.Message.{reply_size, fixed_size, message_octets}
use Rattle.networks.specs.Networks.{domain_of}
use Rattle.next_leg.specs.Leg.{addresses_next, checksum_next}
use Rattle.state.specs.Relay.{Relay, port_in, port_set_up}
use Rattle.survey.specs.Survey.{named_of, wanted_of}
use Rattle.survey.specs.declared.Sought.{Sought}
use Rattle.lookup.specs.ForTarget.{way_for}
use Rattle.verdict.specs.Rule.{except_by, large_enough, ruling_of}
use Rattle.verdict.specs.declared.Local.TheVariants.{No}
use Rattle.verdict.specs.declared.Obstacle.TheVariants.{NoRoute}
use Rattle.verdict.specs.declared.Survey.{Survey}
use Rattle.verdict.specs.declared.Target.TheVariants.{Route}
use Rattle.verdict.specs.declared.Way.{Way}
use Rattle.verdict.specs.declared.Wish.TheVariants.{Refused}
use Rattle.judge.specs.Asked.{octets_asked, address_in}
use Rattle.judge.specs.Ending.{no_ruling, arrival_at}
use Rattle.judge.specs.declared.Asked.{Asked}
use Rattle.replies.specs.Reply.{most_echoed, no_answer, answer_to}
use Rattle.replies.specs.declared.Answering.{Answering}
use Rattle.replies.specs.declared.sending.Replied.{Replied}

-- ---- before the search
-- "at least the arrival port's MTU, else 17"; neither counts anything
unfoldable pub call_checks : Relay → ℕ → ℕ → Checks
call_checks r port room = (not (port_set_up r port), 16) ∷ (ltb room (port_in r port).mtu, 17) ∷ []

-- what the ports say of the destination
abbrev pub destination_survey : Relay → Asked → Survey
destination_survey r a = named_of r.ports (record { 0 = address_in a.destination })

abbrev pub heard_answer : Relay → ℕ → Asked → ℕ → List ℕ → Answering
heard_answer r dropping a mtu octets = answer_to dropping a (destination_survey r a) mtu octets

-- to these octets, come in by this port, with so much room; dropping is the setting that drops all requests, and number the mission's
unfoldable pub answering_of : Relay → ℕ → ℕ → ℕ → List ℕ → ℕ → Answering
answering_of r number dropping port octets room =
    pick (eqb (first_of (call_checks r port room)) 0)
    (heard_answer r dropping (octets_asked r number (arrival_at r port) (found_of octets)) (port_in r port).mtu octets)
    (no_answer (first_of (call_checks r port room)))

-- ---- after it: on the wire
-- W-214 of a reply: addresses of one octet are widened for a port of another domain, and a checksum is added where the route asks for it; it has a hop count, which is not
-- lessened, since the reply begins here
unfoldable pub wire_fields : Bool → ℕ → ℕ → Fields → Fields
wire_fields far arrival code f =
    record {
      tpid = f.tpid;
      addresses = addresses_next far arrival f.addresses;
      qos = f.qos;
      hops = f.hops;
      stamp = f.stamp;
      expanded = f.expanded;
      checksum = checksum_next code f.checksum;
      intermediate = f.intermediate;
    }

-- the octets of its user data, and of the datagram whole
abbrev pub message_size : Answering → ℕ
message_size a = reply_size + a.count

unfoldable pub wire_length : Bool → Answering → ℕ → ℕ
wire_length far a code = size_of (wire_fields far a.arrival.0 code a.fields) + message_size a

-- a size over the room lent fits no port
abbrev pub within_room : ℕ → ℕ → ℕ
within_room room size = pick (ltb room size) length_limit size

abbrev pub sought_for : Answering → ℕ → ℕ → Sought
sought_for a code room =
    record {
      domain = domain_of a.arrival;
      near = within_room room (wire_length false a code);
      far = within_room room (wire_length true a code);
    }

-- none, by a number or without one
abbrev pub no_reply : ℕ → Replied
no_reply n = record { refusal = n; ruling = no_ruling; precedence = 0; code = 0; far = 0; octets = 0 }

-- by the ports of a set, which is the route's port, and by what they say; far are those that took it in another domain, and octets those of the datagram that goes
unfoldable pub replied_among : Answering → ℕ → ℕ → Survey → Replied
replied_among a set code s =
    let x = ruling_of No (large_enough set s.fitting) s.full in
    let far = except_by x.took s.domain in
    record {
      refusal = 0;
      ruling = x;
      precedence = a.precedence;
      code = code;
      far = far;
      octets = pick (eqb x.took 0) 0 (wire_length (not (eqb far 0)) a code);
    }

abbrev pub replied_via : Relay → Answering → Option Way → ℕ → Replied
replied_via r a None room =
    record { refusal = 0; ruling = ruling_of No (Refused NoRoute) 0; precedence = a.precedence; code = 0; far = 0; octets = 0 }
replied_via r a (Some way) room = replied_among a way.port way.code (wanted_of r way.port (sought_for a way.code room))

-- a reply that is made takes the route line
unfoldable pub replied_to : Relay → Answering → Option Way → ℕ → Replied
replied_to r a w room = pick (eqb a.made 0) (no_reply a.refusal) (replied_via r a w room)

unfoldable pub replied_of : Relay → ℕ → ℕ → ℕ → List ℕ → ℕ → Replied
replied_of r number dropping port octets room =
    let a = answering_of r number dropping port octets room in
    replied_to r a (way_for r Route a.destination) room

-- ---- the octets
-- of the request, those that are sent back
abbrev pub echoed_of : Answering → List ℕ → List ℕ
echoed_of a octets = take a.count (drop a.from octets)

-- the reply as it is made, and as it goes by a port
abbrev pub own_reply : Answering → List ℕ → List ℕ
own_reply a octets = header_octets a.fields (message_size a) ++ message_octets a.message (echoed_of a octets)

abbrev pub wire_header : Answering → Replied → List ℕ
wire_header a e = header_octets (wire_fields (not (eqb e.far 0)) a.arrival.0 e.code a.fields) (message_size a)

unfoldable pub wire_reply : Answering → Replied → List ℕ → List ℕ
wire_reply a e octets = wire_header a e ++ message_octets a.message (echoed_of a octets)

-- it stands at the front of the output where a port took it; all other octets stay as lent
unfoldable pub replied_output : Answering → Replied → List ℕ → List ℕ → List ℕ
replied_output a e octets lent = pick (eqb e.ruling.took 0) lent (fronted (wire_reply a e octets) lent)

-- ---- what is so of a reply that is made: the numbers of its header are within their bits, and its data within their limit
pub record Made (a : Answering) : Type 0 where
  pub tpid : a.fields.tpid < 16
  pub checksum : a.fields.checksum < 2
  pub intermediate : a.fields.intermediate < 2
  pub count : a.count ≤ most_echoed
  pub reply : fixed_size a.message.kind ≡ reply_size

-- and of one that goes: its data are octets of the request, and it fits the room
pub record Goes (a : Answering) (e : Replied) (octets output : List ℕ) : Type 0 where
  pub made : Made a
  pub within : a.from + a.count ≤ length octets
  pub fits : wire_length (not (eqb e.far 0)) a e.code ≤ length output
