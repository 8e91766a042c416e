-- Page 02's rules of echo replies (W-203), in the words of the page's tables: which datagrams are answered, what the reply is made of, and what becomes of it
-- (page 01: "it takes the route line, on a host too, with 11 to 15"; W-204 gives 12 no more, and 13 is a path's, which no reply has). How the pages are read:
-- docs/DECISIONS.md. proofs/Answered.antt and proofs/Replies.antt have that answering does exactly this. Assumes nothing.
use Rattle.std.specs.Prelude.{ℕ, ◌+◌, ◌-◌, ◌≤◌, ◌<◌, ◌≡◌, ◌⊎◌, ◌≢◌, Bool, true, false, not, ◌&&◌, ◌||◌, List, [], ◌∷◌, eqb, ltb, Some, None}
use Rattle.checks.specs.Order.{pick, Checks, first_of}
use Rattle.sets.specs.Limits.{port_count}
use Rattle.sets.specs.Sets.{in_set}
use Rattle.address.specs.Class.{class_of, class_number}
use Rattle.address.specs.declared.Address.{Address}
use Rattle.header.specs.Limits.{length_limit}
use Rattle.header.specs.Build.{source_flag, qos_flag, format_of, size_of}
use Rattle.header.specs.Read.{header_of, read_of}
use Rattle.header.specs.declared.Fields.{Fields}
use Rattle.checks.specs.Told.{Good}
use Rattle.echo.specs.Message.{request_size, reply_size, reading_of}
use Rattle.echo.specs.declared.Message.{Message}
use Rattle.echo.specs.declared.Kind.TheVariants as kind
use Rattle.meaning.specs.Names.{aim_of, origin_of, is_basic, routing_asked}
use Rattle.meaning.specs.Flood.{is_flooded}
use Rattle.meaning.specs.Arrival.{arrival_checks}
use Rattle.meaning.specs.Asked.{precedence_asked}
use Rattle.meaning.specs.declared.Aim.{Aim}
use Rattle.meaning.specs.declared.Aim.TheVariants.{Node}
use Rattle.next_leg.specs.Leg.{is_absent, data_of}
use Rattle.routes.specs.declared.Route.{Route}
use Rattle.state.specs.Relay.{Relay, port_in, port_set_up}
use Rattle.verdict.specs.Numbers.{local_number, onward_number}
use Rattle.replies.specs.Request.{user_data}
use Rattle.replies.specs.Reply.{reply_fields, hops_in, stamp_number, most_echoed}
use Rattle.replies.specs.Replied.{wire_length}
use Rattle.replies.specs.declared.Answering.{Answering}
use Rattle.replies.specs.declared.sending.Replied.{Replied}
use Rattle.page.specs.Table.{
  Ports,
  nobody,
  no_port,
  aim_at,
  destination_is,
  equals_port,
  broadcast_of_ours,
  local_half,
  some_matches,
  more_ones,
  best_port,
  best_code,
  Line,
  not_asked,
  refused,
  wanted,
  lies_far,
  with_room,
  without_room,
  first_row,
  line_code,
}

-- ---- which datagrams are answered

-- by the page's table of classes: 2 multicast, 3 to 6 the broadcasts
abbrev pub is_class_of_many : Address → Bool
is_class_of_many a = ltb 1 (class_number (class_of a.0))

-- "goes to a broadcast or multicast address": by its class, or as a broadcast of ours
abbrev pub goes_to_many : Relay → Aim → Bool
goes_to_many r x = destination_is x is_class_of_many || broadcast_of_ours r x

-- the reply's own header, before any rewrite: its source is "the request's destination if a port has it"
abbrev pub reply_header : Relay → ℕ → List ℕ → Fields
reply_header r at octets = reply_fields (port_in r at).address (equals_port r (aim_at r at octets)) (header_of octets).fields

-- and the octets of a reply without data: its header and the fixed fields
abbrev pub least_reply : Relay → ℕ → List ℕ → ℕ
least_reply r at octets = size_of (reply_header r at octets) + reply_size

-- The datagram, come in by port `at`, is an echo request that is answered; dropping is the setting that drops all requests.
pub record RequestAnswered (r : Relay) (dropping at : ℕ) (octets : List ℕ) : Type 0 where
  -- steps 2 and 3 refuse nothing: it is read
  pub reads : read_of octets ≡ Good (header_of octets)
  -- nor do steps 4 to 6, nor 28
  pub carried : first_of (arrival_checks (port_in r at).address (header_of octets).fields) ≡ 0
  -- "a request that page 01 does not deliver .. gets none"
  pub delivered : local_half r at (aim_at r at octets) (header_of octets).fields ≡ 1
  -- TP-ID 1 is SCMP's (003, 3.3.1.3)
  pub control : (header_of octets).fields.tpid ≡ 1
  -- its user data are an Echo Request
  pub message : Message
  pub holds : reading_of (user_data (header_of octets) octets) ≡ Good message
  pub request : message.kind ≡ kind.Request
  -- ".. that is flooded .."
  pub not_flooded : is_flooded (header_of octets).fields ≡ false
  -- ".. lacks source or hop count ..": any hop count, 0 and 1 too
  pub source : source_flag (header_of octets).fields.addresses ≢ 0
  pub hops : is_absent (header_of octets).fields.hops ≡ false
  -- ".. leaves no room for the fixed fields ..": of the arrival port's MTU
  pub fits : least_reply r at octets ≤ (port_in r at).mtu
  -- ".. or goes to a broadcast or multicast address": a port's own address names one system
  pub to_one : (equals_port r (aim_at r at octets) || not (goes_to_many r (aim_at r at octets))) ≡ true
  -- "A setting that drops all requests defaults to off."
  pub taken : dropping ≡ 0

-- ---- the reply

-- What the reply is made of, where m is the request.
pub record ReplyTo (r : Relay) (at : ℕ) (octets : List ℕ) (m : Message) (a : Answering) : Type 0 where
  -- "A reply keeps the request's kind of address and precedence, has hop count 64 and as source the request's destination if a port has it, else the arrival
  -- port's address"
  pub fields : a.fields ≡ reply_header r at octets
  -- the same, field by field: "kind of address"
  pub kind_kept : is_basic a.fields.addresses ≡ is_basic (header_of octets).fields.addresses
  -- ".. and precedence", in basic QOS exactly where the request has it; it is not flooded
  pub precedence : a.precedence ≡ precedence_asked (header_of octets).fields.qos
  pub precedence_kept : precedence_asked a.fields.qos ≡ precedence_asked (header_of octets).fields.qos
  pub qos_kept : qos_flag a.fields.qos ≡ qos_flag (header_of octets).fields.qos
  pub routing : routing_asked a.fields.qos ≡ 0
  pub hops : a.fields.hops ≡ Some 64
  -- SCMP's TP-ID; no other element before the rewrite, and no intermediate delivery (docs/DECISIONS.md)
  pub control : a.fields.tpid ≡ 1
  pub unstamped : a.fields.stamp ≡ None
  pub unexpanded : a.fields.expanded ≡ None
  pub unsummed : a.fields.checksum ≡ 0
  pub not_between : a.fields.intermediate ≡ 0
  -- what its addresses name at the arrival port: the request's source, and one of the two
  pub destination : origin_of (port_in r at).address.0 (header_of octets).fields.addresses ≡ Some a.destination
  pub names : aim_of (port_in r at).address.0 a.fields.addresses ≡ Node a.destination
  pub from_own : (d : Address) → aim_at r at octets ≡ Node d → equals_port r (Node d) ≡ true → origin_of (port_in r at).address.0 a.fields.addresses ≡ Some d
  pub from_arrival : equals_port r (aim_at r at octets) ≡ false → origin_of (port_in r at).address.0 a.fields.addresses ≡ Some (port_in r at).address
  pub arrival : a.arrival ≡ (port_in r at).address
  -- "the fields of 3.3.4.7.5 in that order, receive rate and an absent timestamp as zeros"
  pub identifier : a.message.identifier ≡ m.identifier
  pub sequence : a.message.sequence ≡ m.sequence
  pub seen : a.message.kind
      ≡ kind.Reply (record {
        hops = hops_in (header_of octets).fields.hops;
        format = format_of (header_of octets).fields.stamp;
        stamp = stamp_number (header_of octets).fields.stamp;
        mtu = (port_in r at).mtu;
        rate = 0;
      })
  -- the request's data, from where they begin ..
  pub from : a.from ≡ (header_of octets).size + request_size
  -- .. "cut where the arrival port's MTU, or 8,141 octets of user data, would be passed": 8,115 of data
  pub within : a.count ≤ data_of (header_of octets) - request_size
  pub short : a.count ≤ most_echoed
  pub fits : least_reply r at octets + a.count ≤ (port_in r at).mtu
  -- and no sooner
  pub whole : (a.count ≡ data_of (header_of octets) - request_size) ⊎ ((a.count ≡ most_echoed) ⊎ (least_reply r at octets + a.count ≡ (port_in r at).mtu))

-- ---- what becomes of it

-- "Size is tested against MTU and 8,191 after the rewrite, a reply's also against the room lent": of the reply for port p, where its route asks for so much
abbrev pub reply_length : Relay → ℕ → Answering → ℕ → ℕ → ℕ
reply_length r at a code p = wire_length (lies_far r at p) a code

-- a reply a that is made, its request come in by port `at`, with so much room; the route's port, and what the route asks for
module _ (r : Relay) (at : ℕ) (a : Answering) (room : ℕ) (ports : Ports) (code : ℕ) where
  -- a port that is not set up has no MTU
  abbrev pub of_reply_size : Ports
  of_reply_size p =
      ports p
      && (port_set_up r p
      && (not (ltb (port_in r p).mtu (reply_length r at a code p))
      && (ltb (reply_length r at a code p) length_limit && not (ltb room (reply_length r at a code p)))))

  -- "With ports wanted, in this order": it has its hop count and is no path, so that 10 and 13 do not apply
  unfoldable pub reply_rows : Checks
  reply_rows =
      -- "none left: 14."
      (no_port of_reply_size, 14)
      -- "all dropped: 15"
      ∷ (no_port (with_room r of_reply_size), 15)
      -- else "the ports that took an entry"
      ∷ (true, 1)
      ∷ []

-- "the route line": "the route with most mask ones among all that match; 11 if none"
unfoldable pub reply_line : (Route → Route → Bool) → Relay → Address → Line
reply_line more r d = first_row ((not (some_matches r (Node d)), refused 11) ∷ []) (wanted (best_port more r (Node d)) (best_code more r (Node d)))

-- the number that refuses the call; the onward half, 0 where no reply is made, 1 where a port took it; and the ports
pub record ReplyVerdict : Type 0 where
  pub refusal : ℕ
  pub onward : ℕ
  pub granted : Ports
  pub took : Ports
  pub dropped : Ports
  -- what the route taken asks of a header, 0 without one
  pub code : ℕ

abbrev pub line_gives : Relay → ℕ → Answering → ℕ → Line → ℕ
line_gives r at a room not_asked = 0
line_gives r at a room (refused n) = n
line_gives r at a room (wanted ports code) = first_of (reply_rows r at a room ports code)

abbrev pub reply_grants : Relay → ℕ → Answering → ℕ → Line → Ports
reply_grants r at a room not_asked = nobody
reply_grants r at a room (refused n) = nobody
reply_grants r at a room (wanted ports code) = of_reply_size r at a room ports code

-- "Each with fewer than 32 waiting takes one entry (slot, precedence); the others drop theirs"
abbrev pub reply_by : Relay → ℕ → Answering → ℕ → Line → ReplyVerdict
reply_by r at a room line =
    record {
      refusal = 0;
      onward = line_gives r at a room line;
      granted = reply_grants r at a room line;
      took = with_room r (reply_grants r at a room line);
      dropped = without_room r (reply_grants r at a room line);
      code = line_code line;
    }

-- none is made
abbrev pub unanswered : ℕ → ReplyVerdict
unanswered n = record { refusal = n; onward = 0; granted = nobody; took = nobody; dropped = nobody; code = 0 }

-- what becomes of the reply, where `more` compares two routes
unfoldable pub reply_verdict_by : (Route → Route → Bool) → Relay → ℕ → Answering → ℕ → ReplyVerdict
reply_verdict_by more r at a room = pick (eqb a.made 0) (unanswered a.refusal) (reply_by r at a room (reply_line more r a.destination))

-- the page's verdict: routes are compared by their mask ones
abbrev pub reply_verdict : Relay → ℕ → Answering → ℕ → ReplyVerdict
reply_verdict = reply_verdict_by more_ones

-- ---- what it is that answering ends so: the same numbers, nothing delivered here, and the same of each port
pub record RepliesAs (e : Replied) (v : ReplyVerdict) : Type 0 where
  pub refusal : e.refusal ≡ v.refusal
  pub local : local_number e.ruling.local ≡ 0
  pub onward : onward_number e.ruling.onward ≡ v.onward
  pub granted : (p : ℕ) → p < port_count → in_set p e.ruling.granted ≡ v.granted p
  pub took : (p : ℕ) → p < port_count → in_set p e.ruling.took ≡ v.took p
  pub dropped : (p : ℕ) → p < port_count → in_set p e.ruling.dropped ≡ v.dropped p
  pub code : e.code ≡ v.code

-- of a port that took it: C is told the octets that go by it, with the addresses widened exactly where it lies in another domain
pub record WiredAs (r : Relay) (at : ℕ) (a : Answering) (e : Replied) : Type 0 where
  pub octets : (p : ℕ) → p < port_count → in_set p e.ruling.took ≡ true → e.octets ≡ reply_length r at a e.code p
  pub far : (p : ℕ) → p < port_count → in_set p e.ruling.took ≡ true → not (eqb e.far 0) ≡ lies_far r at p
