-- The reply to a request: page 01, "Rules that later work keeps" ("A reply keeps the request's kind of address and precedence, has hop count 64 and as source the request's
-- destination if a port has it, else the arrival port's address"); page 02, W-203; 003, 3.3.1 and 3.3.4.7. Assumes nothing.
use Rattle.std.specs.Prelude.{ℕ, ◌+◌, ◌-◌, ◌%◌, ◌≤◌, ◌≡◌, Bool, not, ◌&&◌, List, length, eqb, ltb, Option, Some, None}
use Rattle.checks.specs.Order.{pick}
use Rattle.octets.specs.Octets.{number}
use Rattle.address.specs.declared.Address.{Address}
use Rattle.header.specs.Limits.{most_data}
use Rattle.header.specs.Build.{stamp_octets, format_of, size_of}
use Rattle.header.specs.declared.Addresses.{Addresses}
use Rattle.header.specs.declared.Addresses.TheVariants.{BasicPath, ExtendedPath, BasicEndSystem, ExtendedEndSystem, Ipv6}
use Rattle.header.specs.declared.Qos.{Qos}
use Rattle.header.specs.declared.Timestamp.{Timestamp}
use Rattle.header.specs.declared.Fields.{Fields}
use Rattle.echo.specs.Message.{request_size, reply_size}
use Rattle.echo.specs.declared.Seen.{Seen}
use Rattle.echo.specs.declared.Kind.TheVariants as kind
use Rattle.echo.specs.declared.Message.{Message}
use Rattle.meaning.specs.Names.{origin_of}
use Rattle.meaning.specs.Flood.{source_in}
use Rattle.next_leg.specs.Leg.{first_hops, data_of}
use Rattle.verdict.specs.Rule.{local_of}
use Rattle.verdict.specs.declared.Survey.{Survey}
use Rattle.judge.specs.Asked.{no_header, address_in}
use Rattle.judge.specs.declared.Asked.{Asked}
use Rattle.replies.specs.Request.{is_delivered, scmp, asks_in_header, is_owned, is_to_many, asking_of}
use Rattle.replies.specs.declared.request.Request.{Request}
use Rattle.replies.specs.declared.Answering.{Answering}

-- ---- its header
-- where arrival is the arrival port's address, and own says that a port has the request's destination: "the request's kind of address", the destination its source
abbrev pub reply_addresses : Address → Bool → Addresses → Addresses
reply_addresses arrival own (BasicPath z) = BasicPath z
reply_addresses arrival own (ExtendedPath p) = ExtendedPath p
reply_addresses arrival own (BasicEndSystem d s) = BasicEndSystem s (pick own d (arrival.0 % 256))
reply_addresses arrival own (ExtendedEndSystem d s) = ExtendedEndSystem s (pick own d arrival)
reply_addresses arrival own (Ipv6 d s) = Ipv6 d s

-- basic QOS where the request has it: its precedence, "Routing Requirements subfield shall be set to '00'", "Program Specific .. '00'" (003, 3.3.1.5)
abbrev pub reply_qos : Option Qos → Option Qos
reply_qos None = None
reply_qos (Some q) = Some (record { precedence = q.precedence; routing = 0; program = 0 })

-- "hop count 64"; no timestamp, since there is no clock, and "The Expanded QOS shall not be used" (003, 3.3.1.6)
unfoldable pub reply_fields : Address → Bool → Fields → Fields
reply_fields arrival own f =
    record {
      tpid = scmp;
      addresses = reply_addresses arrival own f.addresses;
      qos = reply_qos f.qos;
      hops = Some first_hops;
      stamp = None;
      expanded = None;
      checksum = 0;
      intermediate = 0;
    }

-- ---- its message
abbrev pub hops_in : Option ℕ → ℕ
hops_in None = 0
hops_in (Some v) = v

-- "placed in the least-significant octets of the field and the unused octets shall be set to all '0s'": the number of all its octets, P-field and time, 0 without one
unfoldable pub stamp_number : Option Timestamp → ℕ
stamp_number t = number (stamp_octets t) 0 (length (stamp_octets t))

-- 003, 3.3.4.7.5 c: hop count, timestamp format and timestamp of the request, "the MTU of the interface over which the Echo Request was received"; "receive rate .. as
-- zeros" (page 02)
unfoldable pub seen_for : Fields → ℕ → Seen
seen_for f mtu = record { hops = hops_in f.hops; format = format_of f.stamp; stamp = stamp_number f.stamp; mtu = mtu; rate = 0 }

abbrev pub reply_message : Fields → ℕ → ℕ → ℕ → Message
reply_message f mtu identifier sequence = record { identifier = identifier; sequence = sequence; kind = kind.Reply (seen_for f mtu) }

-- ---- its data
abbrev pub least : ℕ → ℕ → ℕ
least a b = pick (ltb a b) a b

-- "The answer is cut where the arrival port's MTU, or 8,141 octets of user data, would be passed"
abbrev pub most_echoed : ℕ
most_echoed = most_data - reply_size

-- of n octets of data, behind a header of so many octets
unfoldable pub echoed_count : ℕ → ℕ → ℕ → ℕ
echoed_count mtu size n = least (least n most_echoed) (mtu - size - reply_size)

-- ---- the reply, or none
-- none: by a number that refuses the call, or by 0 with no number at all
abbrev pub no_answer : ℕ → Answering
no_answer n =
    record {
      refusal = n;
      made = 0;
      fields = no_header.fields;
      message = record { identifier = 0; sequence = 0; kind = kind.Request };
      from = 0;
      count = 0;
      precedence = 0;
      destination = record { 0 = 0 };
      arrival = record { 0 = 0 };
      ready = 0;
      number = 0;
    }

abbrev pub own_fields : Asked → Survey → Fields
own_fields a s = reply_fields a.arrival (is_owned s) a.header.fields

abbrev pub made_of : Asked → Survey → ℕ → ℕ → ℕ → Answering
made_of a s mtu identifier sequence =
    record {
      refusal = 0;
      made = 1;
      fields = own_fields a s;
      message = reply_message a.header.fields mtu identifier sequence;
      from = a.header.size + request_size;
      count = echoed_count mtu (size_of (own_fields a s)) (data_of a.header - request_size);
      precedence = a.precedence;
      destination = record { 0 = source_in (origin_of a.arrival.0 a.header.fields.addresses) };
      arrival = a.arrival;
      ready = a.ready;
      number = a.number;
    }

-- "leaves no room for the fixed fields": the arrival port's MTU is under the reply's header and these
abbrev pub fits_mtu : Asked → Survey → ℕ → Bool
fits_mtu a s mtu = not (ltb mtu (size_of (own_fields a s) + reply_size))

abbrev pub asked_by : Option Request → Asked → Survey → ℕ → Answering
asked_by (Some request) a s mtu = pick (fits_mtu a s mtu) (made_of a s mtu request.identifier request.sequence) (no_answer 0)
asked_by None a s mtu = no_answer 0

-- all that is asked of the header and of the destination, and by the setting
unfoldable pub is_asked : ℕ → Asked → Survey → Bool
is_asked dropping a s =
    eqb a.refusal 0
    && (eqb dropping 0
    && (is_delivered (local_of a.target a.place a.case)
    && (asks_in_header a.header.fields && not (is_to_many s (record { 0 = address_in a.destination })))))

unfoldable pub answer_to : ℕ → Asked → Survey → ℕ → List ℕ → Answering
answer_to dropping a s mtu octets = pick (is_asked dropping a s) (asked_by (asking_of a.header octets) a s mtu) (no_answer 0)

-- a header that was read and not refused lies within the octets
abbrev pub Within : Asked → List ℕ → Type 0
Within a octets = a.refusal ≡ 0 → (a.header.size ≤ a.header.length) × (a.header.length ≤ length octets)
