-- The header of a copy on its next leg: page 02, W-214. Each granted port has its own copy, and whether the port lies in another domain than the arrival
-- port and what the route taken asks for decide its header; a copy without a route is asked for nothing. Assumes nothing.
use Rattle.std.specs.Prelude.{ℕ, ◌+◌, ◌-◌, ◌≤◌, ◌<◌, Bool, true, false, not, ◌&&◌, ◌||◌, List, eqb, Option, Some, None}
use Rattle.checks.specs.Order.{pick}
use Rattle.header.specs.Limits.{length_limit}
use Rattle.header.specs.Read.{header_of}
use Rattle.header.specs.Build.{size_of, header_octets}
use Rattle.header.specs.Onward.{header_sent_on}
use Rattle.header.specs.declared.Addresses.{Addresses}
use Rattle.header.specs.declared.Addresses.TheVariants.{BasicPath, ExtendedPath, BasicEndSystem, ExtendedEndSystem, Ipv6}
use Rattle.header.specs.declared.Fields.{Fields}
use Rattle.header.specs.declared.Header.{Header}
use Rattle.meaning.specs.Names.{filled_in}
use Rattle.sets.specs.Sets.{in_set}
use Rattle.verdict.specs.Rule.{except_by}
use Rattle.next_leg.specs.declared.Leg.{Leg}
use Rattle.next_leg.specs.declared.Lengths.{Lengths}
use Rattle.next_leg.specs.declared.Legs.{Legs}

-- ---- what a route asks for: "checksum or hop count (codes 1, 2, 4)"; page 01: "0 none, 1 checksum, 2 hop count, 4 both"
abbrev pub asks_checksum : ℕ → Bool
asks_checksum code = eqb code 1 || eqb code 4

abbrev pub asks_hops : ℕ → Bool
asks_hops code = eqb code 2 || eqb code 4

-- ".. and the header lacks it"
abbrev pub is_absent : Option ℕ → Bool
is_absent None = true
is_absent (Some v) = false

abbrev pub adds_hops : ℕ → Option ℕ → Bool
adds_hops code hops = asks_hops code && is_absent hops

abbrev pub adds_checksum : ℕ → ℕ → Bool
adds_checksum code on = asks_checksum code && eqb on 0

abbrev pub adds : ℕ → Fields → Bool
adds code f = adds_hops code f.hops || adds_checksum code f.checksum

-- ---- "Where a granted port lies in another domain, write one-octet end system addresses as four octets": filled in from the arrival port, never from the
-- port that it goes out by; far is true where the port lies in another domain
abbrev pub is_narrow : Addresses → Bool
is_narrow (BasicPath z) = false
is_narrow (ExtendedPath p) = false
is_narrow (BasicEndSystem d s) = true
is_narrow (ExtendedEndSystem d s) = false
is_narrow (Ipv6 d s) = false

abbrev pub widened : ℕ → Addresses → Addresses
widened arrival (BasicPath z) = BasicPath z
widened arrival (ExtendedPath p) = ExtendedPath p
widened arrival (BasicEndSystem d s) = ExtendedEndSystem (record { 0 = filled_in arrival d }) (record { 0 = filled_in arrival s })
widened arrival (ExtendedEndSystem d s) = ExtendedEndSystem d s
widened arrival (Ipv6 d s) = Ipv6 d s

-- the octets that this adds (law `Wider-by`)
abbrev pub widening : Addresses → ℕ
widening (BasicPath z) = 0
widening (ExtendedPath p) = 0
widening (BasicEndSystem d s) = 6
widening (ExtendedEndSystem d s) = 0
widening (Ipv6 d s) = 0

abbrev pub widens : Bool → Addresses → Bool
widens far a = far && is_narrow a

-- a copy is rewritten where its addresses are widened or an element is added
unfoldable pub rewrites : Bool → ℕ → Fields → Bool
rewrites far code f = widens far f.addresses || adds code f

-- ---- the fields that it is then built of
-- "with 64 as the first hop count"; one that came is one less
abbrev pub first_hops : ℕ
first_hops = 64

abbrev pub hops_next : ℕ → Option ℕ → Option ℕ
hops_next code None = pick (asks_hops code) (Some first_hops) None
hops_next code (Some v) = Some (v - 1)

abbrev pub checksum_next : ℕ → ℕ → ℕ
checksum_next code on = pick (asks_checksum code) 1 on

abbrev pub addresses_next : Bool → ℕ → Addresses → Addresses
addresses_next far arrival a = pick far (widened arrival a) a

unfoldable pub next_fields : Bool → ℕ → ℕ → Fields → Fields
next_fields far arrival code f =
    record {
      tpid = f.tpid;
      addresses = addresses_next far arrival f.addresses;
      qos = f.qos;
      hops = hops_next code f.hops;
      stamp = f.stamp;
      expanded = f.expanded;
      checksum = checksum_next code f.checksum;
      intermediate = f.intermediate;
    }

-- ---- the copy: h is the header that came
-- the octets of user data
abbrev pub data_of : Header → ℕ
data_of h = h.length - h.size

-- the octets of its header, and of the datagram ("Size is tested .. after the rewrite")
unfoldable pub next_size : Bool → ℕ → ℕ → Header → ℕ
next_size far arrival code h = pick (rewrites far code h.fields) (size_of (next_fields far arrival code h.fields)) h.size

unfoldable pub next_length : Bool → ℕ → ℕ → Header → ℕ
next_length far arrival code h = pick (rewrites far code h.fields) (size_of (next_fields far arrival code h.fields) + data_of h) h.length

-- of the copies of one datagram: for a port of the arrival port's domain, and for another
abbrev pub next_lengths : Leg → Lengths
next_lengths l =
    record {
      near = next_length false l.arrival.0 l.code l.header;
      far = next_length true l.arrival.0 l.code l.header;
    }

-- the header's octets: "A rewritten header has the built form" (page 01); any other keeps the form in which it came
unfoldable pub next_header : Bool → ℕ → ℕ → List ℕ → List ℕ
next_header far arrival code octets =
    pick (rewrites far code (header_of octets).fields)
    (header_octets (next_fields far arrival code (header_of octets).fields) (data_of (header_of octets)))
    (header_sent_on octets)

-- what the reader leaves of a header: its size is within its length, this within its field, and the numbers of fewer bits than their types within theirs
pub record Sound (h : Header) : Type 0 where
  pub fits : h.size ≤ h.length
  pub short : h.length < length_limit
  pub tpid : h.fields.tpid < 16
  pub checksum : h.fields.checksum < 2
  pub intermediate : h.fields.intermediate < 2

-- ---- the copies of a datagram
-- no port took one
abbrev pub no_legs : Legs
no_legs = record { arrival = record { 0 = 0 }; code = 0; far = 0; rewritten = 0; octets = 0 }

-- of the ports that took one, and of these in another domain, those whose header is rewritten (`rewrites`, port by port: law `rewritten_exactly`)
abbrev pub rewritten_among : ℕ → ℕ → ℕ → Fields → ℕ
rewritten_among took far code f = pick (adds code f) took (pick (is_narrow f.addresses) far 0)

-- the octets of that header (law `one_rewritten`: it is the same for all of them)
abbrev pub rewritten_octets : ℕ → ℕ → Leg → ℕ
rewritten_octets rewritten far l =
    pick (eqb rewritten 0) 0 (size_of (next_fields (not (eqb far 0)) l.arrival.0 l.code l.header.fields))

-- the length of the datagram with it (law `octets_some`)
abbrev pub length_for : ℕ → Lengths → ℕ
length_for far q = pick (eqb far 0) q.near q.far

-- where domain are the ports of the arrival port's domain
unfoldable pub legs_of : ℕ → ℕ → Leg → Legs
legs_of took domain l =
    pick (eqb took 0) no_legs
    (record {
      arrival = l.arrival;
      code = l.code;
      far = except_by took domain;
      rewritten = rewritten_among took (except_by took domain) l.code l.header.fields;
      octets = rewritten_octets (rewritten_among took (except_by took domain) l.code l.header.fields) (except_by took domain) l;
    })

-- the header that port p gets
abbrev pub header_for : Legs → List ℕ → ℕ → List ℕ
header_for l octets p = next_header (in_set p l.far) l.arrival.0 l.code octets
