-- Page 01's "One received datagram, step by step" as tables: in each the first row whose condition holds decides. Written from the page and
-- from page 02, W-204 ("Only routes that are up are now candidates"; 12 is given nowhere), W-214 (headers rewritten for the next leg) and W-207 (floods),
-- not from the code: a set of ports is a test of a port's number here, and nothing is gathered beforehand. proofs/Verdict.antt has that receiving does
-- exactly this. Assumes nothing.
use Rattle.std.specs.Prelude.{ℕ, ◌*◌, ◌/◌, ◌^◌, ◌≡◌, ◌⊎◌, ◌↔◌, ◌≢◌, Bool, true, false, not, ◌&&◌, ◌||◌, List, [], ◌∷◌, eqb, ltb, length, Option, Some, None}
use Rattle.checks.specs.Order.{pick, Checks, first_of, NoneHolds, FirstHolds}
use Rattle.sets.specs.Limits.{port_count, group_places, path_places, pair_places}
use Rattle.sets.specs.Sets.{in_set, any_below, first_below}
use Rattle.address.specs.Octets.{dotted}
use Rattle.address.specs.Class.{family_of, class_of, class_number}
use Rattle.address.specs.Mask.{ones_of}
use Rattle.address.specs.declared.Address.{Address}
use Rattle.address.specs.declared.PathAddress.{PathAddress}
use Rattle.address.specs.declared.Family.{Family}
use Rattle.address.specs.declared.Family.TheVariants as family
use Rattle.header.specs.Limits.{longest_header, length_limit}
use Rattle.header.specs.Form.{control_of, places_of, forbidden}
use Rattle.header.specs.Read.{header_of, other_version, cut, misfit, wrong_checksum}
use Rattle.header.specs.declared.Addresses.{Addresses}
use Rattle.header.specs.declared.Fields.{Fields}
use Rattle.header.specs.declared.Header.{Header}
use Rattle.queue.specs.Queue.{entry_places}
use Rattle.networks.specs.Networks.{in_net10, domain_of, last_of, subnet_broadcast}
use Rattle.meaning.specs.Names.{aim_of, origin_of, is_basic, is_bound, not_carried, no_domain, bad_aim, bad_source}
use Rattle.meaning.specs.Flood.{is_flooded, unmarked, pair_of}
use Rattle.meaning.specs.Asked.{is_assigned}
use Rattle.meaning.specs.declared.Aim.{Aim}
use Rattle.meaning.specs.declared.Aim.TheVariants.{Node, Path, Uncarried}
use Rattle.next_leg.specs.Leg.{next_length}
use Rattle.records.specs.Held.{holds_pair, is_free}
use Rattle.records.specs.declared.Port.{Port}
use Rattle.routes.specs.Routes.{candidate}
use Rattle.routes.specs.declared.Route.{Route}
use Rattle.lookup.specs.Lookup.{group_found, path_found}
use Rattle.state.specs.Relay.{Relay, pair_at, port_in, group_in, path_in, queue_in, route_in, port_set_up}

-- ---- tables

-- the first row whose condition holds, else the last
abbrev pub first_row : {A : Type 0} → List (Bool × A) → A → A
first_row [] last = last
first_row (row ∷ rows) last = pick row.0 row.1 (first_row rows last)

-- a row whose condition holds, and none before it, says what P asks; or none holds, and the last does
abbrev pub Decides : {A : Type 0} → (A → Type 0) → List (Bool × A) → A → Type 0
Decides P [] last = P last
Decides P (row ∷ rows) last = ((row.0 ≡ true) × P row.1) ⊎ ((row.0 ≡ false) × Decides P rows last)

-- a number as these rows give it: 0 exactly where no condition holds, and another exactly where the condition of a row that has it holds and
-- none before
abbrev pub GivenBy : Checks → ℕ → Type 0
GivenBy rows m = ((m ≡ 0) ↔ NoneHolds rows) × ((n : ℕ) → n ≢ 0 → (m ≡ n) ↔ FirstHolds rows n)

-- ---- sets of ports

-- a set of ports is a test of a port's number
abbrev pub Ports : Type 0
Ports = ℕ → Bool

abbrev pub nobody : Ports
nobody p = false

-- some of the eight ports is in the set
unfoldable pub some_port : Ports → Bool
some_port ports = any_below ports port_count

-- "none left"
abbrev pub no_port : Ports → Bool
no_port ports = not (some_port ports)

-- "without the arrival port"
abbrev pub without : ℕ → Ports → Ports
without at ports p = ports p && not (eqb p at)

-- A set that stands in a place is a number ("port p in a set 2^p"). Without the arrival port nothing is left of it where it is empty or that
-- port alone; so said it is right of every number, one with ports over 7 too.
abbrev pub nothing_but : ℕ → ℕ → Bool
nothing_but at set = eqb set 0 || eqb set (2 ^ at)

-- what the octets name, come in by port `at`: "it takes that port's first three octets"
abbrev pub aim_at : Relay → ℕ → List ℕ → Aim
aim_at r at octets = aim_of (port_in r at).address.0 (header_of octets).fields.addresses

-- ---- steps 1 to 6. Before them a list of routes over 512 records ends the call by 21 (page 02, W-208): that is not of any relay, and is told where
-- the list is lent (`heard_ending` of crate relay).
unfoldable pub step_rows : Relay → ℕ → ℕ → List ℕ → ℕ → Checks
step_rows r at second octets room =
    let own = (port_in r at).address in
    let f = (header_of octets).fields in
    -- "1. Port not set up, or over 7: 16." W-214: "50 octets for each of eight ports ..; 17 .. if fewer"
    (not (port_set_up r at), 16)
    ∷ (ltb room (port_count * longest_header), 17)
    -- W-207: "a second under the last accepted one (0 at first) refuses a datagram .. with 29, after 16 and 17"
    ∷ (ltb second r.memory.last, 29)
    -- "2. Fewer than 3 octets: 1. Version not the assigned one: 2. Octets end inside the control field: 1. Control bits that 003 does not
    -- allow: 4. Length field over the octets lent, or under the header's own length: 3."
    ∷ (ltb (length octets) 3, 1)
    ∷ (other_version octets, 2)
    ∷ (cut octets (control_of octets), 1)
    ∷ (forbidden (control_of octets), 4)
    ∷ (misfit octets (places_of octets), 3)
    -- "3. Checksum element present and not equal to the complement of the ones' complement sum ..: 5."
    ∷ (wrong_checksum octets (control_of octets) (places_of octets), 5)
    -- "4. Routing requirements not 0, or IPv6 addresses: 8." W-207: "no longer applies to the flood value of table 3-7"
    ∷ (not_carried f, 8)
    -- "5. One-octet address and the arrival port's address does not begin with 10: 7."
    ∷ (no_domain own f.addresses, 7)
    -- "6. Invalid destination or path, or a source present and not unicast: 6."
    ∷ (bad_aim (aim_of own.0 f.addresses) || bad_source (origin_of own.0 f.addresses), 6)
    -- W-207: "A flooded datagram needs a source address and a timestamp, else 28, after 6"
    ∷ (unmarked f, 28)
    ∷ []

-- ---- what a destination is

-- the destination is an address, and passes the test; a path "has no other class"
abbrev pub destination_is : Aim → (Address → Bool) → Bool
destination_is (Node a) test = test a
destination_is (Path x) test = false
destination_is Uncarried test = false

abbrev pub path_is : Aim → (PathAddress → Bool) → Bool
path_is (Node a) test = false
path_is (Path x) test = test x
path_is Uncarried test = false

-- "the destination equals any port's address"
unfoldable pub equals_port : Relay → Aim → Bool
equals_port r x = some_port (λ (p : ℕ). port_set_up r p && destination_is x (λ a. eqb (port_in r p).address.0 a.0))

-- "or is limited broadcast": by the page's table of classes, here 6
abbrev pub is_limited : Address → Bool
is_limited a = eqb (class_number (class_of a.0)) 6

-- "net broadcast of a port's class network": the last address of the net that the port's first octet gives
abbrev pub ends_net : Family → ℕ → ℕ → Bool
ends_net (family.Net hosts) own d = eqb (last_of own hosts) d
ends_net family.Scps own d = false
ends_net family.Multicast own d = false
ends_net family.Invalid own d = false

-- ", a port's own subnet with host bits all ones under that port's mask, or 10.255.255.255 with a port in 10"
unfoldable pub broadcast_of : Port → Address → Bool
broadcast_of own d =
    ends_net (family_of (own.address.0 / 2 ^ 24)) own.address.0 d.0
    || eqb (subnet_broadcast own.address own.mask).0 d.0
    || (in_net10 own.address && eqb (dotted 10 255 255 255) d.0)

-- "or is a broadcast of ours"
unfoldable pub broadcast_of_ours : Relay → Aim → Bool
broadcast_of_ours r x = some_port (λ (p : ℕ). port_set_up r p && destination_is x (broadcast_of (port_in r p)))

-- multicast by the same table, here 2
abbrev pub is_multicast : Address → Bool
is_multicast a = eqb (class_number (class_of a.0)) 2

-- there is a group place, and there is a path place: "matched exactly"
abbrev pub has_group : Relay → Address → Bool
has_group r a = ltb (group_found r a) group_places

abbrev pub has_path : Relay → PathAddress → Bool
has_path r x = ltb (path_found r x) path_places

-- "a subscription on the arrival port"
abbrev pub is_subscribed : Relay → ℕ → Address → Bool
is_subscribed r at a = has_group r a && in_set at (group_in r (group_found r a)).subscribed

-- "the path place says so"
abbrev pub is_here : Relay → PathAddress → Bool
is_here r x = has_path r x && not (eqb (path_in r (path_found r x)).here 0)

-- ---- the local half

-- "Delivered if: .."
unfoldable pub is_ours : Relay → ℕ → Aim → Fields → Bool
is_ours r at x f =
    -- "the destination equals any port's address;"
    equals_port r x
    -- "or is limited broadcast;"
    || destination_is x is_limited
    -- "or is a broadcast of ours ..;"
    || broadcast_of_ours r x
    -- "or is multicast with a subscription on the arrival port;"
    || destination_is x (λ a. is_multicast a && is_subscribed r at a)
    -- "or the path place says so;"
    || path_is x (is_here r)
    -- "or the intermediate delivery flag is 1."
    || eqb f.intermediate 1

-- "If it would be delivered and its TP-ID is not assigned in table 3-2, the local half is 26": else 1 is delivered, and 0 is no
unfoldable pub local_rows : Relay → ℕ → Aim → Fields → Checks
local_rows r at x f = (is_ours r at x f && not (is_assigned f.tpid), 26) ∷ (is_ours r at x f, 1) ∷ []

abbrev pub local_half : Relay → ℕ → Aim → Fields → ℕ
local_half r at x f = first_of (local_rows r at x f)

-- ---- the routes

-- a filled place that is up and matches
abbrev pub matches : Relay → Aim → ℕ → Bool
matches r x q = destination_is x (candidate (route_in r q))

unfoldable pub some_matches : Relay → Aim → Bool
some_matches r x = any_below (matches r x) (length r.routes)

-- the first of two routes has more mask ones
abbrev pub more_ones : Route → Route → Bool
more_ones x y = ltb (ones_of y.mask.0) (ones_of x.mask.0)

module _ (more : Route → Route → Bool) where
  -- the route at place p is rather taken than that at q; of two with as many ones the lower place is, but no list shows a mission two
  abbrev pub outdoes : Relay → Aim → ℕ → ℕ → Bool
  outdoes r x p q = matches r x p && (more (route_in r p) (route_in r q) || (not (more (route_in r q) (route_in r p)) && ltb p q))

  -- "the route with most mask ones among all that match"
  unfoldable pub is_best : Relay → Aim → ℕ → Bool
  is_best r x q = matches r x q && not (any_below (λ (p : ℕ). outdoes r x p q) (length r.routes))

  -- its port, which "may be the arrival port"
  unfoldable pub best_port : Relay → Aim → Ports
  best_port r x p = any_below (λ (q : ℕ). is_best r x q && eqb p (route_in r q).port) (length r.routes)

  -- and its capabilities, which say what it "asks for" (W-214)
  unfoldable pub best_code : Relay → Aim → ℕ
  best_code r x = (route_in r (first_below (is_best r x) (length r.routes))).capabilities

-- ---- the onward half: which ports are wanted
pub data Line : Type 0 where
  not_asked : Line
  refused : ℕ → Line
  -- and what the port's route asks of a header, 0 where there is none: W-214, "Copies without a route get no added elements"
  wanted : Ports → ℕ → Line

abbrev pub is_host : Relay → Bool
is_host r = eqb r.router 0

-- "all other set-up ports"
abbrev pub other_ports : Relay → ℕ → Ports
other_ports r at = without at (port_set_up r)

-- the sets of the places, where the destination has them
abbrev pub group_set : Relay → Address → ℕ
group_set r a = (group_in r (group_found r a)).send

abbrev pub path_set : Relay → PathAddress → ℕ
path_set r x = (path_in r (path_found r x)).send

abbrev pub group_ports : Relay → Aim → Ports
group_ports r x p = destination_is x (λ a. in_set p (group_set r a))

abbrev pub path_ports : Relay → Aim → Ports
path_ports r x p = path_is x (λ a. in_set p (path_set r a))

-- ---- a flood: W-207. What is flooded has a source, else 28; so a path, which has none, is not meant.
abbrev pub flooded_with : Aim → Fields → Bool → Bool
flooded_with x f test = destination_is x (λ a. is_flooded f && test)

-- "a held pair": one of the 64 places holds "source and timestamp, format included", the source as the arrival port fills it in
unfoldable pub pair_held : Relay → ℕ → Fields → Bool
pair_held r at f = any_below (λ (i : ℕ). holds_pair (pair_at r.memory i) (pair_of (port_in r at).address.0 f)) pair_places

-- some place is free; else "all places held"
unfoldable pub some_free : Relay → Bool
some_free r = any_below (λ (i : ℕ). is_free (pair_at r.memory i)) pair_places

-- "The first line that fits decides the wanted ports"
abbrev pub onward_rows : Relay → ℕ → Aim → Fields → List (Bool × Line)
onward_rows r at x f =
    -- "destination equals a port's address, or limited broadcast: not asked;"
    (equals_port r x || destination_is x is_limited, not_asked)
    -- "host: not asked where the local half is delivered or 26, else 9;"
    ∷ (is_host r && not (eqb (local_half r at x f) 0), not_asked)
    ∷ (is_host r, refused 9)
    -- W-207: "Onward, on a router: not asked for a held pair ..; with all places held 30 ..; else .. every other set-up port is wanted, 11 if none"
    ∷ (flooded_with x f (pair_held r at f), not_asked)
    ∷ (flooded_with x f (not (some_free r)), refused 30)
    ∷ (flooded_with x f (no_port (other_ports r at)), refused 11)
    ∷ (flooded_with x f true, wanted (other_ports r at) 0)
    -- "broadcast of ours: all other set-up ports; not asked if there are none;"
    ∷ (broadcast_of_ours r x && no_port (other_ports r at), not_asked)
    ∷ (broadcast_of_ours r x, wanted (other_ports r at) 0)
    -- "multicast: the group's set without the arrival port; not asked if subscribed on the arrival port and no other port is set up; else 11 if
    -- there is no group or that set is empty;"
    ∷ (destination_is x (λ a. is_multicast a && is_subscribed r at a && no_port (other_ports r at)), not_asked)
    ∷ (destination_is x (λ a. is_multicast a && (not (has_group r a) || nothing_but at (group_set r a))), refused 11)
    ∷ (destination_is x is_multicast, wanted (without at (group_ports r x)) 0)
    -- "path: the place's set without the arrival port; 11 if there is no place, or the set is empty and the place is not delivered here; not
    -- asked if empty and delivered here;"
    ∷ (path_is x (λ a. not (has_path r a) || (nothing_but at (path_set r a) && not (is_here r a))), refused 11)
    ∷ (path_is x (λ a. nothing_but at (path_set r a)), not_asked)
    ∷ (path_is x (λ a. true), wanted (without at (path_ports r x)) 0)
    -- "else the route with most mask ones among all that match; 11 if none" (that it is up: page 02)
    ∷ (not (some_matches r x), refused 11)
    ∷ []

unfoldable pub onward_line : (Route → Route → Bool) → Relay → ℕ → Aim → Fields → Line
onward_line more r at x f = first_row (onward_rows r at x f) (wanted (best_port more r x) (best_code more r x))

-- ---- with ports wanted

-- "hop count present and 0 or 1"
abbrev pub hops_used_up : Option ℕ → Bool
hops_used_up None = false
hops_used_up (Some n) = ltb n 2

-- "addresses are one octet"
abbrev pub one_octet : Addresses → Bool
one_octet a = is_basic a

-- W-214: "one-octet paths keep 13"
abbrev pub one_octet_path : Addresses → Bool
one_octet_path a = eqb (is_bound a) 1

-- W-214: "a granted port lies in another domain": "first three octets differ from the arrival port's"
abbrev pub lies_far : Relay → ℕ → ℕ → Bool
lies_far r at p = not (eqb (domain_of (port_in r p).address) (domain_of (port_in r at).address))

-- W-214: the size of the copy for port p "after the rewrite", where its route asks for so much
abbrev pub size_after : Relay → ℕ → Header → ℕ → ℕ → ℕ
size_after r at h code p = next_length (lies_far r at p) (port_in r at).address.0 code h

-- "Each with fewer than 32 waiting takes one entry (slot, precedence); the others drop theirs"
abbrev pub has_room : Relay → ℕ → Bool
has_room r p = ltb (queue_in r p).count entry_places

abbrev pub with_room : Relay → Ports → Ports
with_room r ports p = ports p && has_room r p

abbrev pub without_room : Relay → Ports → Ports
without_room r ports p = ports p && not (has_room r p)

-- what is left of the wanted ports. A port that is not set up has no address and no MTU; no history leaves one that is wanted.
module _ (r : Relay) (at : ℕ) (h : Header) (ports : Ports) (code : ℕ) where
  -- "ports whose first three octets differ from the arrival port's are struck out", with a one-octet path alone
  abbrev pub of_domain : Ports
  of_domain p = ports p && (not (one_octet_path h.fields.addresses) || (port_set_up r p && not (lies_far r at p)))

  -- "Size is tested against MTU and 8,191 after the rewrite"
  abbrev pub of_size : Ports
  of_size p = of_domain p && (port_set_up r p && (not (ltb (port_in r p).mtu (size_after r at h code p)) && ltb (size_after r at h code p) length_limit))

  -- "The ports left are the granted copies."
  abbrev pub granted_ports : Ports
  granted_ports p = not (hops_used_up h.fields.hops) && of_size p

  -- "With ports wanted, in this order"
  unfoldable pub copy_rows : Checks
  copy_rows =
      -- "hop count present and 0 or 1: 10."
      (hops_used_up h.fields.hops, 10)
      -- "none left: 13."
      ∷ (one_octet_path h.fields.addresses && no_port of_domain, 13)
      -- "none left: 14."
      ∷ (no_port of_size, 14)
      -- "all dropped: 15"
      ∷ (no_port (with_room r granted_ports), 15)
      -- else "the ports that took an entry"
      ∷ (true, 1)
      ∷ []

-- ---- the verdict

-- "the answer gives the local half (no, delivered, 26) and the onward half (not asked, a number, or the ports that took an entry)": not asked is
-- 0, and 1 is ports that took one
pub record Verdict : Type 0 where
  pub refusal : ℕ
  pub local : ℕ
  pub onward : ℕ
  pub granted : Ports
  pub took : Ports
  pub dropped : Ports
  -- what the route taken asks of a header, 0 without one
  pub code : ℕ

-- a line's number, and what it grants
abbrev pub line_number : Relay → ℕ → Header → Line → ℕ
line_number r at h not_asked = 0
line_number r at h (refused n) = n
line_number r at h (wanted ports code) = first_of (copy_rows r at h ports code)

-- the line's number is n: by itself, or by the first of the rows on copies that holds
abbrev pub GivesNumber : Relay → ℕ → Header → ℕ → Line → Type 0
GivesNumber r at h n not_asked = 0 ≡ n
GivesNumber r at h n (refused m) = m ≡ n
GivesNumber r at h n (wanted ports code) = FirstHolds (copy_rows r at h ports code) n

abbrev pub line_grants : Relay → ℕ → Header → Line → Ports
line_grants r at h not_asked = nobody
line_grants r at h (refused n) = nobody
line_grants r at h (wanted ports code) = granted_ports r at h ports code

abbrev pub line_code : Line → ℕ
line_code not_asked = 0
line_code (refused n) = 0
line_code (wanted ports code) = code

abbrev pub halves : Relay → ℕ → Header → ℕ → Line → Verdict
halves r at h local line =
    record {
      refusal = 0;
      local = local;
      onward = line_number r at h line;
      granted = line_grants r at h line;
      took = with_room r (line_grants r at h line);
      dropped = without_room r (line_grants r at h line);
      code = line_code line;
    }

-- the two halves, by what the destination names
unfoldable pub judged : (Route → Route → Bool) → Relay → ℕ → Aim → Header → Verdict
judged more r at x h = halves r at h (local_half r at x h.fields) (onward_line more r at x h.fields)

-- "A refusal at any check ends the call"
abbrev pub refused_with : ℕ → Verdict
refused_with n = record { refusal = n; local = 0; onward = 0; granted = nobody; took = nobody; dropped = nobody; code = 0 }

-- what becomes of these octets, come in by port `at` in this second, with so much room for output, where `more` compares two routes
unfoldable pub verdict_by : (Route → Route → Bool) → Relay → ℕ → ℕ → List ℕ → ℕ → Verdict
verdict_by more r at second octets room =
    let n = first_of (step_rows r at second octets room) in
    let h = header_of octets in
    pick (eqb n 0) (judged more r at (aim_of (port_in r at).address.0 h.fields.addresses) h) (refused_with n)

-- the page's verdict: routes are compared by their mask ones
abbrev pub verdict_of : Relay → ℕ → ℕ → List ℕ → ℕ → Verdict
verdict_of = verdict_by more_ones
