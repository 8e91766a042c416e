-- What is known of a received datagram before a route is searched for it, and what becomes of it then: page 01, "One received datagram, step by
-- step"; the search stands between the two (page 02, W-208: the routes are lent apart). Assumes nothing.
use Rattle.std.specs.Prelude.{ℕ, List, ◌≡◌, eqb, length, Option, Some, None, Bool, false, not, ◌&&◌}
use Rattle.checks.specs.Order.{pick, first_of}
use Rattle.address.specs.declared.Address.{Address}
use Rattle.address.specs.declared.PathAddress.{PathAddress}
use Rattle.header.specs.Onward.{found_of, Found}
use Rattle.header.specs.declared.Addresses.TheVariants as addresses
use Rattle.header.specs.declared.Header.{Header}
use Rattle.header.specs.declared.Renewal.{Renewal}
use Rattle.checks.specs.Told.{Good, Refused}
use Rattle.meaning.specs.Names.{aim_of, bad_class, bad_path}
use Rattle.meaning.specs.Arrival.{arrival_checks}
use Rattle.meaning.specs.Asked.{precedence_asked}
use Rattle.meaning.specs.declared.Aim.{Aim}
use Rattle.meaning.specs.declared.Aim.TheVariants as aim
use Rattle.state.specs.Relay.{Relay}
use Rattle.state.specs.Seen.{ports_seen}
use Rattle.state.specs.Layout.{board_words, decode_board, mission_words, decode}
use Rattle.verdict.specs.Rule.{local_of, line_of, code_of, same_domain, after_size, granted_of, ruling_of}
use Rattle.verdict.specs.declared.Target.{Target}
use Rattle.verdict.specs.declared.Target.TheVariants.{Here, Broadcast, Group, Path, Route}
use Rattle.verdict.specs.declared.Place.{Place}
use Rattle.verdict.specs.declared.Way.{Way}
use Rattle.verdict.specs.declared.Flood.{Flood}
use Rattle.verdict.specs.declared.Flood.TheVariants.{Plain, Unsent, Full, New}
use Rattle.verdict.specs.declared.Case.{Case}
use Rattle.verdict.specs.declared.Local.{Local}
use Rattle.verdict.specs.declared.Wish.{Wish}
use Rattle.verdict.specs.declared.Survey.{Survey}
use Rattle.verdict.specs.declared.Ruling.{Ruling}
use Rattle.next_leg.specs.Leg.{legs_of}
use Rattle.next_leg.specs.declared.Leg.{Leg}
use Rattle.survey.specs.Names.{NamesFor}
use Rattle.survey.specs.Survey.{named_of, wanted_of, survey_of}
use Rattle.survey.specs.declared.names.Names.{Names}
use Rattle.lookup.specs.Lookup.{path_place}
use Rattle.lookup.specs.ForTarget.{place_for}
use Rattle.floods.specs.Memory.{flood_of}
use Rattle.judge.specs.Ruling.{case_of, destination_asked, target_asked, sought_of}
use Rattle.judge.specs.Ending.{call_checks, arrival_at, or_else}
use Rattle.judge.specs.declared.ruling.Arrival.{Arrival}
use Rattle.judge.specs.declared.Looked.{Looked}
use Rattle.judge.specs.declared.Asked.{Asked}
use Rattle.judge.specs.declared.finishing.Ruled.{Ruled}
use Rattle.judge.specs.declared.Ending.{Ending}

-- the names of the ports that the mission sees on the board, if they were gathered
abbrev pub NamesSeen : List ℕ → List ℕ → Names → Type 0
NamesSeen b w k = NamesFor (ports_seen (decode w).number (decode_board b)) k

-- the words of a board and of a mission, and these names
abbrev pub NamedWords : List ℕ → List ℕ → Names → Type 0
NamedWords b w k = (length b ≡ board_words) × ((length w ≡ mission_words) × NamesSeen b w k)

-- ---- before the search
-- a refusal asks nothing
abbrev pub no_case : Case
no_case = record { arrival = 0; router = 0; intermediate = 0; assigned = 0; bound = 0; spent = 0; flood = Plain }

abbrev pub no_header : Header
no_header =
    record {
      fields = record {
        tpid = 0;
        addresses = addresses.BasicPath 0;
        qos = None;
        hops = None;
        stamp = None;
        expanded = None;
        checksum = 0;
        intermediate = 0;
      };
      length = 0;
      size = 0;
    }

abbrev pub refused_asked : ℕ → Asked
refused_asked n =
    record {
      refusal = n;
      target = Here;
      place = None;
      case = no_case;
      ready = 0;
      destination = None;
      number = 0;
      precedence = 0;
      arrival = record { 0 = 0 };
      header = no_header;
      renewal = record { hops = 0; counted = 0; checksum = 0; summed = 0 };
    }

-- by a number that refuses, or where it is 0 by what follows
abbrev pub else_asked : ℕ → Asked → Asked
else_asked n a = pick (eqb n 0) a (refused_asked n)

-- a good header, where it differs when it is sent on, its target, what the place of a group or a path says, and the ports set up where the target's line asks for them
abbrev pub header_asked : Relay → ℕ → Arrival → Header → Renewal → Aim → Target → Option Place → ℕ → Asked
header_asked r number at h n x t p ready =
    record {
      refusal = 0;
      target = t;
      place = p;
      case = case_of r.router at.set h.fields (flood_of r.router t r.memory at.address.0 h.fields);
      ready = ready;
      destination = destination_asked x;
      number = number;
      precedence = precedence_asked h.fields.qos;
      arrival = at.address;
      header = h;
      renewal = n;
    }

unfoldable pub node_asked : Relay → ℕ → Arrival → Header → Renewal → Address → Asked
node_asked r number at h n a =
    header_asked r number at h n (aim.Node a) (target_asked r a) (place_for r (target_asked r a) a at.set) (named_of r.ports a).ready

-- a path's line asks for no other port
unfoldable pub path_asked : Relay → ℕ → Arrival → Header → Renewal → PathAddress → Asked
path_asked r number at h n p = header_asked r number at h n (aim.Path p) Path (path_place r p) 0

-- what is looked up of a destination alone, or its refusal (6); law `looked_asked`: with the header it is what is asked
abbrev pub refused_looked : ℕ → Looked
refused_looked n = record { refusal = n; target = Here; place = None; ready = 0 }

unfoldable pub node_looked : Relay → ℕ → Address → Looked
node_looked r arrival a =
    record { refusal = 0; target = target_asked r a; place = place_for r (target_asked r a) a arrival; ready = (named_of r.ports a).ready }

unfoldable pub path_looked : Relay → PathAddress → Looked
path_looked r p = record { refusal = 0; target = Path; place = path_place r p; ready = 0 }

abbrev pub aim_looked : Relay → ℕ → Aim → Looked
aim_looked r arrival (aim.Node a) = pick (bad_class a.0) (refused_looked 6) (node_looked r arrival a)
aim_looked r arrival (aim.Path p) = pick (bad_path p.0) (refused_looked 6) (path_looked r p)
aim_looked r arrival aim.Uncarried = refused_looked 6

-- what is not carried is refused before
unfoldable pub aim_asked : Relay → ℕ → Arrival → Header → Renewal → Aim → Asked
aim_asked r number at h n (aim.Node a) = node_asked r number at h n a
aim_asked r number at h n (aim.Path p) = path_asked r number at h n p
aim_asked r number at h n aim.Uncarried = refused_asked 6

unfoldable pub carried_asked : Relay → ℕ → Arrival → Header → Renewal → Asked
carried_asked r number at h n =
    else_asked (first_of (arrival_checks at.address h.fields)) (aim_asked r number at h n (aim_of at.address.0 h.fields.addresses))

abbrev pub octets_asked : Relay → ℕ → Arrival → Found → Asked
octets_asked r number at (Good (h, n)) = carried_asked r number at h n
octets_asked r number at (Refused n) = refused_asked n

unfoldable pub datagram_asked : Relay → ℕ → ℕ → ℕ → List ℕ → ℕ → Asked
datagram_asked r number port second octets room =
    else_asked (first_of (call_checks r port second room)) (octets_asked r number (arrival_at r port) (found_of octets))

-- ---- after it
-- a ruling, and the headers of the copies that ports took, where those of the domain are known
abbrev pub legged : Ruling → ℕ → Leg → Ruled
legged x domain l = record { ruling = x; legs = legs_of x.took domain l }

-- by the local half and what the line wants, and by what all ports say
abbrev pub wished_by : Local → Wish → Case → Survey → Leg → Ruled
wished_by local wish c s l = legged (ruling_of local (granted_of wish c s) s.full) s.domain l

unfoldable pub wished_of : Relay → Option Address → Local → Wish → Case → Leg → Ruled
wished_of r d local wish c l = wished_by local wish c (survey_of r d (sought_of l)) l

-- the same by what the wanted ones say, hops left
unfoldable pub among_of : Relay → Local → ℕ → ℕ → Leg → Ruled
among_of r local set bound l =
    let s = wanted_of r set (sought_of l) in
    legged (ruling_of local (after_size (same_domain set bound s.domain) s.fitting) s.full) s.domain l

-- both halves, of what was looked up
abbrev pub leg_asked : Asked → Option Way → Leg
leg_asked a w = record { arrival = a.arrival; code = code_of w; header = a.header }

unfoldable pub ruled_asked : Relay → Asked → Option Way → Ruled
ruled_asked r a w =
    wished_of r a.destination
    (local_of a.target a.place a.case)
    (line_of a.target a.place w a.case a.ready (local_of a.target a.place a.case))
    a.case
    (leg_asked a w)

unfoldable pub finished_of : Relay → Asked → Option Way → Ending
finished_of r a w =
    or_else a.refusal
    (record {
      refusal = 0;
      ruling = (ruled_asked r a w).ruling;
      precedence = a.precedence;
      size = a.header.size;
      legs = (ruled_asked r a w).legs;
    })

-- ---- between them: a route is searched where the route line decides, on a router, and no flood is on
abbrev pub unless_flood : Flood → Bool → Bool
unless_flood Plain sought = sought
unless_flood Unsent sought = false
unless_flood Full sought = false
unless_flood (New place) sought = false

abbrev pub route_sought : Target → ℕ → Bool
route_sought Here router = false
route_sought Broadcast router = false
route_sought Group router = false
route_sought Path router = false
route_sought Route router = not (eqb router 0)

abbrev pub searched_in : Asked → Bool
searched_in a = eqb a.refusal 0 && unless_flood a.case.flood (route_sought a.target a.case.router)

-- the address that it is searched for
abbrev pub address_in : Option Address → ℕ
address_in (Some a) = a.0
address_in None = 0
