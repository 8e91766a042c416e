-- The ruling on a datagram whose header is good, over the relay that a mission sees: page 01, "Local half" and "Onward half". Assumes nothing.
use Rattle.std.specs.Prelude.{ℕ, eqb, Option, Some, None}
use Rattle.checks.specs.Order.{pick}
use Rattle.address.specs.Class.{class_of}
use Rattle.address.specs.declared.Address.{Address}
use Rattle.header.specs.declared.Fields.{Fields}
use Rattle.header.specs.declared.Header.{Header}
use Rattle.networks.specs.Networks.{domain_of}
use Rattle.meaning.specs.Names.{is_bound}
use Rattle.meaning.specs.declared.Aim.{Aim}
use Rattle.meaning.specs.declared.Aim.TheVariants as aim
use Rattle.meaning.specs.Asked.{assigned_of, spent_of}
use Rattle.state.specs.Relay.{Relay}
use Rattle.verdict.specs.Rule.{target_of, local_of, line_of, way_under, code_of, granted_of, ruling_of}
use Rattle.verdict.specs.declared.Target.{Target}
use Rattle.verdict.specs.declared.Target.TheVariants.{Path, Route}
use Rattle.verdict.specs.declared.Place.{Place}
use Rattle.verdict.specs.declared.Way.{Way}
use Rattle.verdict.specs.declared.Flood.{Flood}
use Rattle.verdict.specs.declared.Case.{Case}
use Rattle.verdict.specs.declared.Survey.{Survey}
use Rattle.verdict.specs.declared.Ruling.{Ruling}
use Rattle.survey.specs.Survey.{named_of, survey_of}
use Rattle.survey.specs.declared.Sought.{Sought}
use Rattle.next_leg.specs.Leg.{next_lengths, legs_of}
use Rattle.next_leg.specs.declared.Leg.{Leg}
use Rattle.next_leg.specs.declared.Lengths.{Lengths}
use Rattle.next_leg.specs.declared.Legs.{Legs}
use Rattle.lookup.specs.Lookup.{path_place}
use Rattle.lookup.specs.ForTarget.{place_for, way_for}
use Rattle.floods.specs.Memory.{flood_of}
use Rattle.judge.specs.declared.ruling.Arrival.{Arrival}

-- ---- what is asked
abbrev pub case_of : ℕ → ℕ → Fields → Flood → Case
case_of router arrival f flood =
    record {
      arrival = arrival;
      router = router;
      intermediate = f.intermediate;
      assigned = assigned_of f.tpid;
      bound = is_bound f.addresses;
      spent = spent_of f.hops;
      flood = flood;
    }

-- a path is not compared with any port's address
abbrev pub destination_asked : Aim → Option Address
destination_asked (aim.Node a) = Some a
destination_asked (aim.Path p) = None
destination_asked aim.Uncarried = None

-- what is asked of the wanted ports: the octets of the copy after its rewrite, for a port of the arrival port's domain and for another
abbrev pub sought_by : Address → Lengths → Sought
sought_by arrival q = record { domain = domain_of arrival; near = q.near; far = q.far }

abbrev pub sought_of : Leg → Sought
sought_of l = sought_by l.arrival (next_lengths l)

-- the line that fits, by the class of the address and by the ports
abbrev pub target_asked : Relay → Address → Target
target_asked r a = target_of (class_of a.0) (named_of r.ports a)

-- and of what the header aims at
abbrev pub target_for : Relay → Aim → Target
target_for r (aim.Node a) = target_asked r a
target_for r (aim.Path p) = Path
target_for r aim.Uncarried = Route

-- what the mission's pairs say of it (page 02, W-207)
abbrev pub flood_for : Relay → Arrival → Aim → Header → Flood
flood_for r at x h = flood_of r.router (target_for r x) r.memory at.address.0 h.fields

-- "the port's route": what the route taken asks for; a host takes none, and neither does a line that asks for no route, or a flood
abbrev pub code_for : Relay → Flood → Aim → ℕ
code_for r f (aim.Node a) = pick (eqb r.router 0) 0 (code_of (way_under f (way_for r (target_asked r a) a)))
code_for r f (aim.Path p) = 0
code_for r f aim.Uncarried = 0

abbrev pub leg_for : Relay → Arrival → Aim → Header → Leg
leg_for r at x h = record { arrival = at.address; code = code_for r (flood_for r at x h) x; header = h }

-- what the ports say of it
abbrev pub survey_for : Relay → Arrival → Aim → Header → Survey
survey_for r at x h = survey_of r (destination_asked x) (sought_of (leg_for r at x h))

-- ---- the ruling
unfoldable pub ruled_by : Target → Option Place → Option Way → Case → Survey → Ruling
ruled_by t p w c s = ruling_of (local_of t p c) (granted_of (line_of t p w c s.ready (local_of t p c)) c s) s.full

unfoldable pub rule_target : Relay → Target → Address → Case → Survey → Ruling
rule_target r t a c s = ruled_by t (place_for r t a c.arrival) (way_for r t a) c s

abbrev pub rule_node : Relay → Address → Case → Survey → Ruling
rule_node r a c s = rule_target r (target_of (class_of a.0) s) a c s

abbrev pub rule_aim : Relay → Aim → Case → Survey → Ruling
rule_aim r (aim.Node a) c s = rule_node r a c s
rule_aim r (aim.Path p) c s = ruled_by Path (path_place r p) None c s
rule_aim r aim.Uncarried c s = ruled_by Route None None c s

unfoldable pub rule_of : Relay → Arrival → Aim → Header → Ruling
rule_of r at x h = rule_aim r x (case_of r.router at.set h.fields (flood_for r at x h)) (survey_for r at x h)

-- the headers of the copies that ports took
unfoldable pub legs_for : Relay → Arrival → Aim → Header → Legs
legs_for r at x h = legs_of (rule_of r at x h).took (survey_for r at x h).domain (leg_for r at x h)
