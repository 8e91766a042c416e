-- What the ports say of a datagram: page 01, "Local half" (a port's address; a broadcast of ours) and "Onward half" (set-up ports; the arrival
-- port's first three octets; size; 32 waiting). Only ports that are set up are in a set. Assumes nothing.
use Rattle.std.specs.Prelude.{ℕ, ◌+◌, ◌<◌, Bool, true, false, not, ◌&&◌, ◌||◌, List, eqb, ltb, get_or, Option, Some, None}
use Rattle.checks.specs.Order.{pick}
use Rattle.sets.specs.Limits.{port_count}
use Rattle.sets.specs.Sets.{port_set, in_set}
use Rattle.address.specs.declared.Address.{Address}
use Rattle.header.specs.Limits.{length_limit}
use Rattle.networks.specs.Networks.{domain_of, subnet_broadcast, class_broadcast}
use Rattle.queue.specs.Queue.{entry_places}
use Rattle.records.specs.Fresh.{fresh_port}
use Rattle.records.specs.SetUp.{is_set_up}
use Rattle.records.specs.declared.Port.{Port}
use Rattle.state.specs.Relay.{Relay, port_in, queue_in}
use Rattle.verdict.specs.declared.Survey.{Survey}
use Rattle.survey.specs.declared.Sought.{Sought}

abbrev pub broadcast_is : Option Address → Address → Bool
broadcast_is (Some x) a = eqb x.0 a.0
broadcast_is None a = false

-- "net broadcast of a port's class network, a port's own subnet with host bits all ones under that port's mask, or 10.255.255.255 with a port
-- in 10"
unfoldable pub own_broadcast : Port → Address → Bool
own_broadcast p a = eqb (subnet_broadcast p.address p.mask).0 a.0 || broadcast_is (class_broadcast p.address) a

-- ---- what is asked of a port that is set up, with so many entries waiting
-- "the destination equals any port's address"
abbrev pub is_addressed : Address → Option Address → Bool
is_addressed own (Some a) = eqb own.0 a.0
is_addressed own None = false

-- "is a broadcast of ours"
abbrev pub is_broadcast : Port → Option Address → Bool
is_broadcast p (Some a) = own_broadcast p a
is_broadcast p None = false

abbrev pub in_domain : Port → Sought → Bool
in_domain p q = eqb (domain_of p.address) q.domain

-- "Size is tested against MTU and 8,191 after the rewrite" (page 02, W-214): an MTU equal to the size is good, and so are 8,191 octets
abbrev pub fits_port : ℕ → ℕ → Bool
fits_port mtu size = not (ltb mtu size) && ltb size length_limit

-- the octets of the datagram as a port gets it, by whether it lies in the arrival port's domain
abbrev pub size_at : Bool → Sought → ℕ
size_at near q = pick near q.near q.far

abbrev pub is_fitting : Port → Sought → Bool
is_fitting p q = fits_port p.mtu (size_at (in_domain p q) q)

abbrev pub is_full : ℕ → Bool
is_full waiting = not (ltb waiting entry_places)

-- ---- the six sets, of the first n ports
abbrev pub ports_below : Relay → (ℕ → Bool) → ℕ → ℕ
ports_below r test n = port_set (λ (p : ℕ). is_set_up (port_in r p) && test p) n

unfoldable pub survey_below : Relay → Option Address → Sought → ℕ → Survey
survey_below r d q n =
    record {
      ready = ports_below r (λ (p : ℕ). true) n;
      addressed = ports_below r (λ (p : ℕ). is_addressed (port_in r p).address d) n;
      broadcast = ports_below r (λ (p : ℕ). is_broadcast (port_in r p) d) n;
      domain = ports_below r (λ (p : ℕ). in_domain (port_in r p) q) n;
      fitting = ports_below r (λ (p : ℕ). is_fitting (port_in r p) q) n;
      full = ports_below r (λ (p : ℕ). is_full (queue_in r p).count) n;
    }

abbrev pub survey_of : Relay → Option Address → Sought → Survey
survey_of r d q = survey_below r d q port_count

-- no port in any set
abbrev pub no_survey : Survey
no_survey = record { ready = 0; addressed = 0; broadcast = 0; domain = 0; fitting = 0; full = 0 }

-- ---- before the search: which ports are set up, have the address, have it as a broadcast
-- a port that is set up and passes a test
abbrev pub set_up_and : List Port → (Port → Bool) → ℕ → Bool
set_up_and ports test p = is_set_up (get_or ports p fresh_port) && test (get_or ports p fresh_port)

unfoldable pub named_below : List Port → Address → ℕ → Survey
named_below ports a n =
    record {
      ready = port_set (set_up_and ports (λ (x : Port). true)) n;
      addressed = port_set (set_up_and ports (λ (x : Port). is_addressed x.address (Some a))) n;
      broadcast = port_set (set_up_and ports (λ (x : Port). is_broadcast x (Some a))) n;
      domain = 0;
      fitting = 0;
      full = 0;
    }

abbrev pub named_of : List Port → Address → Survey
named_of ports a = named_below ports a port_count

-- ---- after it: domain, size and fullness of the ports of a set
abbrev pub wanted_below : Relay → ℕ → (ℕ → Bool) → ℕ → ℕ
wanted_below r set test n = ports_below r (λ (p : ℕ). in_set p set && test p) n

unfoldable pub survey_within : Relay → ℕ → Sought → ℕ → Survey
survey_within r set q n =
    record {
      ready = 0;
      addressed = 0;
      broadcast = 0;
      domain = wanted_below r set (λ (p : ℕ). in_domain (port_in r p) q) n;
      fitting = wanted_below r set (λ (p : ℕ). is_fitting (port_in r p) q) n;
      full = wanted_below r set (λ (p : ℕ). is_full (queue_in r p).count) n;
    }

abbrev pub wanted_of : Relay → ℕ → Sought → Survey
wanted_of r set q = survey_within r set q port_count

-- ---- one turn of the walk
-- room for one more port in each set
abbrev pub Roomy : Survey → Type 0
Roomy s = (s.ready < 128) × ((s.addressed < 128) × ((s.broadcast < 128) × ((s.domain < 128) × ((s.fitting < 128) × (s.full < 128)))))

-- the set with the port, where the test says so
abbrev pub joined_by : ℕ → Bool → ℕ → ℕ
joined_by set test port = set + pick test port 0

-- the survey with one more port: named, and wanted
unfoldable pub with_named : Survey → ℕ → Port → Address → Survey
with_named s port p a =
    record {
      ready = joined_by s.ready (is_set_up p && true) port;
      addressed = joined_by s.addressed (is_set_up p && is_addressed p.address (Some a)) port;
      broadcast = joined_by s.broadcast (is_set_up p && is_broadcast p (Some a)) port;
      domain = s.domain;
      fitting = s.fitting;
      full = s.full;
    }

unfoldable pub with_wanted : Survey → ℕ → Bool → Port → ℕ → Sought → Survey
with_wanted s port wanted p waiting q =
    record {
      ready = s.ready;
      addressed = s.addressed;
      broadcast = s.broadcast;
      domain = joined_by s.domain (is_set_up p && (wanted && in_domain p q)) port;
      fitting = joined_by s.fitting (is_set_up p && (wanted && is_fitting p q)) port;
      full = joined_by s.full (is_set_up p && (wanted && is_full waiting)) port;
    }
