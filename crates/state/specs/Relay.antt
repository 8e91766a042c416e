-- Page 01's relay, "Numbers that hold everywhere" and "Settings": the settings, the queues and (page 02, W-207) the memory, which the rules read. It is what one mission sees of
-- the board, of the list of routes and of its own state (specs/Seen.antt); the counters, which no rule reads, stand beside it. Each view reads one
-- part, each update changes one.
-- The counters are eighteen, modulo 2^32, in this order: npInReceives, npInBadLength, npInBadVersion, npInBadAddress, npInBadChecksum,
-- unsupported, npInAddrErrors, npInUnknownProtos, npInDelivers, npForwHopDiscard, npForwDatagrams, npOutNoRoutes, npOutDiscards,
-- left domain, too big (page 01, "Refusal numbers"), those of 28 and of 30 (W-207), and npOutRequests (W-203). Assumes nothing.
use Rattle.std.specs.Prelude.{ℕ, ◌+◌, ◌%◌, ◌^◌, Bool, ◌&&◌, List, get_or, set, ltb}
use Rattle.sets.specs.Limits.{port_count}
use Rattle.sets.specs.Sets.{port_set}
use Rattle.queue.specs.declared.Queue.{Queue}
use Rattle.queue.specs.Queue.{fresh as fresh_queue}
use Rattle.routes.specs.declared.Route.{Route}
use Rattle.routes.specs.Routes.{empty_route}
use Rattle.records.specs.declared.Port.{Port}
use Rattle.records.specs.declared.Group.{Group}
use Rattle.records.specs.declared.PathPlace.{PathPlace}
use Rattle.records.specs.declared.PairPlace.{PairPlace}
use Rattle.records.specs.Fresh.{fresh_port, fresh_group, fresh_path, fresh_pair}
use Rattle.records.specs.SetUp.{is_set_up}

-- what is a mission's own, its number and counters aside
pub record Mission : Type 0 where
  pub groups : List Group
  pub paths : List PathPlace
  pub queues : List Queue

-- what a mission remembers of flooded datagrams: "the last accepted" second, and 64 places for pairs of source and timestamp (W-207)
pub record Memory : Type 0 where
  pub last : ℕ
  pub pairs : List PairPlace

-- what the rules read: settings, queues and memory; `router` is 0 for a host
pub record Relay : Type 0 where
  pub router : ℕ
  pub ports : List Port
  pub mission : Mission
  pub memory : Memory
  pub routes : List Route

-- ---- views
-- of a mission's own
abbrev pub group_at : Mission → ℕ → Group
group_at m i = get_or m.groups i fresh_group

abbrev pub path_at : Mission → ℕ → PathPlace
path_at m i = get_or m.paths i fresh_path

abbrev pub queue_at : Mission → ℕ → Queue
queue_at m p = get_or m.queues p fresh_queue

-- of a memory
abbrev pub pair_at : Memory → ℕ → PairPlace
pair_at k i = get_or k.pairs i fresh_pair

-- of the relay
abbrev pub port_in : Relay → ℕ → Port
port_in r p = get_or r.ports p fresh_port

abbrev pub group_in : Relay → ℕ → Group
group_in r i = group_at r.mission i

abbrev pub path_in : Relay → ℕ → PathPlace
path_in r i = path_at r.mission i

abbrev pub queue_in : Relay → ℕ → Queue
queue_in r p = queue_at r.mission p

abbrev pub counter_in : List ℕ → ℕ → ℕ
counter_in l i = get_or l i 0

abbrev pub route_in : Relay → ℕ → Route
route_in r i = get_or r.routes i empty_route

-- a port's number that calls may name: "0 to 7", and set up
unfoldable pub among_ports : List Port → ℕ → Bool
among_ports ports p = ltb p port_count && is_set_up (get_or ports p fresh_port)

abbrev pub port_set_up : Relay → ℕ → Bool
port_set_up r p = among_ports r.ports p

-- the set of the ports that are set up, port p as 2^p
unfoldable pub ready_of : List Port → ℕ
ready_of ports = port_set (λ (p : ℕ). is_set_up (get_or ports p fresh_port)) port_count

-- ---- one field anew
abbrev pub all_routes : Relay → List Route → Relay
all_routes r x = record { router = r.router; ports = r.ports; mission = r.mission; memory = r.memory; routes = x }

abbrev pub with_mission : Relay → Mission → Relay
with_mission r x = record { router = r.router; ports = r.ports; mission = x; memory = r.memory; routes = r.routes }

abbrev pub all_groups : Mission → List Group → Mission
all_groups m x = record { groups = x; paths = m.paths; queues = m.queues }

abbrev pub all_paths : Mission → List PathPlace → Mission
all_paths m x = record { groups = m.groups; paths = x; queues = m.queues }

abbrev pub all_queues : Mission → List Queue → Mission
all_queues m x = record { groups = m.groups; paths = m.paths; queues = x }

-- ---- updates: one place of a field anew
abbrev pub put_group : Mission → ℕ → Group → Mission
put_group m i x = all_groups m (set m.groups i x)

abbrev pub put_path : Mission → ℕ → PathPlace → Mission
put_path m i x = all_paths m (set m.paths i x)

abbrev pub put_queue : Mission → ℕ → Queue → Mission
put_queue m p x = all_queues m (set m.queues p x)

-- of a memory: the second, and one place
abbrev pub put_last : Memory → ℕ → Memory
put_last k x = record { last = x; pairs = k.pairs }

abbrev pub put_pair : Memory → ℕ → PairPlace → Memory
put_pair k i x = record { last = k.last; pairs = set k.pairs i x }

abbrev pub with_group : Relay → ℕ → Group → Relay
with_group r i x = with_mission r (put_group r.mission i x)

abbrev pub with_path : Relay → ℕ → PathPlace → Relay
with_path r i x = with_mission r (put_path r.mission i x)

abbrev pub with_queue : Relay → ℕ → Queue → Relay
with_queue r p x = with_mission r (put_queue r.mission p x)

abbrev pub with_counter : List ℕ → ℕ → ℕ → List ℕ
with_counter l i x = set l i x

-- n more at counter i, modulo 2^32
abbrev pub added : List ℕ → ℕ → ℕ → List ℕ
added l i n = with_counter l i ((counter_in l i + n) % 2 ^ 32)
