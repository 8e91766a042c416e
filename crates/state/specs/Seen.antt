-- What is lent: the operator's board, and a mission's own state; and page 01's relay as a mission sees it (page 02, W-208: "page 01 and W-206 see only
-- these and its routes"). The third thing lent, the list of routes, is an argument of each call and no state; what a mission sees of it is added
-- where its records are judged (crate listing). Assumes nothing.
use Rattle.std.specs.Prelude.{ℕ, List, [], map, get_or, set, replicate}
use Rattle.sets.specs.Limits.{port_count, group_places, path_places, pair_places, counter_count}
use Rattle.queue.specs.Queue.{fresh as fresh_queue}
use Rattle.records.specs.declared.Port.{Port}
use Rattle.records.specs.declared.OwnedPort.{OwnedPort}
use Rattle.records.specs.Fresh.{fresh_owned, fresh_group, fresh_path, fresh_pair}
use Rattle.records.specs.Owned.{seen_port}
use Rattle.state.specs.Relay.{Mission, Memory, Relay}

-- ---- the board: "Only the operator writes ports, routes, lifetime, echo drop and router settings"; `router` is 0 for a host, and `drop` where echo requests are answered
pub record Board : Type 0 where
  pub router : ℕ
  pub ports : List OwnedPort
  pub lifetime : ℕ
  pub drop : ℕ

-- page 01, "Settings": no port, a host; page 02, W-207: "the lifetime set (0 at first)"; W-203: "A setting that drops all requests
-- defaults to off"
unfoldable pub fresh_board : Board
fresh_board = record { router = 0; ports = replicate port_count fresh_owned; lifetime = 0; drop = 0 }

abbrev pub owned_at : Board → ℕ → OwnedPort
owned_at b p = get_or b.ports p fresh_owned

abbrev pub put_router : Board → ℕ → Board
put_router b x = record { router = x; ports = b.ports; lifetime = b.lifetime; drop = b.drop }

abbrev pub put_owned : Board → ℕ → OwnedPort → Board
put_owned b p x = record { router = b.router; ports = set b.ports p x; lifetime = b.lifetime; drop = b.drop }

abbrev pub put_lifetime : Board → ℕ → Board
put_lifetime b x = record { router = b.router; ports = b.ports; lifetime = x; drop = b.drop }

abbrev pub put_drop : Board → ℕ → Board
put_drop b x = record { router = b.router; ports = b.ports; lifetime = b.lifetime; drop = x }

-- ---- a mission's own state: its number, what the rules read and write of it, what it remembers, and its counters
pub record State : Type 0 where
  pub number : ℕ
  pub mission : Mission
  pub memory : Memory
  pub counters : List ℕ

-- page 01, "Settings": all places empty, queues empty
unfoldable pub fresh_mission : Mission
fresh_mission =
    record {
      groups = replicate group_places fresh_group;
      paths = replicate path_places fresh_path;
      queues = replicate port_count fresh_queue;
    }

-- page 02, W-207: no pair is held, and the last second is "0 at first"
unfoldable pub fresh_memory : Memory
fresh_memory = record { last = 0; pairs = replicate pair_places fresh_pair }

-- and counters 0
unfoldable pub fresh_state : ℕ → State
fresh_state n = record { number = n; mission = fresh_mission; memory = fresh_memory; counters = replicate counter_count 0 }

-- ---- what a mission sees
-- the ports: another's is not set up for it
unfoldable pub ports_seen : ℕ → Board → List Port
ports_seen n b = map (seen_port n) b.ports

-- and all ports, whosever they are
unfoldable pub all_ports : Board → List Port
all_ports b = map (λ (x : OwnedPort). x.port) b.ports

-- the relay of a call that is lent no list
abbrev pub seated : Board → State → Relay
seated b s = record { router = b.router; ports = ports_seen s.number b; mission = s.mission; memory = s.memory; routes = [] }

-- ---- what a call leaves of a mission's state
abbrev pub on_mission : (Mission → Mission) → State → State
on_mission f s = record { number = s.number; mission = f s.mission; memory = s.memory; counters = s.counters }

abbrev pub on_memory : (Memory → Memory) → State → State
on_memory f s = record { number = s.number; mission = s.mission; memory = f s.memory; counters = s.counters }

abbrev pub on_counters : (List ℕ → List ℕ) → State → State
on_counters f s = record { number = s.number; mission = s.mission; memory = s.memory; counters = f s.counters }

-- where the call is one of page 01's on the relay that the mission sees
abbrev pub on_seated : Board → (Relay → Relay) → State → State
on_seated b f s = record { number = s.number; mission = (f (seated b s)).mission; memory = s.memory; counters = s.counters }
