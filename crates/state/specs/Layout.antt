-- The words that C lends. The board's are 43: router 1; 8 ports of 5; lifetime 1; echo drop 1. A mission's are 732: its number 1; 16 groups of 4; 16 paths of 4; 8
-- queues of 33; 18 counters; the last second 1; 64 pairs of 5. Assumes nothing.
use Rattle.std.specs.Prelude.{ℕ, ◌+◌, ◌*◌, ◌/◌, ◌%◌, List, [], ◌∷◌, ◌++◌, map, take, get_or, replicate}
use Rattle.sets.specs.Limits.{port_count, group_places, path_places, pair_places, counter_count}
use Rattle.queue.specs.Queue.{entry_places}
use Rattle.queue.specs.declared.Entry.{Entry}
use Rattle.queue.specs.declared.Queue.{Queue}
use Rattle.records.specs.declared.OwnedPort.{OwnedPort}
use Rattle.records.specs.declared.Group.{Group}
use Rattle.records.specs.declared.PathPlace.{PathPlace}
use Rattle.records.specs.declared.PairPlace.{PairPlace}
use Rattle.words.specs.Cut.{cuts, joined, rows, flat}
use Rattle.state.specs.Seen.{Board, State}

-- ---- the words of one record, and the record of such words
abbrev pub owned_of : List ℕ → OwnedPort
owned_of l =
    record {
      port = record { ready = get_or l 0 0; address = record { 0 = get_or l 1 0 }; mask = record { 0 = get_or l 2 0 }; mtu = get_or l 3 0 };
      mission = get_or l 4 0;
    }

abbrev pub owned_words : OwnedPort → List ℕ
owned_words x = x.port.ready ∷ x.port.address.0 ∷ x.port.mask.0 ∷ x.port.mtu ∷ x.mission ∷ []

abbrev pub group_of : List ℕ → Group
group_of l = record { filled = get_or l 0 0; address = record { 0 = get_or l 1 0 }; send = get_or l 2 0; subscribed = get_or l 3 0 }

abbrev pub group_words : Group → List ℕ
group_words x = x.filled ∷ x.address.0 ∷ x.send ∷ x.subscribed ∷ []

abbrev pub path_of : List ℕ → PathPlace
path_of l = record { filled = get_or l 0 0; path = record { 0 = get_or l 1 0 }; send = get_or l 2 0; here = get_or l 3 0 }

abbrev pub path_words : PathPlace → List ℕ
path_words x = x.filled ∷ x.path.0 ∷ x.send ∷ x.here ∷ []

abbrev pub pair_place_of : List ℕ → PairPlace
pair_place_of l =
    record {
      pair = record { format = get_or l 0 0; source = record { 0 = get_or l 1 0 }; upper = get_or l 2 0; lower = get_or l 3 0 };
      second = get_or l 4 0;
    }

abbrev pub pair_words : PairPlace → List ℕ
pair_words x = x.pair.format ∷ x.pair.source.0 ∷ x.pair.upper ∷ x.pair.lower ∷ x.second ∷ []

-- an entry in one word: the slot below, the precedence above
abbrev pub entry_of_word : ℕ → Entry
entry_of_word w = record { slot = record { 0 = w % 65536 }; precedence = w / 65536 }

abbrev pub entry_word : Entry → ℕ
entry_word e = e.slot.0 + e.precedence * 65536

-- 32 entries, and then how many of them wait
unfoldable pub queue_of : List ℕ → Queue
queue_of l = record { entries = map entry_of_word (take entry_places l); count = get_or l entry_places 0 }

unfoldable pub queue_words : Queue → List ℕ
queue_words q = map entry_word q.entries ++ (q.count ∷ [])

-- ---- the board
abbrev pub board_sections : List ℕ
board_sections = 1 ∷ port_count * 5 ∷ 1 ∷ 1 ∷ []

-- the sections together
abbrev pub board_words : ℕ
board_words = 43

unfoldable pub board_of : List (List ℕ) → Board
board_of s =
    record {
      router = get_or (get_or s 0 []) 0 0;
      ports = rows owned_of 5 port_count (get_or s 1 []);
      lifetime = get_or (get_or s 2 []) 0 0;
      drop = get_or (get_or s 3 []) 0 0;
    }

unfoldable pub decode_board : List ℕ → Board
decode_board w = board_of (cuts board_sections w)

unfoldable pub encode_board : Board → List ℕ
encode_board b = joined ((b.router ∷ []) ∷ flat owned_words b.ports ∷ (b.lifetime ∷ []) ∷ (b.drop ∷ []) ∷ [])

-- the words of a fresh board
unfoldable pub fresh_board_words : List ℕ
fresh_board_words = replicate board_words 0

-- ---- a mission's state
abbrev pub sections : List ℕ
sections = 1 ∷ group_places * 4 ∷ path_places * 4 ∷ port_count * 33 ∷ counter_count ∷ 1 ∷ pair_places * 5 ∷ []

-- the sections together
abbrev pub mission_words : ℕ
mission_words = 732

unfoldable pub state_of : List (List ℕ) → State
state_of s =
    record {
      number = get_or (get_or s 0 []) 0 0;
      mission =
          record {
            groups = rows group_of 4 group_places (get_or s 1 []);
            paths = rows path_of 4 path_places (get_or s 2 []);
            queues = rows queue_of 33 port_count (get_or s 3 []);
          };
      memory = record { last = get_or (get_or s 5 []) 0 0; pairs = rows pair_place_of 5 pair_places (get_or s 6 []) };
      counters = get_or s 4 [];
    }

unfoldable pub decode : List ℕ → State
decode w = state_of (cuts sections w)

unfoldable pub encode : State → List ℕ
encode s =
    joined
    ((s.number ∷ [])
    ∷ flat group_words s.mission.groups
    ∷ flat path_words s.mission.paths
    ∷ flat queue_words s.mission.queues
    ∷ s.counters
    ∷ (s.memory.last ∷ [])
    ∷ flat pair_words s.memory.pairs
    ∷ [])

-- the words of a fresh mission of this number
unfoldable pub fresh_words : ℕ → List ℕ
fresh_words n = n ∷ replicate 731 0
