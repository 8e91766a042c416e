-- The ranges that include/harpjuniper.h promises, of a board and a mission and of what waits there: page 01, "Numbers that hold everywhere" and "Settings";
-- page 02, W-208, W-207 and W-203. Assumes nothing.
use Rattle.std.specs.Prelude.{ℕ, ◌^◌, ◌<◌, ◌≤◌, ◌≡◌, false, List, get_or}
use Rattle.numbers.specs.Words.{Words}
use Rattle.queue.specs.Queue.{entry_places}
use Rattle.queue.specs.declared.Entry.{Entry}
use Rattle.state.specs.Relay.{group_at, path_at, queue_at, pair_at, port_set_up}
use Rattle.state.specs.Seen.{owned_at}
use Rattle.history.specs.Seat.{Seat, relay_in}
use Rattle.history.specs.Line.{Copy}
use Rattle.history.specs.Calls.{
  Order,
  set_router,
  set_port,
  set_lifetime,
  set_drop,
  set_route,
  clear_route,
  OperatorCall,
  orders,
  views,
  Look,
  group_word,
  path_word,
  pair_word,
  last_second,
  search,
  counter,
  waiting,
  read,
  build,
  read_echo,
  build_request,
  build_reply,
  class,
  form,
  checksum,
  board_size,
  mission_size,
  MissionCall,
  sets,
  hears,
  echoes,
  takes,
  sweeps,
  looks,
  Call,
  operator,
  own,
}

-- no by 0 or yes by 1
abbrev pub Flag : ℕ → Type 0
Flag n = n < 2

pub record Flags (x : Seat) : Type 0 where
  -- "The node is a router or a host"
  pub router : Flag x.board.router
  -- echo requests are dropped or not
  pub drop : Flag x.board.drop
  -- a port is set up or not, and one of two missions'; a place is filled or empty, a path "delivered here" or not
  pub ports : (p : ℕ) → Flag (owned_at x.board p).port.ready × Flag (owned_at x.board p).mission
  pub groups : (i : ℕ) → Flag (group_at x.mission i).filled
  pub paths : (i : ℕ) → Flag (path_at x.mission i).filled × Flag (path_at x.mission i).here

pub record InRange (x : Seat) : Type 0 where
  pub flags : Flags x
  -- "32 entries per port queue", and none on a port that is not set up or not the mission's
  pub queues : (p : ℕ) → p < 8 → (queue_at x.mission p).count ≤ entry_places
  pub idle : (p : ℕ) → p < 8 → port_set_up (relay_in x) p ≡ false → (queue_at x.mission p).count ≡ 0
  -- the format of a timestamp has two bits (003, table 3-4), 0 where a place is free; and no pair is younger than the last accepted second
  pub formats : (i : ℕ) → (pair_at x.memory i).pair.format < 4
  pub seconds : (i : ℕ) → (pair_at x.memory i).second ≤ x.memory.last

-- ---- what C can pass: an octet has 8 bits, a slot 16, a second and a lifetime 32, and the words of an address or a time 64
abbrev pub Octets : List ℕ → Type 0
Octets s = (i : ℕ) → get_or s i 0 < 256

abbrev pub LookPassed : Look → Type 0
LookPassed (group_word i word) = Unit
LookPassed (path_word i word) = Unit
LookPassed (pair_word i word) = Unit
LookPassed last_second = Unit
LookPassed (search rs a) = Unit
LookPassed (counter i) = Unit
LookPassed (waiting p) = Unit
LookPassed (read octets) = Unit
LookPassed (build fields size output) = Words fields
LookPassed (read_echo octets) = Unit
LookPassed (build_request identifier sequence echoed output) = Unit
LookPassed (build_reply identifier sequence seen echoed output) = Unit
LookPassed (class a) = Unit
LookPassed (form p) = Unit
LookPassed (checksum octets) = Unit
LookPassed board_size = Unit
LookPassed mission_size = Unit

abbrev pub OwnPassed : MissionCall → Type 0
OwnPassed (sets s) = Unit
OwnPassed (hears rs port slot second octets output) = (slot.0 < 65536) × (Octets octets × (second < 2 ^ 32))
OwnPassed (echoes rs port slot octets output) = (slot.0 < 65536) × Octets octets
OwnPassed (takes port) = Unit
OwnPassed (sweeps second) = second < 2 ^ 32
OwnPassed (looks l) = LookPassed l

abbrev pub OrderPassed : Order → Type 0
OrderPassed (set_router x) = Unit
OrderPassed (set_port p address mask mtu mission) = Unit
OrderPassed (set_lifetime x) = x < 2 ^ 32
OrderPassed (set_drop x) = Unit
OrderPassed (set_route rs i prefix mask port availability capabilities mission) = Unit
OrderPassed (clear_route rs i) = Unit

abbrev pub OperatorPassed : OperatorCall → Type 0
OperatorPassed (orders o) = OrderPassed o
OperatorPassed (views v) = Unit

abbrev pub Passed : Call → Type 0
Passed (operator c) = OperatorPassed c
Passed (own c) = OwnPassed c

-- "Precedence 0 to 15", and a slot of 16 bits
abbrev pub EntryFits : Entry → Type 0
EntryFits e = (e.precedence < 16) × (e.slot.0 < 65536)

-- and what a copy came as, or was made as, are octets
abbrev pub CopyFits : Copy → Type 0
CopyFits c = EntryFits c.entry × Octets c.octets
