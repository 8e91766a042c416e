-- The copies that wait on a port, in the order in which they entered, from the calls alone: page 01, demand 3 ("Of the copies waiting on a port, the
-- highest precedence is handed out first, the oldest within one"). Each copy bears the number of the call that placed it, since slots may repeat, and
-- what it was: the address of the port that it came in by, the octets, how many of them were the header, and the header that receiving wrote for the port
-- (page 02, W-214). A reply is a copy too (W-203): it came in by no port, but answers what came in by one. Assumes nothing.
use Rattle.std.specs.Prelude.{ℕ, suc, ◌<◌, Bool, true, false, List, [], ◌∷◌, ◌++◌, length, drop, eqb}
use Rattle.checks.specs.Order.{pick}
use Rattle.sets.specs.Sets.{in_set}
use Rattle.address.specs.declared.Address.{Address}
use Rattle.address.specs.declared.Slot.{Slot}
use Rattle.header.specs.Build.{size_of}
use Rattle.next_leg.specs.Leg.{header_for}
use Rattle.queue.specs.Order.{InOrder}
use Rattle.queue.specs.Waits.{Chosen, nobody, one, chosen, rank_by}
use Rattle.queue.specs.Foretold.{how_many}
use Rattle.queue.specs.declared.Entry.{Entry}
use Rattle.state.specs.Relay.{port_in}
use Rattle.judge.specs.declared.Ending.{Ending}
use Rattle.taking.specs.Taking.{Taking}
use Rattle.checks.specs.Told.{Good, Refused}
use Rattle.relay.specs.Received.{new_entry}
use Rattle.replies.specs.Replied.{own_reply, wire_header}
use Rattle.replies.specs.declared.Answering.{Answering}
use Rattle.replies.specs.declared.sending.Replied.{Replied}
use Rattle.answering.specs.Echoed.{as_ending}
use Rattle.history.specs.Seat.{Seat, fresh_seat, relay_in, heard_by, answering_by, replied_by}
use Rattle.history.specs.Calls.{MissionCall, sets, hears, echoes, takes, sweeps, looks, Call, operator, own}
use Rattle.history.specs.Outcome.{Out, nothing, from, outcome, next}

pub record Copy : Type 0 where
  -- which call placed it: the first of a history is 0
  pub turn : ℕ
  pub arrival : Address
  pub octets : List ℕ
  pub size : ℕ
  pub header : List ℕ
  pub entry : Entry

abbrev pub entry_of : Copy → Entry
entry_of c = c.entry

-- the copy of a datagram that port p takes, heard in turn n
abbrev pub copy_of : ℕ → ℕ → Seat → ℕ → Slot → List ℕ → Ending → Copy
copy_of p n x port slot octets e =
    record {
      turn = n;
      arrival = (port_in (relay_in x) port).address;
      octets = octets;
      size = e.size;
      header = header_for e.legs octets p;
      entry = new_entry slot e;
    }

-- the copy of a reply, made in turn n to octets that came in by the port: the octets as it is made, and the header as it goes
abbrev pub reply_copy : ℕ → Seat → ℕ → Slot → List ℕ → Answering → Replied → Copy
reply_copy n x port slot octets a e =
    record {
      turn = n;
      arrival = (port_in (relay_in x) port).address;
      octets = own_reply a octets;
      size = size_of a.fields;
      header = wire_header a e;
      entry = new_entry slot (as_ending e);
    }

-- the octets that go out by the port: the header that receiving wrote, and the data behind it as they came
abbrev pub sent_of : Copy → List ℕ
sent_of c = c.header ++ drop c.size c.octets

-- ---- one port
module _ (p : ℕ) where
  -- the copies that it takes of a call: one or none
  abbrev pub taken_own : ℕ → Seat → MissionCall → List Copy
  taken_own n x (sets s) = []
  taken_own n x (hears rs port slot second octets output) =
      pick (in_set p (heard_by x rs port second octets (length output)).ruling.took)
      (copy_of p n x port slot octets (heard_by x rs port second octets (length output)) ∷ []) []
  taken_own n x (echoes rs port slot octets output) =
      pick (in_set p (replied_by x rs port octets (length output)).ruling.took)
      (reply_copy n x port slot octets (answering_by x rs port octets (length output)) (replied_by x rs port octets (length output)) ∷ []) []
  taken_own n x (takes port) = []
  taken_own n x (sweeps second) = []
  taken_own n x (looks l) = []

  abbrev pub taken_by : ℕ → Seat → Call → List Copy
  taken_by n x (operator c) = []
  taken_by n x (own c) = taken_own n x c

  -- those that it hands out, of those that wait: the oldest of the highest precedence, where it hands out at all
  abbrev pub handed_by : Out → Chosen Copy → List Copy
  handed_by nothing c = []
  handed_by (from q e) nobody = []
  handed_by (from q e) (one x others) = pick (eqb q p) (x ∷ []) []

  abbrev pub left_by : Out → List Copy → Chosen Copy → List Copy
  left_by nothing line c = line
  left_by (from q e) line nobody = line
  left_by (from q e) line (one x others) = pick (eqb q p) others line

  -- ---- over the calls: those that wait, all that were taken, and all that were handed out
  abbrev pub line_by : ℕ → Seat → Call → List Copy → List Copy
  line_by n x c line = left_by (outcome x c).out line (chosen (rank_by entry_of) line) ++ taken_by n x c

  abbrev pub line_from : ℕ → Seat → List Copy → List Call → List Copy
  line_from n x line [] = line
  line_from n x line (c ∷ cs) = line_from (suc n) (next x c) (line_by n x c line) cs

  abbrev pub taken_from : ℕ → Seat → List Call → List Copy
  taken_from n x [] = []
  taken_from n x (c ∷ cs) = taken_by n x c ++ taken_from (suc n) (next x c) cs

  abbrev pub handed_from : ℕ → Seat → List Copy → List Call → List Copy
  handed_from n x line [] = []
  handed_from n x line (c ∷ cs) =
      handed_by (outcome x c).out (chosen (rank_by entry_of) line) ++ handed_from (suc n) (next x c) (line_by n x c line) cs

  -- ---- after a history of mission m
  abbrev pub line_at : ℕ → List Call → List Copy
  line_at m cs = line_from 0 (fresh_seat m) [] cs

  abbrev pub taken_at : ℕ → List Call → List Copy
  taken_at m cs = taken_from 0 (fresh_seat m) cs

  abbrev pub handed_at : ℕ → List Call → List Copy
  handed_at m cs = handed_from 0 (fresh_seat m) [] cs

-- "Taking from a port: 16 if not set up, 18 if nothing waits, else the first entry, removed": by whether the port is set up, and whom the line gives
abbrev pub taking_of : Bool → Chosen Copy → Taking
taking_of false c = Refused 16
taking_of true nobody = Refused 18
taking_of true (one x others) = Good x.entry

-- how often the copy of turn n is in a list
abbrev pub times : ℕ → List Copy → ℕ
times n = how_many (λ (c : Copy). eqb c.turn n)

-- in the order of entering: each was placed by an earlier call than all behind it
abbrev pub InTurn : List Copy → Type 0
InTurn = InOrder (λ (c d : Copy). c.turn < d.turn)
