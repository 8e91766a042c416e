-- After any history what the board and a mission hold is in the ranges that include/harpjuniper.h promises: `in_range` of both, `idle_line` and
-- `waiting_fits` of the copies that wait, `taken_fits` of what a take hands out, `seconds_fit` of the words that seconds and the lifetime are kept in. The
-- last three ask that the history is one that C can make: precedence is read from an octet. Assumes nothing.
use native.Mathlib.Omega.{arith}
use Prim.Native.Nat.{ℕ, zero, suc, ◌<◌, ◌≤◌, ◌%◌, ◌^◌}
use mathlib.Core.Path.{◌≡◌, refl, sym, ap, ◌∙◌}
use mathlib.Core.Bool.{Bool, true, false}
use mathlib.Core.List.{List, [], ◌∷◌}
use lib.Dec.{eqb}
use lib.ListN.{length, get_or, set, drop, replicate}
use native.Mathlib.Nat.{div-eq_of_lt, lt_of_lt_of_le, lt_of_not-le}
use native.Mathlib.Decide.{dec_le}
use mathlib.Core.Logic.{by_cases}
use lib.Pow.{pow_mono}
use borrow.Author.Tests.{ltb-true, ltb-false}
use Rattle.std.specs.Prelude.{Option, Some, None}
use Rattle.checks.specs.Order.{pick, first_of}
use Rattle.checks.proofs.Bools.{true_false, refuted, and_true, not-false}
use Rattle.checks.proofs.Laws.{either}
use Rattle.sets.specs.Sets.{in_set}
use Rattle.header.specs.Build.{header_octets}
use Rattle.header.specs.Range.{QosFits}
use Rattle.header.specs.Read.{header_of, read_of, Read}
use Rattle.header.specs.declared.Header.{Header}
use Rattle.header.specs.declared.Qos.{Qos}
use Rattle.checks.specs.Told.{Good, Refused}
use Rattle.header.proofs.Answers.{read_in_range}
use Rattle.header.proofs.BuiltLaws.{append_small, header_small}
use Rattle.echo.specs.Message.{message_octets}
use Rattle.meaning.specs.Arrival.{arrival_checks}
use Rattle.meaning.specs.Asked.{precedence_asked}
use Rattle.settings.proofs.Values.{flag_taken}
use Rattle.queue.specs.Order.{Each}
use Rattle.queue.specs.Waits.{Chosen, nobody, one, chosen, rank_by}
use Rattle.queue.specs.declared.Entry.{Entry}
use Rattle.queue.proofs.Waits.{EachOf, chosen_each, waits_count}
use Rattle.records.specs.Fresh.{fresh_owned, fresh_group, fresh_path, fresh_pair}
use Rattle.records.specs.Owned.{is_mission}
use Rattle.records.specs.declared.OwnedPort.{OwnedPort}
use Rattle.records.specs.declared.Group.{Group}
use Rattle.records.specs.declared.PathPlace.{PathPlace}
use Rattle.records.specs.declared.Pair.{Pair}
use Rattle.records.specs.declared.PairPlace.{PairPlace}
use Rattle.routes.specs.declared.Record.{Record}
use Rattle.state.specs.Relay.{Mission, Memory, Relay, port_in, group_at, path_at, pair_at, put_group, put_path, put_last, put_pair, port_set_up}
use Rattle.state.specs.Seen.{Board, fresh_board, fresh_mission, fresh_memory, owned_at}
use Rattle.refusals.specs.Lists.{port_checks, path_checks}
use Rattle.refusals.proofs.Chains.{decided}
use Rattle.adjust.specs.Settled.{new_port}
use Rattle.taking.specs.Taking.{take_outcome}
use Rattle.floods.specs.Sweep.{is_old, is_past, swept, sweep_checks, swept_memory}
use Rattle.floods.proofs.Swept.{place_swept}
use Rattle.judge.specs.Ending.{refused_by, call_checks, ruled_ending, header_ending, octets_ending, arrival_at, ending_of}
use Rattle.judge.specs.declared.Ending.{Ending}
use Rattle.replies.specs.Replied.{echoed_of, message_size, own_reply}
use Rattle.replies.specs.declared.Answering.{Answering}
use Rattle.replies.proofs.ReadBack.{message_small, take_small, drop_small}
use Rattle.answering.specs.Echoed.{as_ending}
use Rattle.history.specs.Seat.{Seat, fresh_seat, relay_in, relay_with, heard_by, answering_by, replied_by}
use Rattle.history.specs.Calls.{
  Order,
  set_router,
  set_port,
  set_lifetime,
  set_drop,
  set_route,
  clear_route,
  orders,
  views,
  Setting,
  set_group,
  set_path,
  clear_group,
  clear_path,
  MissionCall,
  sets,
  hears,
  echoes,
  takes,
  sweeps,
  looks,
  Call,
  operator,
  own,
  order_checks,
  board_written,
  checks_of,
  written,
}
use Rattle.history.specs.Outcome.{Out, nothing, from, next_mission, outcome, next, run_from, seat_after}
use Rattle.history.specs.Line.{Copy, entry_of, copy_of, reply_copy, taken_by, left_by, line_by, line_from, line_at, taking_of}
use Rattle.history.specs.Ranges.{Flag, InRange, Octets, OrderPassed, Passed, EntryFits, CopyFits}
use Rattle.history.proofs.Settled.{order_keeps, settle_keeps}
use Rattle.history.proofs.Heard.{heard_so, hearing_so}
use Rattle.history.proofs.Remembered.{remembering_so, memory_so}
use Rattle.history.proofs.Ports.{set_up_stays}
use Rattle.history.proofs.Reach.{settings_of, received_settings, taken_settings}
use Rattle.history.proofs.Small.{sets_small}
use Rattle.history.proofs.Replying.{reply_precedence_so, reply_small, reply_set_up}
use Rattle.history.proofs.Line.{line_each, queue_waits}
use Rattle.history.proofs.Takes.{take_is}
use Rattle.page.specs.Table.{has_room}
use Rattle.survey.proofs.Bits.{in_none}
use Rattle.page.proofs.Answered.{made_tells}
use Rattle.page.proofs.Exactly.{took_exactly}
use Rattle.page.proofs.Sought.{granted_set_up}

-- ---- what holds of every place of a list, and of what is written there, holds of every place then
module _ {A : Type 0} (d : A) where
  every_place : (P : ℕ → A → Type 0) (l : List A) (i : ℕ) (x : A) → P i x → ((j : ℕ) → P j (get_or l j d)) → (j : ℕ) → P j (get_or (set l i x) j d)
  every_place P [] i x new old j = old j
  every_place P (y ∷ l) zero x new old zero = new
  every_place P (y ∷ l) zero x new old (suc j) = old (suc j)
  every_place P (y ∷ l) (suc i) x new old zero = old zero
  every_place P (y ∷ l) (suc i) x new old (suc j) = every_place (λ (k : ℕ). P (suc k)) l i x new (λ k. old (suc k)) j

  all_fresh : (P : A → Type 0) → P d → (n j : ℕ) → P (get_or (replicate n d) j d)
  all_fresh P h zero j = h
  all_fresh P h (suc n) zero = h
  all_fresh P h (suc n) (suc j) = all_fresh P h n j

-- ---- the flags of the board
pub record BoardFlags (b : Board) : Type 0 where
  pub router : Flag b.router
  pub drop : Flag b.drop
  pub ports : (p : ℕ) → Flag (owned_at b p).port.ready × Flag (owned_at b p).mission

order_flags : (b : Board) → BoardFlags b → (o : Order) → first_of (order_checks b o) ≡ 0 → BoardFlags (board_written b o)
order_flags b f (set_router x) taken =
    record { router = (flag_taken x).0 ((decided (order_checks b (set_router x)) refl).0.0 taken).0; drop = f.drop; ports = f.ports }
order_flags b f (set_port p address mask mtu mission) taken =
    let mine = not-false (is_mission mission) ((decided (port_checks b p address mask mtu mission) refl).0.0 taken).1.1.1.1.0 in
    record {
      router = f.router;
      drop = f.drop;
      ports =
          every_place fresh_owned (λ (j : ℕ) (x : OwnedPort). Flag x.port.ready × Flag x.mission) b.ports p (new_port address mask mtu mission)
          (omega arith, ltb-true mission 2 mine) f.ports;
    }
order_flags b f (set_lifetime x) taken = record { router = f.router; drop = f.drop; ports = f.ports }
order_flags b f (set_drop x) taken =
    record { router = f.router; drop = (flag_taken x).0 ((decided (order_checks b (set_drop x)) refl).0.0 taken).0; ports = f.ports }
order_flags b f (set_route rs i prefix mask port availability capabilities mission) taken = f
order_flags b f (clear_route rs i) taken = f

next_board_lem : (seat : Seat) (c : Call) → BoardFlags seat.board → BoardFlags (next seat c).board
next_board_lem seat (operator (orders o)) f = order_keeps BoardFlags seat.board o f (order_flags seat.board f o)
next_board_lem seat (operator (views v)) f = f
next_board_lem seat (own c) f = f

-- ---- and of a mission
pub record OwnFlags (m : Mission) : Type 0 where
  pub groups : (i : ℕ) → Flag (group_at m i).filled
  pub paths : (i : ℕ) → Flag (path_at m i).filled × Flag (path_at m i).here

module _ (m : Mission) (f : OwnFlags m) where
  group_flags : (i : ℕ) (x : Group) → Flag x.filled → OwnFlags (put_group m i x)
  group_flags i x new =
      record { groups = every_place fresh_group (λ (j : ℕ) (y : Group). Flag y.filled) m.groups i x new f.groups; paths = f.paths }

  path_flags : (i : ℕ) (x : PathPlace) → Flag x.filled × Flag x.here → OwnFlags (put_path m i x)
  path_flags i x new =
      record {
        groups = f.groups;
        paths = every_place fresh_path (λ (j : ℕ) (y : PathPlace). Flag y.filled × Flag y.here) m.paths i x new f.paths;
      }

  -- a datagram and a take leave all settings
  same_flags : (n : Mission) → settings_of n ≡ settings_of m → OwnFlags n
  same_flags n e =
      record {
        groups = λ i. rw (ap (λ x. get_or x.0 i fresh_group) e) (f.groups i);
        paths = λ i. rw (ap (λ x. get_or x.1 i fresh_path) e) (f.paths i);
      }

written_flags : (r : Relay) → OwnFlags r.mission → (s : Setting) → first_of (checks_of r s) ≡ 0 → OwnFlags (written r s).mission
written_flags r f (set_group i address send subscribed) taken = group_flags r.mission f i _ (omega arith)
written_flags r f (set_path i path send here) taken =
    path_flags r.mission f i _ (omega arith, (flag_taken here).0 ((decided (path_checks r i path send here) refl).0.0 taken).1.1.1.0)
written_flags r f (clear_group i) taken = group_flags r.mission f i _ (omega arith)
written_flags r f (clear_path i) taken = path_flags r.mission f i _ (omega arith, omega arith)

own_flags : (seat : Seat) (c : MissionCall) → OwnFlags seat.mission → OwnFlags (next_mission seat c)
own_flags seat (sets s) f = settle_keeps (λ (x : Relay). OwnFlags x.mission) (relay_in seat) s f (written_flags (relay_in seat) f s)
own_flags seat (hears rs port slot second octets output) f =
    same_flags seat.mission f _ (received_settings (relay_in seat) slot (heard_by seat rs port second octets (length output)))
own_flags seat (echoes rs port slot octets output) f =
    same_flags seat.mission f _ (received_settings (relay_in seat) slot (as_ending (replied_by seat rs port octets (length output))))
own_flags seat (takes port) f = same_flags seat.mission f _ (taken_settings (relay_in seat) port)
own_flags seat (sweeps second) f = f
own_flags seat (looks l) f = f

next_own : (seat : Seat) (c : Call) → OwnFlags seat.mission → OwnFlags (next seat c).mission
next_own seat (operator c) f = f
next_own seat (own c) f = own_flags seat c f

-- ---- over all calls
all_board : (cs : List Call) (seat : Seat) → BoardFlags seat.board → BoardFlags (run_from seat cs).board
all_board [] seat f = f
all_board (c ∷ cs) seat f = all_board cs (next seat c) (next_board_lem seat c f)

all_own : (cs : List Call) (seat : Seat) → OwnFlags seat.mission → OwnFlags (run_from seat cs).mission
all_own [] seat f = f
all_own (c ∷ cs) seat f = all_own cs (next seat c) (next_own seat c f)

fresh_board_lem : BoardFlags fresh_board
unfolding fresh_board
fresh_board_lem =
    record {
      router = omega arith;
      drop = omega arith;
      ports = all_fresh fresh_owned (λ (x : OwnedPort). Flag x.port.ready × Flag x.mission) (omega arith, omega arith) 8;
    }

fresh_own : OwnFlags fresh_mission
unfolding fresh_mission
fresh_own =
    record {
      groups = all_fresh fresh_group (λ (x : Group). Flag x.filled) (omega arith) 16;
      paths = all_fresh fresh_path (λ (x : PathPlace). Flag x.filled × Flag x.here) (omega arith, omega arith) 16;
    }

-- ---- what is remembered
pub record MemoryFits (k : Memory) : Type 0 where
  pub formats : (i : ℕ) → (pair_at k i).pair.format < 4
  pub seconds : (i : ℕ) → (pair_at k i).second ≤ k.last

module _ (k : Memory) (f : MemoryFits k) (second : ℕ) (now : is_past k second ≡ false) where
  -- no pair is younger than a second that is accepted
  not_younger : (i : ℕ) → (pair_at k i).second ≤ second
  not_younger i = omega (arith, f.seconds i, ltb-false second k.last now)

  accepted_fits : MemoryFits (put_last k second)
  accepted_fits = record { formats = f.formats; seconds = not_younger }

  kept_fits : (place : ℕ) (q : Pair) → q.format < 4 → MemoryFits (put_pair (put_last k second) place (record { pair = q; second = second }))
  kept_fits place q small =
      record {
        formats = every_place fresh_pair (λ (j : ℕ) (x : PairPlace). x.pair.format < 4) k.pairs place _ small f.formats;
        seconds = every_place fresh_pair (λ (j : ℕ) (x : PairPlace). x.second ≤ second) k.pairs place _ (omega arith) not_younger;
      }

  swept_fits : (lifetime : ℕ) → MemoryFits (swept lifetime second k)
  unfolding swept
  swept_fits lifetime =
      record {
        formats =
            λ i.
            rw (place_swept lifetime second k i)
            (either (λ (x : PairPlace). x.pair.format < 4) (is_old lifetime second (pair_at k i)) (omega arith) (f.formats i));
        seconds =
            λ i.
            rw (place_swept lifetime second k i)
            (either (λ (x : PairPlace). x.second ≤ second) (is_old lifetime second (pair_at k i)) (omega arith) (not_younger i));
      }

next_memory_lem : (seat : Seat) (c : Call) → MemoryFits seat.memory → MemoryFits (next seat c).memory
next_memory_lem seat c f =
    memory_so MemoryFits seat f (accepted_fits seat.memory f)
    (λ second place q now keeping. kept_fits seat.memory f second now place q keeping.format)
    (λ second now. swept_fits seat.memory f second now seat.board.lifetime) c

all_memory : (cs : List Call) (seat : Seat) → MemoryFits seat.memory → MemoryFits (run_from seat cs).memory
all_memory [] seat f = f
all_memory (c ∷ cs) seat f = all_memory cs (next seat c) (next_memory_lem seat c f)

fresh_memory_lem : MemoryFits fresh_memory
unfolding fresh_memory
fresh_memory_lem =
    record {
      formats = all_fresh fresh_pair (λ (x : PairPlace). x.pair.format < 4) (omega arith) 64;
      seconds = all_fresh fresh_pair (λ (x : PairPlace). x.second ≤ 0) (omega arith) 64;
    }

-- ---- what holds of every refusal, and of the ending of every header that is read, holds of the ending
module _ (P : Ending → Type 0) (none : (n : ℕ) → P (refused_by n)) (r : Relay) (port second : ℕ) (octets : List ℕ)
    (ruled : (h : Header) → read_of octets ≡ Good h → P (ruled_ending r (arrival_at r port) h)) where
  octets_so : (x : Read) → read_of octets ≡ x → P (octets_ending r (arrival_at r port) x)
  unfolding header_ending
  octets_so (Good h) is =
      let n = first_of (arrival_checks (port_in r port).address h.fields) in
      either P (eqb n 0) (ruled h is) (none n)
  octets_so (Refused n) is = none n

  ending_so : (room : ℕ) → P (ending_of r port second octets room)
  unfolding ending_of
  ending_so room =
      let n = first_of (call_checks r port second room) in
      either P (eqb n 0) (octets_so (read_of octets) refl) (none n)

-- ---- a port that takes an entry is one of the eight, and set up
module _ (seat : Seat) (rs : List Record) (p port second : ℕ) (octets : List ℕ) (room : ℕ) where
  none_beyond : 8 ≤ p → in_set p (heard_by seat rs port second octets room).ruling.took ≡ false
  none_beyond h =
      ap (λ (n : ℕ). eqb (n % 2) 1) (div-eq_of_lt (lt_of_lt_of_le (sets_small seat rs port second octets room).took (pow_mono {i = 8} {j = p} h)))

  page_up : p < 8 → in_set p (ending_of (relay_with seat rs) port second octets room).ruling.took ≡ true → port_set_up (relay_in seat) p ≡ true
  page_up inside took =
      let r = relay_with seat rs in
      granted_set_up r port second octets room p inside
      (and_true (in_set p (ending_of r port second octets room).ruling.granted) (has_room r p) (sym (took_exactly r port second octets room p inside) ∙ took)).0

  ending_up : in_set p (heard_by seat rs port second octets room).ruling.took ≡ true → port_set_up (relay_in seat) p ≡ true
  ending_up took =
      by_cases (dec_le 8 p)
      (λ h. true_false (sym took ∙ none_beyond h))
      (λ h.
      heard_so seat rs port second octets room (λ (e : Ending). in_set p e.ruling.took ≡ true → port_set_up (relay_in seat) p ≡ true)
      (λ z. true_false (sym z ∙ in_none p)) (page_up (lt_of_not-le h)) took)

module _ (seat : Seat) (rs : List Record) (p port : ℕ) (octets : List ℕ) (room : ℕ) where
  no_reply_beyond : 8 ≤ p → in_set p (replied_by seat rs port octets room).ruling.took ≡ false
  no_reply_beyond h =
      ap (λ (n : ℕ). eqb (n % 2) 1) (div-eq_of_lt (lt_of_lt_of_le (reply_small seat rs port octets room).took (pow_mono {i = 8} {j = p} h)))

  reply_up : in_set p (replied_by seat rs port octets room).ruling.took ≡ true → port_set_up (relay_in seat) p ≡ true
  reply_up took =
      by_cases (dec_le 8 p)
      (λ h. true_false (sym took ∙ no_reply_beyond h))
      (λ h. reply_set_up seat rs port octets room p (lt_of_not-le h) took)

-- ---- nothing waits on a port that is not set up, or not the mission's
module _ (p : ℕ) where
  abbrev pub NoneWaits : Seat → List Copy → Type 0
  NoneWaits seat line = port_set_up (relay_in seat) p ≡ false → line ≡ []

  enters_none : (seat : Seat) (n : ℕ) (c : Call) → port_set_up (relay_in seat) p ≡ false → taken_by p n seat c ≡ []
  enters_none seat n (operator c) h = refl
  enters_none seat n (own (sets s)) h = refl
  enters_none seat n (own (hears rs port slot second octets output)) h =
      let e = heard_by seat rs port second octets (length output) in
      ap (λ (t : Bool). pick t (copy_of p n seat port slot octets e ∷ []) [])
      (refuted (in_set p e.ruling.took) (λ t. true_false (sym (ending_up seat rs p port second octets (length output) t) ∙ h)))
  enters_none seat n (own (echoes rs port slot octets output)) h =
      let e = replied_by seat rs port octets (length output) in
      ap (λ (t : Bool). pick t (reply_copy n seat port slot octets (answering_by seat rs port octets (length output)) e ∷ []) [])
      (refuted (in_set p e.ruling.took) (λ t. true_false (sym (reply_up seat rs p port octets (length output) t) ∙ h)))
  enters_none seat n (own (takes port)) h = refl
  enters_none seat n (own (sweeps second)) h = refl
  enters_none seat n (own (looks l)) h = refl

  leaves_none : (o : Out) → left_by p o [] (chosen (rank_by entry_of) []) ≡ []
  unfolding chosen
  leaves_none nothing = refl
  leaves_none (from q e) = refl

  -- nothing comes there by a call
  pub none_comes : (seat : Seat) (n : ℕ) (c : Call) (line : List Copy) → NoneWaits seat line → NoneWaits seat (line_by p n seat c line)
  none_comes seat n c line idle h = rw (idle h, enters_none seat n c h, leaves_none (outcome seat c).out)

  -- the ports that are set up only grow
  next_before : (seat : Seat) (c : Call) → port_set_up (relay_in (next seat c)) p ≡ false → port_set_up (relay_in seat) p ≡ false
  next_before seat c h = refuted (port_set_up (relay_in seat) p) (λ up. true_false (sym (set_up_stays seat c p up) ∙ h))

  pub next_none : (seat : Seat) (n : ℕ) (c : Call) (line : List Copy) → NoneWaits seat line → NoneWaits (next seat c) (line_by p n seat c line)
  next_none seat n c line idle h = none_comes seat n c line idle (next_before seat c h)

  all_none : (cs : List Call) (n : ℕ) (seat : Seat) (line : List Copy) → NoneWaits seat line → NoneWaits (run_from seat cs) (line_from p n seat line cs)
  all_none [] n seat line idle = idle
  all_none (c ∷ cs) n seat line idle = all_none cs (suc n) (next seat c) (line_by p n seat c line) (next_none seat n c line idle)

  -- After any history nothing waits on a port that is over 7, not set up or not the mission's.
  pub idle_line : (m : ℕ) (cs : List Call) → port_set_up (relay_in (seat_after m cs)) p ≡ false → line_at p m cs ≡ []
  idle_line m cs = all_none cs 0 (fresh_seat m) [] (λ h. refl)

-- After any history the board and the mission are in their ranges.
pub in_range : (m : ℕ) (cs : List Call) → InRange (seat_after m cs)
in_range m cs =
    let b = all_board cs (fresh_seat m) fresh_board_lem in
    let o = all_own cs (fresh_seat m) fresh_own in
    let k = all_memory cs (fresh_seat m) fresh_memory_lem in
    record {
      flags = record { router = b.router; drop = b.drop; ports = b.ports; groups = o.groups; paths = o.paths };
      queues = λ p inside. (queue_waits p inside m cs).sound.bounded.fits;
      idle = λ p inside h. waits_count entry_of (queue_waits p inside m cs) ∙ ap length (idle_line p m cs h);
      formats = k.formats;
      seconds = k.seconds;
    }

-- ---- what waits fits
asked_fits : (q : Option Qos) → QosFits q → precedence_asked q < 16
asked_fits None h = omega arith
asked_fits (Some q) h = h.0

ending_fits : (seat : Seat) (rs : List Record) (port second : ℕ) (octets : List ℕ) (room : ℕ) → Octets octets → (heard_by seat rs port second octets room).precedence < 16
ending_fits seat rs port second octets room small =
    heard_so seat rs port second octets room (λ (e : Ending). e.precedence < 16) (omega arith)
    (ending_so (λ (e : Ending). e.precedence < 16) (λ n. omega arith) (relay_with seat rs) port second octets
    (λ h is. asked_fits h.fields.qos (read_in_range octets h small is).qos) room)

-- a reply has the request's precedence
reply_precedence : (seat : Seat) (rs : List Record) (port : ℕ) (octets : List ℕ) (room : ℕ) → Octets octets → (replied_by seat rs port octets room).precedence < 16
reply_precedence seat rs port octets room small =
    reply_precedence_so seat rs port octets room (λ (n : ℕ). n < 16) (omega arith)
    (λ made.
    let told = made_tells (relay_with seat rs) seat.number seat.board.drop port octets room made in
    rw told.1.precedence (asked_fits (header_of octets).fields.qos (read_in_range octets (header_of octets) small told.0.reads).qos))

-- what it is made as are octets
own_octets : (a : Answering) (octets : List ℕ) → Octets octets → Octets (own_reply a octets)
own_octets a octets small =
    append_small (header_octets a.fields (message_size a)) (message_octets a.message (echoed_of a octets)) (header_small a.fields (message_size a))
    (message_small a.message (echoed_of a octets) (take_small a.count (drop a.from octets) (drop_small a.from octets small)))

module _ (p : ℕ) where
  enters_fits : (seat : Seat) (n : ℕ) (c : Call) → Passed c → Each CopyFits (taken_by p n seat c)
  enters_fits seat n (operator c) passed = tt
  enters_fits seat n (own (sets s)) passed = tt
  enters_fits seat n (own (hears rs port slot second octets output)) passed =
      let e = heard_by seat rs port second octets (length output) in
      either (Each CopyFits) (in_set p e.ruling.took) (((ending_fits seat rs port second octets (length output) passed.1.0, passed.0), passed.1.0), tt) tt
  enters_fits seat n (own (echoes rs port slot octets output)) passed =
      let e = replied_by seat rs port octets (length output) in
      let a = answering_by seat rs port octets (length output) in
      either (Each CopyFits) (in_set p e.ruling.took)
      (((reply_precedence seat rs port octets (length output) passed.1, passed.0), own_octets a octets passed.1), tt) tt
  enters_fits seat n (own (takes port)) passed = tt
  enters_fits seat n (own (sweeps second)) passed = tt
  enters_fits seat n (own (looks l)) passed = tt

  all_fit : (cs : List Call) (n : ℕ) (seat : Seat) (line : List Copy) → Each Passed cs → Each CopyFits line → Each CopyFits (line_from p n seat line cs)
  all_fit [] n seat line passed all = all
  all_fit (c ∷ cs) n seat line passed all =
      all_fit cs (suc n) (next seat c) (line_by p n seat c line) passed.1
      (line_each p CopyFits n seat c line all (enters_fits seat n c passed.0))

  -- After any history that C can make each copy that waits has a precedence of 0 to 15 and a slot of 16 bits, and came as octets, ..
  pub waiting_fits : (m : ℕ) (cs : List Call) → Each Passed cs → Each CopyFits (line_at p m cs)
  waiting_fits m cs passed = all_fit cs 0 (fresh_seat m) [] passed tt

  handed_case : (t : Bool) (c : Chosen Copy) (e : Entry) → EachOf (rank_by entry_of) CopyFits c → taking_of t c ≡ Good e → EntryFits e
  handed_case false c e some h = true_false cc
  handed_case true nobody e some h = true_false cc
  handed_case true (one x others) e some h = rw (let same : e ≡ x.entry = cc in same) some.0.0

  -- .. and so has what a take hands out.
  pub taken_fits : (m : ℕ) (cs : List Call) → Each Passed cs → (e : Entry) → take_outcome (relay_in (seat_after m cs)) p ≡ Good e → EntryFits e
  taken_fits m cs passed e h =
      handed_case (port_set_up (relay_in (seat_after m cs)) p) (chosen (rank_by entry_of) (line_at p m cs)) e
      (chosen_each (rank_by entry_of) CopyFits (line_at p m cs) (waiting_fits m cs passed)) (sym (take_is m cs p) ∙ h)

-- ---- the words that seconds and a lifetime are kept in
module _ (seat : Seat) where
  -- a second that C can pass has 32 bits, and so has the last one
  next_last : (c : Call) → Passed c → seat.memory.last < 2 ^ 32 → (next seat c).memory.last < 2 ^ 32
  unfolding swept_memory swept
  next_last (operator c) passed h = h
  next_last (own (sets s)) passed h = h
  next_last (own (hears rs port slot second octets output)) passed h =
      hearing_so seat rs port second octets (λ e k. k.last < 2 ^ 32) (λ n un. h) (λ now n some heard. passed.1.1)
      (λ now g is good. remembering_so (λ (k : Memory). k.last < 2 ^ 32) seat.memory second passed.1.1 _ _ (λ place new. passed.1.1)) (length output)
  next_last (own (echoes rs port slot octets output)) passed h = h
  next_last (own (takes port)) passed h = h
  next_last (own (sweeps second)) passed h = either (λ (k : Memory). k.last < 2 ^ 32) (eqb (first_of (sweep_checks seat.memory second)) 0) passed h
  next_last (own (looks l)) passed h = h

  next_lifetime : (c : Call) → Passed c → seat.board.lifetime < 2 ^ 32 → (next seat c).board.lifetime < 2 ^ 32
  next_lifetime (operator (orders o)) passed h = order_keeps (λ (b : Board). b.lifetime < 2 ^ 32) seat.board o h (λ taken. by o passed)
    where
      by : (o : Order) → OrderPassed o → (board_written seat.board o).lifetime < 2 ^ 32
      by (set_router x) p = h
      by (set_port q address mask mtu mission) p = h
      by (set_lifetime x) p = p
      by (set_drop x) p = h
      by (set_route rs i prefix mask port availability capabilities mission) p = h
      by (clear_route rs i) p = h
  next_lifetime (operator (views v)) passed h = h
  next_lifetime (own c) passed h = h

all_words : (cs : List Call) (seat : Seat) → Each Passed cs → (seat.memory.last < 2 ^ 32) × (seat.board.lifetime < 2 ^ 32)
    → ((run_from seat cs).memory.last < 2 ^ 32) × ((run_from seat cs).board.lifetime < 2 ^ 32)
all_words [] seat passed h = h
all_words (c ∷ cs) seat passed h = all_words cs (next seat c) passed.1 (next_last seat c passed.0 h.0, next_lifetime seat c passed.0 h.1)

-- After any history that C can make the last second and the lifetime have 32 bits, and with the last second each that is kept.
pub seconds_fit : (m : ℕ) (cs : List Call) → Each Passed cs → ((seat_after m cs).memory.last < 2 ^ 32) × ((seat_after m cs).board.lifetime < 2 ^ 32)
unfolding fresh_memory fresh_board
seconds_fit m cs passed = all_words cs (fresh_seat m) passed (omega arith, omega arith)
