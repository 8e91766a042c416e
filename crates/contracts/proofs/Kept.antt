-- What each call from C leaves of a board or a state that words hold is a board or a state that words hold. Assumes nothing.
use Rattle.std.specs.Prelude.{Option, Some, None}
use native.Mathlib.Omega.{arith}
use native.Mathlib.Nat.{le_of_lt}
use Prim.Native.Nat.{ℕ, zero, suc, ◌+◌, ◌<◌}
use mathlib.Core.Path.{◌≡◌, refl, ◌∙◌}
use mathlib.Core.Bool.{Bool, true, false, not}
use mathlib.Core.List.{List, [], ◌∷◌, ◌++◌}
use lib.ListN.{take, drop, get_or, set, replicate, length-append, length-drop, length-map, length-set}
use lib.Bits.{bit_and}
use lib.Dec.{eqb, ltb}
use borrow.Author.Tests.{ltb-true, ltb-false}
use Rattle.checks.specs.Order.{first_of}
use Rattle.checks.proofs.Laws.{either}
use Rattle.address.specs.declared.Address.{Address}
use Rattle.address.specs.declared.Mask.{Mask}
use Rattle.address.specs.declared.PathAddress.{PathAddress}
use Rattle.address.specs.declared.Slot.{Slot}
use Rattle.sets.specs.Sets.{only_port}
use Rattle.sets.specs.Limits.{port_count, group_places, path_places}
use Rattle.queue.specs.Order.{Each}
use Rattle.queue.specs.Queue.{free, fresh as fresh_queue, waiting, precedence_of, insert, put_of, taken_from, take_of}
use Rattle.queue.specs.declared.Entry.{Entry}
use Rattle.queue.specs.declared.Queue.{Queue}
use Rattle.std.proofs.Common.{Option, Some, None}
use Rattle.queue.specs.declared.Taken.{Taken}
use Rattle.queue.proofs.Order.{insert_each}
use Rattle.queue.proofs.Cases.{put_room, put_full}
use Rattle.queue.proofs.Waiting.{put_bounded}
use Rattle.records.specs.Fresh.{fresh_group, fresh_path}
use Rattle.records.specs.declared.Pair.{Pair}
use Rattle.records.specs.declared.Group.{Group}
use Rattle.records.specs.declared.PathPlace.{PathPlace}
use Rattle.state.specs.Relay.{Mission, Memory, Relay, put_group, put_path, put_queue, port_set_up, queue_in}
use Rattle.state.specs.Seen.{Board, State, fresh_board, fresh_state, put_router, put_owned, put_lifetime, put_drop, on_mission, on_memory, on_seated, seated}
use Rattle.state.specs.Layout.{fresh_board_words, fresh_words}
use Rattle.state.proofs.Fresh.{fresh, fresh_length, fresh_board_lem}
use Rattle.state.proofs.Sizes.{SizedBoard, board_sized, owned_sizes, lifetime_sizes, group_sizes, path_sizes, queue_sizes}
use Rattle.refusals.specs.Lists.{port_checks, group_checks, path_checks, flag_checks, mission_checks, clear_checks}
use Rattle.adjust.specs.Settled.{new_port, new_group, new_path}
use Rattle.adjust.specs.Settled.{settled_fresh, settled_router, settled_drop, settled_port, settled_group, settled_path, cleared_group, cleared_path}
use Rattle.taking.specs.Taking.{without, taken_relay}
use Rattle.header.specs.Read.{read_of, Read}
use Rattle.checks.specs.Told.{Good, Refused}
use Rattle.meaning.specs.Flood.{pair_of}
use Rattle.routes.specs.declared.Record.{Record}
use Rattle.verdict.specs.declared.Flood.{Flood}
use Rattle.verdict.specs.declared.Flood.TheVariants.{Plain, Unsent, Full, New}
use Rattle.floods.specs.Memory.{remembering}
use Rattle.floods.specs.Sweep.{sweep_checks, swept, swept_memory}
use Rattle.lent_state.specs.View.{too_long}
use Rattle.listing.specs.Listed.{seen}
use Rattle.judge.specs.Ending.{call_checks, arrival_at}
use Rattle.judge.specs.Remembered.{header_memory, octets_memory, memory_of}
use Rattle.judge.specs.declared.ruling.Arrival.{Arrival}
use Rattle.judge.specs.declared.Ending.{Ending}
use Rattle.tally.specs.Tally.{Move, moves_of, reply_moves, counted_at, counted_all}
use Rattle.relay.specs.Outgoing.{entered_if, entered_all}
use Rattle.relay.specs.Received.{new_entry, received_relay, received_state, heard_memory}
use Rattle.replies.specs.declared.sending.Replied.{Replied}
use Rattle.answering.specs.Echoed.{as_ending, replied_state}
use Rattle.contracts.proofs.Formed.{SlotFits, FormedQueue, FormedMission, FormedMemory, FormedCounters, Formed, decode_formed}

-- ---- what holds of each element
module _ {A : Type 0} (P : A → Type 0) where
  append_each : (l m : List A) → Each P l → Each P m → Each P (l ++ m)
  append_each [] m h k = k
  append_each (x ∷ l) m h k = (h.0, append_each l m h.1 k)

  take_each : (n : ℕ) (l : List A) → Each P l → Each P (take n l)
  take_each zero l h = tt
  take_each (suc n) [] h = tt
  take_each (suc n) (x ∷ l) h = (h.0, take_each n l h.1)

  drop_each : (n : ℕ) (l : List A) → Each P l → Each P (drop n l)
  drop_each zero l h = h
  drop_each (suc n) [] h = tt
  drop_each (suc n) (x ∷ l) h = drop_each n l h.1

  pub set_each : (l : List A) (i : ℕ) (x : A) → P x → Each P l → Each P (set l i x)
  set_each [] i x p h = tt
  set_each (y ∷ l) zero x p h = (p, h.1)
  set_each (y ∷ l) (suc i) x p h = (h.0, set_each l i x p h.1)

  pub get_d_each : (l : List A) (i : ℕ) (d : A) → P d → Each P l → P (get_or l i d)
  get_d_each [] i d p h = p
  get_d_each (y ∷ l) zero d p h = h.0
  get_d_each (y ∷ l) (suc i) d p h = get_d_each l i d p h.1

  pub replicate_each : (n : ℕ) (x : A) → P x → Each P (replicate n x)
  replicate_each zero x p = tt
  replicate_each (suc n) x p = (p, replicate_each n x p)

-- ---- queues
free_fits : SlotFits free
free_fits = omega arith

fresh_formed : FormedQueue fresh_queue
unfolding fresh_queue
fresh_formed = (refl, replicate_each SlotFits 32 free free_fits)

module _ (q : Queue) (formed : FormedQueue q) where
  put_formed : (e : Entry) → SlotFits e → FormedQueue (put_of q e).queue
  put_formed e fits = by_count (ltb q.count 32) refl
    where
      taken_in : q.count < 32 → FormedQueue (put_of q e).queue
      taken_in room = (
        (put_bounded q (record { places = formed.0; fits = le_of_lt room }) e).places,
        rw (put_room q e room)
            (append_each SlotFits (insert e (waiting q)) (drop (q.count + 1) q.entries)
            (insert_each precedence_of e SlotFits (waiting q) fits (take_each SlotFits q.count q.entries formed.1))
            (drop_each SlotFits (q.count + 1) q.entries formed.1)),
      )

      by_count : (t : Bool) → ltb q.count 32 ≡ t → FormedQueue (put_of q e).queue
      by_count true h = taken_in (ltb-true _ _ h)
      by_count false h = rw (put_full q e (ltb-false _ _ h)) formed

  taken_formed : (l : List Entry) → FormedQueue (taken_from q l).queue
  taken_formed [] = formed
  taken_formed (first ∷ rest) = (
    length-append (drop 1 q.entries) (free ∷ []) ∙ omega (arith, length-drop 1 q.entries, formed.0),
    append_each SlotFits (drop 1 q.entries) (free ∷ []) (drop_each SlotFits 1 q.entries formed.1) (free_fits, tt),
  )

  take_formed : FormedQueue (take_of q).queue
  unfolding take_of
  take_formed =
      either (λ (t : Taken). FormedQueue t.queue) (ltb 32 q.count) formed (taken_formed (waiting q))

-- ---- the board
module _ (b : Board) (sized : SizedBoard b) where
  pub set_router_kept : (router : ℕ) → SizedBoard (settled_router b router)
  set_router_kept router = either SizedBoard (eqb (first_of (flag_checks router)) 0) {a = put_router b router} {b = b} sized sized

  pub set_port_kept : (p : ℕ) (address : Address) (mask : Mask) (mtu mission : ℕ) → SizedBoard (settled_port b p address mask mtu mission)
  set_port_kept p address mask mtu mission =
      either SizedBoard (eqb (first_of (port_checks b p address mask mtu mission)) 0) {a = put_owned b p (new_port address mask mtu mission)} {b = b}
      (owned_sizes b p (new_port address mask mtu mission) ∙ sized) sized

  pub set_lifetime_kept : (lifetime : ℕ) → SizedBoard (put_lifetime b lifetime)
  set_lifetime_kept lifetime = lifetime_sizes b lifetime ∙ sized

  pub set_drop_kept : (drop : ℕ) → SizedBoard (settled_drop b drop)
  set_drop_kept drop = either SizedBoard (eqb (first_of (flag_checks drop)) 0) {a = put_drop b drop} {b = b} sized sized

pub fresh_board_kept : SizedBoard fresh_board
fresh_board_kept = rw (← fresh_board_lem) (board_sized fresh_board_words)

-- ---- one update
module _ (m : Mission) (formed : FormedMission m) where
  group_kept : (i : ℕ) (x : Group) → FormedMission (put_group m i x)
  group_kept i x = record { sized = group_sizes m i x ∙ formed.sized; queues = formed.queues }

  path_kept : (i : ℕ) (x : PathPlace) → FormedMission (put_path m i x)
  path_kept i x = record { sized = path_sizes m i x ∙ formed.sized; queues = formed.queues }

  queue_kept : (p : ℕ) (x : Queue) → FormedQueue x → FormedMission (put_queue m p x)
  queue_kept p x h = record { sized = queue_sizes m p x ∙ formed.sized; queues = set_each FormedQueue m.queues p x h formed.queues }

  -- ---- places emptied, or not
  pub clear_group_kept : (i : ℕ) → FormedMission (cleared_group m i)
  clear_group_kept i = either FormedMission (eqb (first_of (clear_checks i group_places)) 0) (group_kept i fresh_group) formed

  pub clear_path_kept : (i : ℕ) → FormedMission (cleared_path m i)
  clear_path_kept i = either FormedMission (eqb (first_of (clear_checks i path_places)) 0) (path_kept i fresh_path) formed

-- ---- what a relay's mission is
abbrev pub KeptIn : Relay → Type 0
KeptIn r = FormedMission r.mission

module _ (r : Relay) (formed : KeptIn r) where
  queue_in_lem : (p : ℕ) → FormedQueue (queue_in r p)
  queue_in_lem p = get_d_each FormedQueue r.mission.queues p fresh_queue fresh_formed formed.queues

  -- settings, each refused or taken
  pub set_group_kept : (i : ℕ) (address : Address) (send subscribed : ℕ) → KeptIn (settled_group r i address send subscribed)
  set_group_kept i address send subscribed =
      either KeptIn (eqb (first_of (group_checks r i address send subscribed)) 0)
      (group_kept r.mission formed i (new_group address send subscribed)) formed

  pub set_path_kept : (i : ℕ) (path : PathAddress) (send here : ℕ) → KeptIn (settled_path r i path send here)
  set_path_kept i path send here =
      either KeptIn (eqb (first_of (path_checks r i path send here)) 0) (path_kept r.mission formed i (new_path path send here)) formed

  -- taking
  without_kept : (p : ℕ) (rest : Queue) → FormedQueue rest → (h : Option Entry) → KeptIn (without r p rest h)
  without_kept p rest h (Some e) = queue_kept r.mission formed p rest h
  without_kept p rest h None = formed

  pub taken_kept : (p : ℕ) → KeptIn (taken_relay r p)
  unfolding taken_relay
  taken_kept p =
      let q = queue_in r p in
      either KeptIn (not (port_set_up r p)) formed
      (without_kept p (take_of q).queue (take_formed q (queue_in_lem p)) (take_of q).head)

-- ---- what is remembered
remembering_kept : (f : Flood) (q : Pair) (second : ℕ) (k : Memory) → FormedMemory k → FormedMemory (remembering f q second k)
unfolding remembering
remembering_kept Plain q second k h = h
remembering_kept Unsent q second k h = h
remembering_kept Full q second k h = h
remembering_kept (New place) q second k h = length-set k.pairs place _ ∙ h

octets_kept : (r : Relay) (at : Arrival) (second : ℕ) (x : Read) → FormedMemory r.memory → FormedMemory (octets_memory r at second x)
unfolding header_memory
octets_kept r at second (Good h) formed = remembering_kept _ (pair_of at.address.0 h.fields) second r.memory formed
octets_kept r at second (Refused n) formed = formed

pub heard_kept_lem : (x : Board) (s : State) (rs : List Record) (port second : ℕ) (octets : List ℕ) (room : ℕ)
    → FormedMemory s.memory → FormedMemory (heard_memory x s rs port second octets room)
unfolding heard_memory memory_of
heard_kept_lem x s rs port second octets room formed =
    let r = seen x s rs in
    either FormedMemory (too_long rs) formed
    (either FormedMemory (eqb (first_of (call_checks r port second room)) 0) (octets_kept r (arrival_at r port) second (read_of octets) formed) formed)

pub swept_kept : (lifetime second : ℕ) (k : Memory) → FormedMemory k → FormedMemory (swept_memory lifetime second k)
unfolding swept_memory swept
swept_kept lifetime second k formed =
    either FormedMemory (eqb (first_of (sweep_checks k second)) 0) (length-map k.pairs _ ∙ formed) formed

-- ---- receiving
counted_kept : (l : List ℕ) → FormedCounters l → (at : Option ℕ) (n : ℕ) → FormedCounters (counted_at l at n)
unfolding counted_at
counted_kept l h (Some place) n = length-set l place _ ∙ h
counted_kept l h None n = h

all_counted_kept : (moves : List Move) (l : List ℕ) → FormedCounters l → FormedCounters (counted_all l moves)
all_counted_kept [] l h = h
all_counted_kept (move ∷ moves) l h = all_counted_kept moves (counted_at l move.0 move.1) (counted_kept l h move.0 move.1)

module _ (e : Entry) (fits : SlotFits e) (took : ℕ) where
  entered_kept : (r : Relay) → KeptIn r → (p : ℕ) → KeptIn (entered_if r took e p)
  unfolding entered_if
  entered_kept r h p =
      either KeptIn (eqb (bit_and took (only_port p)) 0) h
      (queue_kept r.mission h p (put_of (queue_in r p) e).queue (put_formed (queue_in r p) (queue_in_lem r h p) e fits))

  all_entered_kept : (r : Relay) → KeptIn r → (n : ℕ) → KeptIn (entered_all r took e n)
  unfolding entered_all
  all_entered_kept r h zero = h
  all_entered_kept r h (suc p) = entered_kept (entered_all r took e p) (all_entered_kept r h p) p

pub received_kept : (b : Board) (s : State) → Formed s → (slot : Slot) → slot.0 < 65536 → (k : Memory) → FormedMemory k → (e : Ending)
    → Formed (received_state b s slot k e)
unfolding received_relay
received_kept b s h slot fits k remembered e =
    record {
      mission = all_entered_kept (new_entry slot e) fits e.ruling.took (seated b s) h.mission port_count;
      memory = remembered;
      counters = all_counted_kept (moves_of e) s.counters h.counters;
    }

-- a reply is entered as a datagram is, and nothing is remembered of it
pub replied_kept : (b : Board) (s : State) → Formed s → (slot : Slot) → slot.0 < 65536 → (e : Replied) → Formed (replied_state b s slot e)
unfolding received_relay
replied_kept b s h slot fits e =
    record {
      mission = all_entered_kept (new_entry slot (as_ending e)) fits e.ruling.took (seated b s) h.mission port_count;
      memory = h.memory;
      counters = all_counted_kept (reply_moves e.ruling) s.counters h.counters;
    }

-- ---- what is the mission's own alone changes, or what it remembers, and the counters stay
pub mission_kept : {f : Mission → Mission} → ((m : Mission) → FormedMission m → FormedMission (f m)) → (s : State) → Formed s → Formed (on_mission f s)
mission_kept keeps s h = record { mission = keeps s.mission h.mission; memory = h.memory; counters = h.counters }

pub memory_kept : (f : Memory → Memory) → ((k : Memory) → FormedMemory k → FormedMemory (f k)) → (s : State) → Formed s → Formed (on_memory f s)
memory_kept f keeps s h = record { mission = h.mission; memory = keeps s.memory h.memory; counters = h.counters }

pub seated_kept : (f : Relay → Relay) → ((r : Relay) → KeptIn r → KeptIn (f r)) → (b : Board) (s : State) → Formed s → Formed (on_seated b f s)
seated_kept f keeps b s h = record { mission = keeps (seated b s) h.mission; memory = h.memory; counters = h.counters }

-- ---- a fresh mission, or the one that was there
pub fresh_kept : (s : State) → Formed s → (n : ℕ) → Formed (settled_fresh s n)
fresh_kept s h n =
    let new : Formed (fresh_state n) = rw (← fresh n) (decode_formed (fresh_words n) (fresh_length n)) in
    either Formed (eqb (first_of (mission_checks n)) 0) new h
