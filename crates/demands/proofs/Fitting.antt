-- What is read back fits 32 bits, so that a refusal above it is seen: after any calls that C can make, each word of a port, a group, a path and a pair does.
-- Assumes nothing.
use native.Mathlib.Omega.{arith}
use Prim.Native.Nat.{ℕ, ◌^◌, ◌<◌}
use mathlib.Core.Path.{◌≡◌, sym, subst}
use mathlib.Core.Bool.{Bool, true, false, ◌&&◌}
use mathlib.Core.List.{List, [], ◌∷◌, map}
use lib.ListN.{length, get_or}
use lib.Dec.{eqb, ltb}
use Rattle.std.specs.Prelude.{Option, Some, None}
use Rattle.checks.specs.Order.{pick, first_of}
use Rattle.checks.specs.Answer.{refusal_number}
use Rattle.checks.proofs.Laws.{either}
use Rattle.queue.specs.Order.{Each}
use Rattle.header.specs.Build.{format_of}
use Rattle.header.specs.Range.{AddressesFit, StampFits}
use Rattle.header.specs.Range as range
use Rattle.header.specs.declared.Addresses.{Addresses}
use Rattle.header.specs.declared.Addresses.TheVariants.{BasicPath, ExtendedPath, BasicEndSystem, ExtendedEndSystem, Ipv6}
use Rattle.header.specs.declared.Fields.{Fields}
use Rattle.header.specs.declared.Timestamp.{Timestamp}
use Rattle.header.specs.declared.Timestamp.TheVariants as stamp
use Rattle.header.proofs.Answers.{read_in_range}
use Rattle.meaning.specs.Names.{origin_of}
use Rattle.meaning.specs.Flood.{upper_of, lower_of, source_in, pair_of}
use Rattle.routes.specs.Records.{empty_record}
use Rattle.routes.specs.declared.Record.{Record}
use Rattle.records.specs.Fresh.{fresh_owned, fresh_group, fresh_path, fresh_pair}
use Rattle.records.specs.Owned.{owns, seen_port}
use Rattle.records.specs.declared.Port.{Port}
use Rattle.records.specs.declared.OwnedPort.{OwnedPort}
use Rattle.records.specs.declared.Group.{Group}
use Rattle.records.specs.declared.PathPlace.{PathPlace}
use Rattle.records.specs.declared.PairPlace.{PairPlace}
use Rattle.sets.specs.Limits.{port_count, group_places, path_places, pair_places}
use Rattle.state.specs.Relay.{Memory, Relay, port_in}
use Rattle.state.specs.Seen.{Board, fresh_board, fresh_mission, fresh_memory, put_router, put_lifetime, put_drop, owned_at}
use Rattle.state.specs.Layout.{owned_words, group_words, path_words, pair_words}
use Rattle.state.proofs.Seen.{seen_at}
use Rattle.floods.specs.Sweep.{is_old, swept_place, swept, sweep_checks, swept_memory}
use Rattle.answering.specs.Echoed.{as_ending}
use Rattle.adjust.specs.Settled.{new_port, new_group, new_path}
use Rattle.lent_state.specs.Read.{word_answer, place_answer}
use Rattle.lent_state.specs.View.{too_long}
use Rattle.answers.specs.Answers.{refusal_in}
use Rattle.answers.proofs.Digits.{refusal_parts, value_parts}
use Rattle.route_calls.specs.Calls.{record_words}
use Rattle.harpjuniper_reads.specs.Back.{port_answer, group_answer, path_answer, pair_answer}
use Rattle.harpjuniper_routes.specs.Face.{route_word_told}
use Rattle.contracts.proofs.Kept.{set_each, get_d_each, replicate_each}
use Rattle.history.specs.Seat.{Seat, fresh_seat, relay_in, relay_with, heard_by, memory_by, replied_by}
use Rattle.history.specs.Calls.{
  Order,
  set_router,
  set_port,
  set_lifetime,
  set_drop,
  set_route,
  clear_route,
  orders,
  views,
  Setting,
  set_group,
  set_path,
  clear_group,
  clear_path,
  sets,
  hears,
  echoes,
  takes,
  sweeps,
  looks,
  Call,
  operator,
  own,
  order_checks,
  board_left,
  checks_of,
  settle,
}
use Rattle.history.specs.Looks.{word_refusal}
use Rattle.history.specs.Outcome.{next, run_from}
use Rattle.history.specs.Ranges.{Octets, Passed}
use Rattle.history.proofs.Heard.{hearing_so}
use Rattle.history.proofs.Remembered.{remembering_so}
use Rattle.history.proofs.Reach.{settings_of, received_settings, taken_settings}
use Rattle.demands.specs.Trace.{Customer, first, second, number_of, Step, operates, flies, Fit, OperatorPasses, SettingPasses, MissionPasses, AllPass, history_of, seat_of}

-- ---- a value of 32 bits, or a refusal above it
pub value_out : (n : ℕ) → n < 2 ^ 32 → refusal_in n ≡ 0
value_out n h = (value_parts n h).refusal

pub refusal_out : (n : ℕ) → n < 2 ^ 32 → refusal_in (refusal_number n) ≡ n
refusal_out n h = (refusal_parts n h).refusal

-- ---- a word of these, of a place among so many
module _ (ws : List ℕ) (fit : Fit ws) (i n word : ℕ) where
  word_case : (t u : Bool) → refusal_in (pick t (pick u (get_or ws word 0) (refusal_number 21)) (refusal_number 21)) ≡ pick (t && u) 0 21
  word_case true true = value_out (get_or ws word 0) (get_d_each (λ (k : ℕ). k < 2 ^ 32) ws word 0 (omega arith) fit)
  word_case true false = refusal_out 21 (omega arith)
  word_case false u = refusal_out 21 (omega arith)

  pub word_out : refusal_in (place_answer i n (word_answer ws word)) ≡ word_refusal i n word (length ws)
  unfolding word_answer
  word_out = word_case (ltb i n) (ltb word (length ws))

-- ---- what a call can be passed
abbrev pub CallPasses : Call → Type 0
CallPasses (operator c) = OperatorPasses c
CallPasses (own c) = MissionPasses c

pub history_passes : (who : Customer) (steps : List Step) → AllPass steps → Each CallPasses (history_of who steps)
history_passes who [] all = tt
history_passes who (operates c ∷ steps) all = (all.0, history_passes who steps all.1)
history_passes first (flies first c ∷ steps) all = (all.0, history_passes first steps all.1)
history_passes first (flies second c ∷ steps) all = history_passes first steps all.1
history_passes second (flies first c ∷ steps) all = history_passes second steps all.1
history_passes second (flies second c ∷ steps) all = (all.0, history_passes second steps all.1)

one_passed : (c : Call) → CallPasses c → Passed c
one_passed (operator (orders (set_router x))) p = tt
one_passed (operator (orders (set_port q address mask mtu mission))) p = tt
one_passed (operator (orders (set_lifetime x))) p = p
one_passed (operator (orders (set_drop x))) p = tt
one_passed (operator (orders (set_route rs i prefix mask q availability capabilities mission))) p = tt
one_passed (operator (orders (clear_route rs i))) p = tt
one_passed (operator (views v)) p = tt
one_passed (own (sets s)) p = tt
one_passed (own (hears rs at slot when octets output)) p = p
one_passed (own (echoes rs at slot octets output)) p = p
one_passed (own (takes q)) p = tt
one_passed (own (sweeps when)) p = p
one_passed (own (looks l)) p = p

all_passed : (cs : List Call) → Each CallPasses cs → Each Passed cs
all_passed [] all = tt
all_passed (c ∷ cs) all = (one_passed c all.0, all_passed cs all.1)

pub history_passed : (who : Customer) (steps : List Step) → AllPass steps → Each Passed (history_of who steps)
history_passed who steps all = all_passed (history_of who steps) (history_passes who steps all)

-- ---- a board, a mission and a memory whose words fit
abbrev PortFits : OwnedPort → Type 0
PortFits x = Fit (owned_words x)

abbrev GroupFits : Group → Type 0
GroupFits x = Fit (group_words x)

abbrev PathFits : PathPlace → Type 0
PathFits x = Fit (path_words x)

abbrev PairFits : PairPlace → Type 0
PairFits x = Fit (pair_words x)

abbrev BoardFits : Board → Type 0
BoardFits b = Each PortFits b.ports

abbrev OwnFits : List Group × List PathPlace → Type 0
OwnFits x = Each GroupFits x.0 × Each PathFits x.1

abbrev MemoryFits : Memory → Type 0
MemoryFits k = Each PairFits k.pairs

abbrev Fits : Seat → Type 0
Fits x = BoardFits x.board × (OwnFits (settings_of x.mission) × MemoryFits x.memory)

none_fits : 0 < 2 ^ 32
none_fits = omega arith

one_fits : 1 < 2 ^ 32
one_fits = omega arith

group_fits : GroupFits fresh_group
group_fits = (none_fits, (none_fits, (none_fits, (none_fits, tt))))

path_fits : PathFits fresh_path
path_fits = (none_fits, (none_fits, (none_fits, (none_fits, tt))))

free_fits : PairFits fresh_pair
free_fits = (none_fits, (none_fits, (none_fits, (none_fits, (none_fits, tt)))))

port_fits : PortFits fresh_owned
port_fits = (none_fits, (none_fits, (none_fits, (none_fits, (none_fits, tt)))))

order_fits : (b : Board) (o : Order) → OperatorPasses (orders o) → BoardFits b → BoardFits (board_left b o)
order_fits b (set_router x) p h =
    either BoardFits (eqb (first_of (order_checks b (set_router x))) 0) {a = put_router b x} {b = b} h h
order_fits b (set_port q address mask mtu mission) p h =
    either BoardFits (eqb (first_of (order_checks b (set_port q address mask mtu mission))) 0)
    (set_each PortFits b.ports q (new_port address mask mtu mission) (one_fits, p) h) h
order_fits b (set_lifetime x) p h =
    either BoardFits (eqb (first_of (order_checks b (set_lifetime x))) 0) {a = put_lifetime b x} {b = b} h h
order_fits b (set_drop x) p h = either BoardFits (eqb (first_of (order_checks b (set_drop x))) 0) {a = put_drop b x} {b = b} h h
order_fits b (set_route rs i prefix mask q availability capabilities mission) p h =
    either BoardFits (eqb (first_of (order_checks b (set_route rs i prefix mask q availability capabilities mission))) 0) h h
order_fits b (clear_route rs i) p h = either BoardFits (eqb (first_of (order_checks b (clear_route rs i))) 0) h h

abbrev RelayFits : Relay → Type 0
RelayFits r = OwnFits (settings_of r.mission)

setting_fits : (r : Relay) (s : Setting) → SettingPasses s → RelayFits r → RelayFits (settle r s)
setting_fits r (set_group i address send subscribed) p h =
    either RelayFits (eqb (first_of (checks_of r (set_group i address send subscribed))) 0)
    (set_each GroupFits r.mission.groups i (new_group address send subscribed) (one_fits, p) h.0, h.1) h
setting_fits r (set_path i path send here) p h =
    either RelayFits (eqb (first_of (checks_of r (set_path i path send here))) 0)
    (h.0, set_each PathFits r.mission.paths i (new_path path send here) (one_fits, p) h.1) h
setting_fits r (clear_group i) p h =
    either RelayFits (eqb (first_of (checks_of r (clear_group i))) 0) (set_each GroupFits r.mission.groups i fresh_group group_fits h.0, h.1) h
setting_fits r (clear_path i) p h =
    either RelayFits (eqb (first_of (checks_of r (clear_path i))) 0) (h.0, set_each PathFits r.mission.paths i fresh_path path_fits h.1) h

-- ---- a pair that is kept: the source has four octets, the timestamp stands in two words, and the second is one that C can pass
source_fits : (port : ℕ) → port < 2 ^ 32 → (a : Addresses) → AddressesFit a → source_in (origin_of port a) < 2 ^ 32
unfolding origin_of
source_fits port small (BasicPath z) h = none_fits
source_fits port small (ExtendedPath p) h = none_fits
source_fits port small (BasicEndSystem d z) h = omega (arith, small, h.1)
source_fits port small (ExtendedEndSystem d s) h = omega (arith, h.1)
source_fits port small (Ipv6 d s) h = none_fits

stamp_fits : (m : Option Timestamp) → StampFits m → Fit (format_of m ∷ upper_of m ∷ lower_of m ∷ [])
stamp_fits None h = (omega arith, (omega arith, (omega arith, tt)))
stamp_fits (Some (stamp.Implicit t)) h = (omega arith, (omega arith, (omega arith, tt)))
stamp_fits (Some (stamp.Explicit p t)) h = (omega arith, (omega (arith, h.0), (omega arith, tt)))
stamp_fits (Some (stamp.Binary t)) h = (omega arith, (omega arith, (omega arith, tt)))

pair_fits : (port : ℕ) → port < 2 ^ 32 → (f : Fields) → range.InRange f → (when : ℕ) → when < 2 ^ 32 → PairFits (record { pair = pair_of port f; second = when })
unfolding pair_of
pair_fits port small f in_range when passed =
    let words = stamp_fits f.stamp in_range.stamp in
    (words.0, (source_fits port small f.addresses in_range.addresses, (words.1.0, (words.1.1.0, (passed, tt)))))

-- the address of a port that the mission sees
seen_fits : (b : Board) → BoardFits b → (n p : ℕ) → (seen_port n (owned_at b p)).address.0 < 2 ^ 32
unfolding seen_port
seen_fits b h n p =
    either (λ (x : Port). x.address.0 < 2 ^ 32) (owns n (owned_at b p)) (get_d_each PortFits b.ports p fresh_owned port_fits h).1.0 none_fits

-- and its MTU
seen_mtu_fits : (b : Board) → BoardFits b → (n p : ℕ) → (seen_port n (owned_at b p)).mtu < 2 ^ 32
unfolding seen_port
seen_mtu_fits b h n p =
    either (λ (x : Port). x.mtu < 2 ^ 32) (owns n (owned_at b p)) (get_d_each PortFits b.ports p fresh_owned port_fits h).1.1.1.0 none_fits

address_fits : (x : Seat) (rs : List Record) → BoardFits x.board → (p : ℕ) → (port_in (relay_with x rs) p).address.0 < 2 ^ 32
address_fits x rs h p = rw (seen_at x.board p x.number) (seen_fits x.board h x.number p)

heard_fits : (x : Seat) (rs : List Record) (p when : ℕ) (octets : List ℕ) (room : ℕ) → Octets octets → when < 2 ^ 32 → BoardFits x.board
    → MemoryFits x.memory → MemoryFits (memory_by x rs p when octets room)
heard_fits x rs p when octets room small passed board h =
    hearing_so x rs p when octets (λ e k. MemoryFits k) (λ n un. h) (λ now n some heard. h)
    (λ now g is good.
    remembering_so MemoryFits x.memory when h _ _ (λ place new.
    set_each PairFits x.memory.pairs place _
    (pair_fits (port_in (relay_with x rs) p).address.0 (address_fits x rs board p) g.fields (read_in_range octets g small is) when passed) h))
    room

-- a sweep leaves a place or frees it
swept_fits : (lifetime when : ℕ) (l : List PairPlace) → Each PairFits l → Each PairFits (map (swept_place lifetime when) l)
swept_fits lifetime when [] h = tt
swept_fits lifetime when (x ∷ l) h = (either PairFits (is_old lifetime when x) free_fits h.0, swept_fits lifetime when l h.1)

sweep_fits : (lifetime when : ℕ) (k : Memory) → MemoryFits k → MemoryFits (swept_memory lifetime when k)
unfolding swept_memory swept
sweep_fits lifetime when k h = either MemoryFits (eqb (first_of (sweep_checks k when)) 0) (swept_fits lifetime when k.pairs h) h

next_fits : (x : Seat) (c : Call) → CallPasses c → Fits x → Fits (next x c)
next_fits x (operator (orders o)) p h = (order_fits x.board o p h.0, h.1)
next_fits x (operator (views v)) p h = h
next_fits x (own (sets s)) p h = (h.0, (setting_fits (relay_in x) s p h.1.0, h.1.1))
next_fits x (own (hears rs q slot when octets output)) p h = (
  h.0,
  (
    subst OwnFits (sym (received_settings (relay_in x) slot (heard_by x rs q when octets (length output)))) h.1.0,
    heard_fits x rs q when octets (length output) p.1.0 p.1.1 h.0 h.1.1,
  ),
)
next_fits x (own (echoes rs q slot octets output)) p h =
    (h.0, (subst OwnFits (sym (received_settings (relay_in x) slot (as_ending (replied_by x rs q octets (length output))))) h.1.0, h.1.1))
next_fits x (own (takes q)) p h = (h.0, (subst OwnFits (sym (taken_settings (relay_in x) q)) h.1.0, h.1.1))
next_fits x (own (sweeps when)) p h = (h.0, (h.1.0, sweep_fits x.board.lifetime when x.memory h.1.1))
next_fits x (own (looks l)) p h = h

all_fits : (cs : List Call) (x : Seat) → Each CallPasses cs → Fits x → Fits (run_from x cs)
all_fits [] x all h = h
all_fits (c ∷ cs) x all h = all_fits cs (next x c) all.1 (next_fits x c all.0 h)

fresh_fits : (n : ℕ) → Fits (fresh_seat n)
unfolding fresh_board fresh_mission fresh_memory
fresh_fits n = (
  replicate_each PortFits port_count fresh_owned port_fits,
  (
    (replicate_each GroupFits group_places fresh_group group_fits, replicate_each PathFits path_places fresh_path path_fits),
    replicate_each PairFits pair_places fresh_pair free_fits,
  ),
)

-- ---- after any steps
module _ (who : Customer) (steps : List Step) (all : AllPass steps) where
  fits : Fits (seat_of who steps)
  fits = all_fits (history_of who steps) (fresh_seat (number_of who)) (history_passes who steps all) (fresh_fits (number_of who))

  pub mtu_fits : (rs : List Record) (p : ℕ) → (port_in (relay_with (seat_of who steps) rs) p).mtu < 2 ^ 32
  mtu_fits rs p = rw (seen_at (seat_of who steps).board p (seat_of who steps).number) (seen_mtu_fits (seat_of who steps).board fits.0 (seat_of who steps).number p)

  pub port_out : (p word : ℕ) → refusal_in (port_answer (seat_of who steps).board p word) ≡ word_refusal p port_count word 5
  unfolding port_answer
  port_out p word =
      let b = (seat_of who steps).board in
      word_out (owned_words (get_or b.ports p fresh_owned)) (get_d_each PortFits b.ports p fresh_owned port_fits fits.0) p port_count word

  pub group_out : (i word : ℕ) → refusal_in (group_answer (seat_of who steps).mission i word) ≡ word_refusal i group_places word 4
  unfolding group_answer
  group_out i word =
      let m = (seat_of who steps).mission in
      word_out (group_words (get_or m.groups i fresh_group)) (get_d_each GroupFits m.groups i fresh_group group_fits fits.1.0.0) i group_places word

  pub path_out : (i word : ℕ) → refusal_in (path_answer (seat_of who steps).mission i word) ≡ word_refusal i path_places word 4
  unfolding path_answer
  path_out i word =
      let m = (seat_of who steps).mission in
      word_out (path_words (get_or m.paths i fresh_path)) (get_d_each PathFits m.paths i fresh_path path_fits fits.1.0.1) i path_places word

  pub pair_out : (i word : ℕ) → refusal_in (pair_answer (seat_of who steps).memory i word) ≡ word_refusal i pair_places word 5
  unfolding pair_answer
  pair_out i word =
      let k = (seat_of who steps).memory in
      word_out (pair_words (get_or k.pairs i fresh_pair)) (get_d_each PairFits k.pairs i fresh_pair free_fits fits.1.1) i pair_places word

-- ---- of a list that is lent
abbrev RecordFits : Record → Type 0
RecordFits x = Fit (record_words x)

empty_fits : RecordFits empty_record
empty_fits = (none_fits, (none_fits, (none_fits, (none_fits, (none_fits, (none_fits, (none_fits, tt)))))))

long_case : (t : Bool) (n m : ℕ) → refusal_in n ≡ m → refusal_in (pick t (refusal_number 21) n) ≡ pick t 21 m
long_case true n m e = refusal_out 21 (omega arith)
long_case false n m e = e

pub record_out : (rs : List Record) (i word : ℕ) → Each RecordFits rs
    → refusal_in (route_word_told rs i word) ≡ pick (too_long rs) 21 (word_refusal i (length rs) word 7)
unfolding route_word_told
record_out rs i word all =
    long_case (too_long rs) _ _
    (word_out (record_words (get_or rs i empty_record)) (get_d_each RecordFits rs i empty_record empty_fits all) i (length rs) word)
