-- Demand 1: "Every call ends with a stated answer, whatever octets, port or setting it gets. Nobody has to check first. A refusal carries its number and
-- leaves queues, settings and lent octets unchanged; only the counters of the received datagram move. An unknown transport number refuses local
-- delivery alone." Each sentence is a field, said of what C calls, for each of two customers by itself, whatever the other does between its calls (page
-- 02, W-208). W-207 "lets the kept pair and the accepted second stand after a refusal". Proved in proofs/Demand1.antt. Assumes nothing.
use Rattle.std.specs.Prelude.{ℕ, ◌+◌, ◌%◌, ◌^◌, ◌<◌, ◌≤◌, ◌≡◌, true, false, ◌⊎◌, ◌≢◌, List, [], ◌∷◌, length}
use Rattle.checks.specs.Answer.{refusal_number}
use Rattle.checks.specs.Order.{pick, first_of}
use Rattle.header.specs.Read.{read_of}
use Rattle.header.specs.declared.Header.{Header}
use Rattle.checks.specs.Told.{Good}
use Rattle.address.specs.declared.Slot.{Slot}
use Rattle.numbers.specs.InWords.{field_words}
use Rattle.sets.specs.Limits.{pair_places, counter_count}
use Rattle.records.specs.Held.{is_free}
use Rattle.routes.specs.declared.Record.{Record}
use Rattle.state.specs.Relay.{Memory, Relay, pair_at}
use Rattle.state.specs.Seen.{fresh_board, fresh_state}
use Rattle.state.specs.Layout.{board_words, decode_board, mission_words, decode}
use Rattle.lent_state.specs.View.{too_long}
use Rattle.refusals.specs.Lists.{mission_checks}
use Rattle.verdict.specs.Numbers.{local_number}
use Rattle.judge.specs.Remembered.{is_unheard}
use Rattle.page.specs.Memory.{kept_place, page_memory}
use Rattle.harpjuniper.specs.Face.{reading_count}
use Rattle.harpjuniper_messages.specs.Face.{message_count}
use Rattle.contracts.specs.Promised.{Things, Result, lent_to, Passable, Exported, hj_fresh_board, hj_fresh_mission, hj_read_words, hj_build_words, hj_read_echo_words}
use Rattle.contracts.specs.Stated.{Lying, Contract, Says}
use Rattle.contracts.specs.Functions.{function_of, Unchecked}
use Rattle.history.specs.Calls.{
  set_router,
  set_port,
  set_lifetime,
  set_drop,
  set_route,
  clear_route,
  router_flag,
  lifetime_word,
  drop_flag,
  port_word,
  record_word,
  OperatorCall,
  orders,
  views,
  set_group,
  set_path,
  clear_group,
  clear_path,
  group_word,
  path_word,
  pair_word,
  last_second,
  search,
  counter,
  waiting,
  read,
  build,
  class,
  form,
  checksum,
  read_echo,
  build_request,
  build_reply,
  board_size,
  mission_size,
  MissionCall,
  sets,
  hears,
  echoes,
  takes,
  sweeps,
  looks,
  Call,
  operator,
  own,
  list_lent,
}
use Rattle.history.specs.Outcome as outcome
use Rattle.history.specs.Answers.{answers_of, listed, stands}
use Rattle.history.specs.Sums.{given_by}
use Rattle.history.specs.Transport.{SameButTpid, local_by}
use Rattle.demands.specs.Trace.{Customer, Step, operates, flies, step_of, Words, mission_of, made, words_after, Passes, AllPass, seat_of, relay_for, Gives}
use Rattle.demands.specs.ReadOut.{counts_nothing, read_out, operator_out, own_out, ended_by, local_in, onward_in, took_in, dropped_in, own_in, memory_in, counter_at}

-- ---- what a refusal leaves of the things lent, t, in those left, u: all but the mission's counters and what it remembers is as it was
pub record Unchanged (t u : Things) : Type 0 where
  pub board : u.board ≡ t.board
  -- the settings and the queues, and whose they are
  pub mission : own_in u.mission ≡ own_in t.mission
  pub number : (decode u.mission).number ≡ (decode t.mission).number
  pub routes : u.routes ≡ t.routes
  pub output : u.output ≡ t.output
  pub numbers : u.numbers ≡ t.numbers

-- ---- what it leaves of a memory k
-- the pairs are as they were, but for one place that was free, which now holds the pair of these octets with their second
pub record PairKept (r : Relay) (at second : ℕ) (octets : List ℕ) (k left : Memory) : Type 0 where
  pub place : ℕ
  pub inside : place < pair_places
  pub free : is_free (pair_at k place) ≡ true
  pub holds : pair_at left place ≡ kept_place r at second octets
  pub others : (i : ℕ) → i ≢ place → pair_at left i ≡ pair_at k i

-- of a datagram, r being the relay that the customer sees with the list lent, rs
pub record HeardLeaves (r : Relay) (rs : List Record) (at second : ℕ) (octets : List ℕ) (room : ℕ) (x : Result) (k left : Memory) : Type 0 where
  -- 21, 16, 17 and 29 leave all;
  pub unheard : is_unheard (ended_by x) ≡ true → left ≡ k
  -- with any other number the second is accepted,
  pub heard : is_unheard (ended_by x) ≡ false → (k.last ≤ second) × (left.last ≡ second)
  -- and the pairs are as they were; or, where 10, 11, 13, 14 or 15 is the onward half, its pair is kept;
  pub pairs : (left.pairs ≡ k.pairs) ⊎ ((listed (10 ∷ 11 ∷ 13 ∷ 14 ∷ 15 ∷ []) (onward_in x) ≡ true) × PairKept r at second octets k left)
  -- which of these it is, the page says
  pub page : too_long rs ≡ false → left ≡ page_memory r at second octets room

-- any other call leaves it
abbrev pub OwnRemembers : Customer → List Step → MissionCall → Result → Memory → Memory → Type 0
OwnRemembers who steps (sets s) x k left = left ≡ k
OwnRemembers who steps (hears rs at slot second octets output) x k left =
    HeardLeaves (relay_for who steps rs) rs at second octets (length output) x k left
OwnRemembers who steps (echoes rs at slot octets output) x k left = left ≡ k
OwnRemembers who steps (takes p) x k left = left ≡ k
OwnRemembers who steps (sweeps second) x k left = left ≡ k
OwnRemembers who steps (looks l) x k left = left ≡ k

abbrev pub Remembers : Customer → List Step → Call → Result → Memory → Memory → Type 0
Remembers who steps (operator c) x k left = left ≡ k
Remembers who steps (own c) x k left = OwnRemembers who steps c x k left

-- what two datagrams come to that have these TP-IDs and differ in nothing else
pub record LocalAlone (a b : ℕ) (x y : Result) : Type 0 where
  pub refusal : ended_by y ≡ ended_by x
  pub onward : onward_in y ≡ onward_in x
  pub took : took_in y ≡ took_in x
  pub dropped : dropped_in y ≡ dropped_in x
  -- the settings and queues left, and what is remembered
  pub mission : own_in y.left.mission ≡ own_in x.left.mission
  pub memory : memory_in y.left.mission ≡ memory_in x.left.mission
  -- no for both; or for each what its TP-ID makes it, delivered or 26
  pub local : ((local_in x ≡ 0) × (local_in y ≡ 0)) ⊎ ((local_in x ≡ local_number (local_by a)) × (local_in y ≡ local_number (local_by b)))

-- ---- words of the wrong number
-- b is no board's, m no mission's
abbrev pub NoBoard : List ℕ → Type 0
NoBoard b = length b ≡ board_words → ⊥

abbrev pub NoMission : List ℕ → Type 0
NoMission m = length m ≡ mission_words → ⊥

-- the words that a step is lent are of the wrong number: those of the board or of the mission, where it is lent both
abbrev pub OperatorLacks : List ℕ → OperatorCall → Type 0
OperatorLacks b (orders (set_router x)) = NoBoard b
OperatorLacks b (orders (set_port p address mask mtu mission)) = NoBoard b
OperatorLacks b (orders (set_lifetime x)) = NoBoard b
OperatorLacks b (orders (set_drop x)) = NoBoard b
OperatorLacks b (orders (set_route rs i prefix mask p availability capabilities mission)) = NoBoard b
OperatorLacks b (orders (clear_route rs i)) = ⊥
OperatorLacks b (views router_flag) = NoBoard b
OperatorLacks b (views lifetime_word) = NoBoard b
OperatorLacks b (views drop_flag) = NoBoard b
OperatorLacks b (views (port_word p word)) = NoBoard b
OperatorLacks b (views (record_word rs i word)) = ⊥

abbrev pub MissionLacks : List ℕ → List ℕ → MissionCall → Type 0
MissionLacks b m (sets (set_group i address send subscribed)) = NoBoard b ⊎ NoMission m
MissionLacks b m (sets (set_path i path send here)) = NoBoard b ⊎ NoMission m
MissionLacks b m (sets (clear_group i)) = NoMission m
MissionLacks b m (sets (clear_path i)) = NoMission m
MissionLacks b m (hears rs p slot second octets output) = NoBoard b ⊎ NoMission m
MissionLacks b m (echoes rs p slot octets output) = NoBoard b ⊎ NoMission m
MissionLacks b m (takes p) = NoBoard b ⊎ NoMission m
MissionLacks b m (sweeps second) = NoBoard b ⊎ NoMission m
MissionLacks b m (looks (group_word i word)) = NoMission m
MissionLacks b m (looks (path_word i word)) = NoMission m
MissionLacks b m (looks (pair_word i word)) = NoMission m
MissionLacks b m (looks last_second) = NoMission m
MissionLacks b m (looks (search rs a)) = NoBoard b ⊎ NoMission m
MissionLacks b m (looks (counter i)) = NoMission m
MissionLacks b m (looks (waiting p)) = NoMission m
MissionLacks b m (looks (read octets)) = ⊥
MissionLacks b m (looks (build fields size output)) = ⊥
MissionLacks b m (looks (class a)) = ⊥
MissionLacks b m (looks (form p)) = ⊥
MissionLacks b m (looks (checksum octets)) = ⊥
MissionLacks b m (looks (read_echo octets)) = ⊥
MissionLacks b m (looks (build_request i n echoed output)) = ⊥
MissionLacks b m (looks (build_reply i n seen echoed output)) = ⊥
MissionLacks b m (looks board_size) = ⊥
MissionLacks b m (looks mission_size) = ⊥

abbrev pub Lacks : Words → Step → Type 0
Lacks w (operates c) = OperatorLacks w.board c
Lacks w (flies who c) = MissionLacks w.board (mission_of who w) c

-- what it answers then: 16 of a take, of a datagram and of an echo request, but 21 of these two with too long a list; 21 of all else
abbrev pub lack_number : MissionCall → ℕ
lack_number (sets s) = 21
lack_number (hears rs p slot second octets output) = pick (too_long rs) 21 16
lack_number (echoes rs p slot octets output) = pick (too_long rs) 21 16
lack_number (takes p) = 16
lack_number (sweeps second) = 21
lack_number (looks l) = 21

abbrev pub refused_own : MissionCall → ℕ → outcome.Answer
refused_own (sets s) n = outcome.number n
refused_own (hears rs p slot second octets output) n = outcome.ended n 0 0 0
refused_own (echoes rs p slot octets output) n = outcome.replied n 0 0
refused_own (takes p) n = outcome.number n
refused_own (sweeps second) n = outcome.number n
refused_own (looks l) n = outcome.number n

abbrev pub AnswersLack : Step → Result → Type 0
AnswersLack (operates c) x = operator_out c x.answer ≡ outcome.number 21
AnswersLack (flies who c) x = own_out c x.answer ≡ refused_own c (lack_number c)

-- ---- a list over 512 records
abbrev pub HasLong : Call → Type 0
HasLong (operator (orders o)) = too_long (list_lent o) ≡ true
HasLong (operator (views router_flag)) = ⊥
HasLong (operator (views lifetime_word)) = ⊥
HasLong (operator (views drop_flag)) = ⊥
HasLong (operator (views (port_word p word))) = ⊥
HasLong (operator (views (record_word rs i word))) = too_long rs ≡ true
HasLong (own (sets s)) = ⊥
HasLong (own (hears rs p slot second octets output)) = too_long rs ≡ true
HasLong (own (echoes rs p slot octets output)) = too_long rs ≡ true
HasLong (own (takes p)) = ⊥
HasLong (own (sweeps second)) = ⊥
HasLong (own (looks (group_word i word))) = ⊥
HasLong (own (looks (path_word i word))) = ⊥
HasLong (own (looks (pair_word i word))) = ⊥
HasLong (own (looks last_second)) = ⊥
HasLong (own (looks (search rs a))) = too_long rs ≡ true
HasLong (own (looks (counter i))) = ⊥
HasLong (own (looks (waiting p))) = ⊥
HasLong (own (looks (read octets))) = ⊥
HasLong (own (looks (build fields size output))) = ⊥
HasLong (own (looks (class a))) = ⊥
HasLong (own (looks (form p))) = ⊥
HasLong (own (looks (checksum octets))) = ⊥
HasLong (own (looks (read_echo octets))) = ⊥
HasLong (own (looks (build_request i n echoed output))) = ⊥
HasLong (own (looks (build_reply i n seen echoed output))) = ⊥
HasLong (own (looks board_size)) = ⊥
HasLong (own (looks mission_size)) = ⊥

abbrev pub refused_as : Call → ℕ → outcome.Answer
refused_as (operator c) n = outcome.number n
refused_as (own c) n = refused_own c n

pub record Demand1 : Type 2 where
  -- "Every call ends with a stated answer, whatever octets, port or setting it gets.": of each of the 39 calls, whatever is lent to it, there is a
  -- result that its contract allows (a slot has 16 bits), wherever what is lent lies, and one only;
  pub ends : (c : Exported) → Passable c → (x : Result) × (((y : Lying) → Contract y c x) × ((y : Result) → Says c y → y ≡ x))
  -- hj_fresh_board answers 0 wherever the words are as many as a board has, whatever they are, and leaves a fresh board; hj_fresh_mission likewise for
  -- the numbers 0 and 1, and 24 for any other; where the words are not as many, both answer 21 and leave them;
  pub fresh_board_lem : (w : List ℕ) (x : Result) → Says (hj_fresh_board w) x
      → (length w ≡ board_words → (x.answer ≡ 0) × (decode_board x.left.board ≡ fresh_board))
      × (NoBoard w → (x.answer ≡ 21) × (x.left.board ≡ w))
  pub fresh_mission_lem : (w : List ℕ) (n : ℕ) (x : Result) → Says (hj_fresh_mission w n) x
      → (length w ≡ mission_words → (x.answer ≡ first_of (mission_checks n)) × (x.answer ≡ 0 → decode x.left.mission ≡ fresh_state n))
      × (NoMission w → (x.answer ≡ 21) × (x.left.mission ≡ w))
  -- after that any steps can be made, so that what is said below of traces is said of something;
  pub lasts : (w : Words) → length w.board ≡ board_words → length w.zero ≡ mission_words → length w.one ≡ mission_words
      → (steps : List Step) → AllPass steps → (c : Step) → Passes c → (x : Result) × ((g : Gives steps c x) × (g.lent ≡ w))
  -- after any steps, what C reads out of the answer to a call of the operator's or of a customer's is what the rules give of that customer's history, and
  -- stands in page 01's list for that call;
  pub stated : (who : Customer) (steps : List Step) (c : Call) (x : Result) → Gives steps (step_of who c) x
      → (read_out c x.answer ≡ (outcome.outcome (seat_of who steps) c).answer) × (stands (answers_of c) (read_out c x.answer) ≡ true)
  -- where the words of a board or a mission are not as many as it has, it is 16 or 21, and all that is lent is left as it is;
  pub other_words : (w : Words) (c : Step) (x : Result) → Lacks w c → Says (made w c) x → AnswersLack c x × (x.left ≡ lent_to (made w c))
  -- "A list over 512 records is 21 before all else" (docs/DECISIONS.md), whatever the words are, and all is left as it is, counters included;
  pub long_lists : (w : Words) (who : Customer) (c : Call) (x : Result) → HasLong c → Says (made w (step_of who c)) x
      → (read_out c x.answer ≡ refused_as c 21) × (x.left ≡ lent_to (made w (step_of who c)))
  -- and where the words of a header's or a message's numbers are not as many as those have, it is 21, and nothing is written.
  pub other_numbers : (octets n : List ℕ) (size : ℕ) (o : List ℕ) (x y z : Result)
      → Says (hj_read_words octets n) x → Says (hj_build_words n size o) y → Says (hj_read_echo_words octets n) z
      → ((length n ≡ reading_count → ⊥) → (x.answer ≡ 21) × (x.left.numbers ≡ n))
      × (((length n ≡ field_words → ⊥) → (y.answer ≡ refusal_number 21) × (y.left.output ≡ o))
      × ((length n ≡ message_count → ⊥) → (z.answer ≡ 21) × (z.left.numbers ≡ n)))
  -- "Nobody has to check first.": the code of each function, proved to do what its contract says, asks nothing of its caller.
  pub nobody_checks_first : (c : Exported) → Unchecked (function_of c)
  -- "A refusal carries its number and leaves queues, settings and lent octets unchanged;": 9 to 15 and 30 of the onward half too, and 11, 14 and 15 of a
  -- reply. The board, the list and the output are left whole, and of the mission all but its counters and what it remembers
  pub refusal_leaves : (who : Customer) (steps : List Step) (c : Call) (x : Result) (g : Gives steps (step_of who c) x)
      → outcome.is_refusal (read_out c x.answer) ≡ true → Unchanged (lent_to (made g.before (step_of who c))) x.left
  -- W-207: "demand 1 lets the kept pair and the accepted second stand after a refusal", and of what is remembered nothing else moves
  pub refusal_remembers : (who : Customer) (steps : List Step) (c : Call) (x : Result) (g : Gives steps (step_of who c) x)
      → outcome.is_refusal (read_out c x.answer) ≡ true
      → Remembers who steps c x (memory_in (lent_to (made g.before (step_of who c))).mission) (memory_in x.left.mission)
  -- and so does a datagram of which no port took an entry, whatever its local half
  pub untaken_leaves : (who : Customer) (steps : List Step) (rs : List Record) (p : ℕ) (slot : Slot) (second : ℕ) (octets output : List ℕ) (x : Result)
      (g : Gives steps (flies who (hears rs p slot second octets output)) x) → took_in x ≡ 0
      → Unchanged (lent_to (made g.before (flies who (hears rs p slot second octets output)))) x.left
  pub untaken_remembers : (who : Customer) (steps : List Step) (rs : List Record) (p : ℕ) (slot : Slot) (second : ℕ) (octets output : List ℕ)
      (x : Result) (g : Gives steps (flies who (hears rs p slot second octets output)) x) → took_in x ≡ 0
      → HeardLeaves (relay_for who steps rs) rs p second octets (length output) x (memory_in (mission_of who g.before)) (memory_in x.left.mission)
  -- "only the counters of the received datagram move.": each counter by what page 01's table gives this call, and none where no datagram is heard
  -- and no request answered; W-203 "lets these counters move" of a reply that is refused (record Echoes says which)
  pub counters_move : (who : Customer) (steps : List Step) (c : MissionCall) (x : Result) (g : Gives steps (flies who c) x) (i : ℕ) → i < counter_count
      → counter_at (mission_of who (words_after g.before (flies who c) x)) i
      ≡ (counter_at (mission_of who g.before) i + given_by i (outcome.own_outcome (seat_of who steps) c)) % 2 ^ 32
  pub counters_stay : (who : Customer) (steps : List Step) (c : MissionCall) (x : Result) (g : Gives steps (flies who c) x) → counts_nothing c ≡ true
      → (decode (mission_of who (words_after g.before (flies who c) x))).counters ≡ (decode (mission_of who g.before)).counters
  -- "An unknown transport number refuses local delivery alone.": of two datagrams that differ in that number
  pub transport_alone : (who : Customer) (steps : List Step) (rs : List Record) (p : ℕ) (slot : Slot) (second : ℕ) (s t output : List ℕ) (h k : Header) (x y : Result)
      → read_of s ≡ Good h → read_of t ≡ Good k → SameButTpid h k
      → Gives steps (flies who (hears rs p slot second s output)) x → Gives steps (flies who (hears rs p slot second t output)) y
      → LocalAlone h.fields.tpid k.fields.tpid x y
