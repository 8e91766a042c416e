-- Demand 1 is kept. Assumes nothing.
use native.Mathlib.Omega.{arith}
use Prim.Native.Nat.{ℕ, ◌+◌, ◌%◌, ◌^◌}
use mathlib.Core.Path.{◌≡◌, refl, sym, ap, subst, ◌∙◌}
use mathlib.Core.Bool.{Bool, true, false}
use mathlib.Core.Logic.{◌⊎◌, inl, inr, ⊎_elim}
use mathlib.Core.List.{List, []}
use lib.ListN.{length}
use borrow.Author.Tests.{ne_eqb}
use Rattle.checks.specs.Order.{pick}
use Rattle.checks.specs.Answer.{refusal_number}
use Rattle.checks.proofs.Bools.{true_false}
use Rattle.header.specs.Read.{read_of}
use Rattle.header.specs.declared.Header.{Header}
use Rattle.checks.specs.Told.{Good}
use Rattle.address.specs.declared.Slot.{Slot}
use Rattle.numbers.specs.InWords.{field_words}
use Rattle.routes.specs.declared.Record.{Record}
use Rattle.state.specs.Relay.{Relay}
use Rattle.state.specs.Seen.{State, fresh_board, fresh_state}
use Rattle.state.specs.Layout.{decode}
use Rattle.lent_state.specs.View.{too_long}
use Rattle.lent_state.proofs.Same.{board_injective}
use Rattle.verdict.specs.Numbers.{local_number, onward_number}
use Rattle.taking.specs.Taking.{take_outcome}
use Rattle.tally.specs.Tally.{Move, counted_all}
use Rattle.judge.specs.declared.Ending.{Ending}
use Rattle.replies.specs.declared.sending.Replied.{Replied}
use Rattle.answering.specs.Echoed.{as_ending}
use Rattle.relay.specs.Received.{received_relay}
use Rattle.answers.specs.Answers.{part_at, refusal_in}
use Rattle.harpjuniper.specs.Face.{Reading, reading_count, read_answer, read_left, build_words_answer, build_words_output}
use Rattle.echo.specs.Message.{Reading as Message}
use Rattle.harpjuniper_messages.specs.Face.{message_count}
use Rattle.harpjuniper_messages.specs.Face as messages
use Rattle.contracts.specs.Promised.{Things, Result, Promise, Allows, lent_to, looking, hj_read_words, hj_build_words, hj_read_echo_words}
use Rattle.contracts.specs.Stated.{Says}
use Rattle.contracts.proofs.Answers.{each_call_answers}
use Rattle.contracts.proofs.Rows.{says_row, one_result_by_contract, row_contract}
use Rattle.contracts.proofs.Given as goal
use Rattle.history.specs.Calls.{
  orders,
  views,
  group_word,
  path_word,
  pair_word,
  last_second,
  search,
  counter,
  waiting,
  read,
  build,
  class,
  form,
  checksum,
  read_echo,
  build_request,
  build_reply,
  board_size,
  mission_size,
  OperatorCall,
  MissionCall,
  sets,
  hears,
  echoes,
  takes,
  sweeps,
  looks,
  Call,
  operator,
  own,
}
use Rattle.history.specs.Seat.{Seat, relay_in, heard_by, answering_by, replied_by}
use Rattle.history.specs.Outcome as outcome
use Rattle.history.specs.Answers.{answers_of, stands}
use Rattle.history.specs.Transport.{SameButTpid, SameButLocal, local_by}
use Rattle.history.proofs.Answered.{every_answer_is_listed}
use Rattle.history.proofs.Untaken.{took_none}
use Rattle.history.proofs.Refusals.{nobody_took, output_as_lent}
use Rattle.history.proofs.Replying.{reply_took_none}
use Rattle.history.proofs.Sums.{moves_as_written}
use Rattle.history.proofs.Transport as transport
use Rattle.demands.specs.Trace.{Customer, Step, operates, flies, step_of, Words, mission_of, made, words_after, seat_of, relay_of, Gives}
use Rattle.demands.specs.ReadOut.{own_out, read_out, own_in, memory_in, counts_nothing, counter_at}
use Rattle.demands.specs.Demand1.{Unchanged, OwnRemembers, Remembers, LocalAlone, Lacks, lack_number, refused_own, AnswersLack, HasLong, refused_as, MissionLacks, Demand1}
use Rattle.demands.proofs.Lane.{made_by}
use Rattle.demands.proofs.Promised.{promised_by, next_state}
use Rattle.demands.proofs.Held.{quiet_taking}
use Rattle.demands.proofs.Fresh.{fresh_board_holds, fresh_board_answers, fresh_board_refused, fresh_mission_holds, fresh_mission_answers, fresh_mission_refused}
use Rattle.demands.proofs.Traced.{held_board, held_words, words_hold}
use Rattle.demands.proofs.Lasts.{gives_lasts}
use Rattle.demands.proofs.Told.{gives_row, gives_next, before_own, counters, counters_move}
use Rattle.demands.proofs.Fitting.{refusal_out}
use Rattle.demands.proofs.ReadOut.{read_out_lem}
use Rattle.demands.proofs.Output.{told}
use Rattle.demands.proofs.Remembers.{left_memory, heard_leaves}
use Rattle.demands.proofs.Whole.{whole, left_whole, reply_unwritten, operator_refused, own_refused, lack_answer, operator_lacks, own_lacks, long_answer, long_left}

-- ---- a refusal leaves all but the counters of a datagram
-- where all is left, so is this
all_unchanged : (t u : Things) → u ≡ t → Unchanged t u
all_unchanged t u e =
    subst (Unchanged t) (sym e) (record { board = refl; mission = refl; number = refl; routes = refl; output = refl; numbers = refl })

module _ (who : Customer) (steps : List Step) where
  abbrev seat : Seat
  seat = seat_of who steps

  -- a row that is that of a look
  looked : (c : Call) (x : Result) (g : Gives steps (step_of who c) x)
      → promised_by seat (counters who steps) c
      ≡ looking (lent_to (made_by g.before.board (mission_of who g.before) c)) (promised_by seat (counters who steps) c).answer
      → x.left ≡ lent_to (made_by g.before.board (mission_of who g.before) c)
  looked c x g is = whole _ (promised_by seat (counters who steps) c).answer x (subst (λ (p : Promise). Allows p x) is (gives_row who steps c x g))

  -- a datagram of which no port took an entry
  module _ (rs : List Record) (p : ℕ) (slot : Slot) (second : ℕ) (octets output : List ℕ) (x : Result) (g : Gives steps (flies who (hears rs p slot second octets output)) x) where
    abbrev e : Ending
    e = heard_by seat rs p second octets (length output)

    heard_unchanged : e.ruling.took ≡ 0 → Unchanged (lent_to (made g.before (flies who (hears rs p slot second octets output)))) x.left
    heard_unchanged none =
        let c = hears rs p slot second octets output in
        let row = gives_row who steps (own c) x g in
        let before = before_own who steps (flies who c) x g in
        let hold = words_hold who g.lent steps g.before g.begun in
        let left = (held_words x.left.mission (next_state seat (counters who steps) (own c)) row.mission).1 in
        record {
          board = board_injective x.left.board g.before.board (row.board ∙ sym hold.0);
          mission =
              ap (λ (s : State). s.mission) left
              ∙ ap (λ (r : Relay). r.mission) (nobody_took (relay_in seat) slot e none)
              ∙ ap (λ (s : State). s.mission) (sym before);
          number = ap (λ (s : State). s.number) left ∙ ap (λ (s : State). s.number) (sym before);
          routes = row.routes;
          output = row.output ∙ output_as_lent e octets output none;
          numbers = row.numbers;
        }

  -- a reply that no port took
  module _ (rs : List Record) (p : ℕ) (slot : Slot) (octets output : List ℕ) (x : Result) (g : Gives steps (flies who (echoes rs p slot octets output)) x) where
    abbrev answer : Replied
    answer = replied_by seat rs p octets (length output)

    left_state : decode x.left.mission ≡ next_state seat (counters who steps) (own (echoes rs p slot octets output))
    left_state =
        let c = own (echoes rs p slot octets output) in
        (held_words x.left.mission (next_state seat (counters who steps) c) (gives_row who steps c x g).mission).1

    replied_memory : memory_in x.left.mission ≡ memory_in (mission_of who g.before)
    replied_memory =
        ap (λ (s : State). s.memory) left_state ∙ ap (λ (s : State). s.memory) (sym (before_own who steps (flies who (echoes rs p slot octets output)) x g))

    replied_unchanged : answer.ruling.took ≡ 0 → Unchanged (lent_to (made g.before (flies who (echoes rs p slot octets output)))) x.left
    replied_unchanged none =
        let c = echoes rs p slot octets output in
        let row = gives_row who steps (own c) x g in
        let before = before_own who steps (flies who c) x g in
        let hold = words_hold who g.lent steps g.before g.begun in
        record {
          board = board_injective x.left.board g.before.board (row.board ∙ sym hold.0);
          mission =
              ap (λ (s : State). s.mission) left_state
              ∙ ap (λ (r : Relay). r.mission) (nobody_took (relay_in seat) slot (as_ending answer) none)
              ∙ ap (λ (s : State). s.mission) (sym before);
          number = ap (λ (s : State). s.number) left_state ∙ ap (λ (s : State). s.number) (sym before);
          routes = row.routes;
          output = row.output ∙ reply_unwritten (answering_by seat rs p octets (length output)) answer octets output none;
          numbers = row.numbers;
        }

  -- a refused call that hears no datagram and answers none leaves all
  quiet_leaves : (c : MissionCall) → counts_nothing c ≡ true → (x : Result) (g : Gives steps (flies who c) x)
      → outcome.is_refusal (outcome.own_outcome seat c).answer ≡ true → x.left ≡ lent_to (made g.before (flies who c))
  quiet_leaves c quiet x g h =
      let hold = words_hold who g.lent steps g.before g.begun in
      looked (own c) x g
      (own_refused g.before.board (mission_of who g.before) seat (counters who steps) hold.0 hold.1 c quiet h)

  order_leaves_lem : (c : OperatorCall) (x : Result) (g : Gives steps (operates c) x) → outcome.is_refusal (outcome.operator_outcome seat.board c).answer ≡ true
      → x.left ≡ lent_to (made g.before (operates c))
  order_leaves_lem c x g h =
      let hold = words_hold who g.lent steps g.before g.begun in
      looked (operator c) x g
      (operator_refused g.before.board (mission_of who g.before) seat (counters who steps) hold.0 hold.1 c h)

  own_leaves : (c : MissionCall) (x : Result) (g : Gives steps (flies who c) x) → outcome.is_refusal (outcome.own_outcome seat c).answer ≡ true
      → Unchanged (lent_to (made g.before (flies who c))) x.left
  own_leaves (sets s) x g h = all_unchanged _ _ (quiet_leaves (sets s) refl x g h)
  own_leaves (hears rs p slot second octets output) x g h =
      heard_unchanged rs p slot second octets output x g (took_none seat rs p second octets (length output) h)
  own_leaves (echoes rs p slot octets output) x g h = replied_unchanged rs p slot octets output x g (reply_took_none seat rs p octets (length output) h)
  own_leaves (takes p) x g h = all_unchanged _ _ (quiet_leaves (takes p) refl x g h)
  own_leaves (sweeps second) x g h = all_unchanged _ _ (quiet_leaves (sweeps second) refl x g h)
  own_leaves (looks l) x g h = all_unchanged _ _ (quiet_leaves (looks l) refl x g h)

  call_leaves : (c : Call) (x : Result) (g : Gives steps (step_of who c) x) → outcome.is_refusal (outcome.outcome seat c).answer ≡ true
      → Unchanged (lent_to (made g.before (step_of who c))) x.left
  call_leaves (operator c) x g h = all_unchanged _ _ (order_leaves_lem c x g h)
  call_leaves (own c) x g h = own_leaves c x g h

  is_refused : (c : Call) (x : Result) → Gives steps (step_of who c) x → outcome.is_refusal (read_out c x.answer) ≡ true
      → outcome.is_refusal (outcome.outcome seat c).answer ≡ true
  is_refused c x g h = ap outcome.is_refusal (sym (read_out_lem who steps c x g)) ∙ h

  -- ---- and what it leaves of the memory
  same_memory : {t u : Things} → u ≡ t → memory_in u.mission ≡ memory_in t.mission
  same_memory is = ap (λ (z : Things). memory_in z.mission) is

  own_remembers : (c : MissionCall) (x : Result) (g : Gives steps (flies who c) x) → outcome.is_refusal (outcome.own_outcome seat c).answer ≡ true
      → OwnRemembers who steps c x (memory_in (lent_to (made g.before (flies who c))).mission) (memory_in x.left.mission)
  own_remembers (sets s) x g h = same_memory (quiet_leaves (sets s) refl x g h)
  own_remembers (hears rs p slot second octets output) x g h =
      heard_leaves who steps rs p slot second octets output x g (took_none seat rs p second octets (length output) h)
  own_remembers (echoes rs p slot octets output) x g h = replied_memory rs p slot octets output x g
  own_remembers (takes p) x g h = same_memory (quiet_leaves (takes p) refl x g h)
  own_remembers (sweeps second) x g h = same_memory (quiet_leaves (sweeps second) refl x g h)
  own_remembers (looks l) x g h = same_memory (quiet_leaves (looks l) refl x g h)

  call_remembers : (c : Call) (x : Result) (g : Gives steps (step_of who c) x) → outcome.is_refusal (outcome.outcome seat c).answer ≡ true
      → Remembers who steps c x (memory_in (lent_to (made g.before (step_of who c))).mission) (memory_in x.left.mission)
  call_remembers (operator c) x g h = same_memory (order_leaves_lem c x g h)
  call_remembers (own c) x g h = own_remembers c x g h

-- ---- two datagrams
local_numbers : (a b : ℕ) (e f : Ending) → SameButLocal a b e f
    → ((local_number e.ruling.local ≡ 0) × (local_number f.ruling.local ≡ 0))
    ⊎ ((local_number e.ruling.local ≡ local_number (local_by a)) × (local_number f.ruling.local ≡ local_number (local_by b)))
local_numbers a b e f same =
    ⊎_elim
    (λ none. inl (ap local_number none.0, ap local_number none.1))
    (λ each. inr (ap local_number each.0, ap local_number each.1))
    same.local

module _ (who : Customer) (steps : List Step) (rs : List Record) (p : ℕ) (slot : Slot) (second : ℕ) (output : List ℕ) where
  left_own : (octets : List ℕ) (x : Result) → Gives steps (flies who (hears rs p slot second octets output)) x
      → own_in x.left.mission ≡ (received_relay (relay_of who steps) slot (heard_by (seat_of who steps) rs p second octets (length output))).mission
  left_own octets x g =
      let c = own (hears rs p slot second octets output) in
      ap (λ (s : State). s.mission)
      (held_words x.left.mission (next_state (seat_of who steps) (counters who steps) c) (gives_row who steps c x g).mission).1

  alone : (s t : List ℕ) (h k : Header) (x y : Result) → read_of s ≡ Good h → read_of t ≡ Good k → SameButTpid h k
      → Gives steps (flies who (hears rs p slot second s output)) x → Gives steps (flies who (hears rs p slot second t output)) y
      → LocalAlone h.fields.tpid k.fields.tpid x y
  alone s t h k x y good other same g i =
      let seat = seat_of who steps in
      let room = length output in
      let e = heard_by seat rs p second s room in
      let f = heard_by seat rs p second t room in
      let but = transport.transport_alone p second s t room h k good other same seat rs in
      let one = told who steps rs p slot second s output x g in
      let two = told who steps rs p slot second t output y i in
      record {
        refusal = two.refusal ∙ sym but.refusal ∙ sym one.refusal;
        onward = two.onward ∙ ap onward_number (sym but.onward) ∙ sym one.onward;
        took = two.took ∙ sym but.took ∙ sym one.took;
        dropped = two.dropped ∙ sym but.dropped ∙ sym one.dropped;
        mission =
            left_own t y i
            ∙ ap (λ (r : Relay). r.mission) (sym (transport.leaves_the_same p second s t room h k good other same seat rs slot))
            ∙ sym (left_own s x g);
        memory =
            left_memory who steps rs p slot second t output y i
            ∙ sym (transport.remembers_the_same p second s t room h k good other same seat rs)
            ∙ sym (left_memory who steps rs p slot second s output x g);
        local = rw (one.local, two.local) (local_numbers h.fields.tpid k.fields.tpid e f but);
      }

-- ---- words of the wrong number, and too long a list: what is read out of the answer
ended_lack : (t : Bool) → outcome.ended (part_at 0 (pick t 21 16)) (part_at 8 (pick t 21 16)) (part_at 16 (pick t 21 16)) (part_at 24 (pick t 21 16))
    ≡ outcome.ended (pick t 21 16) 0 0 0
ended_lack true = refl
ended_lack false = refl

replied_lack : (t : Bool) → outcome.replied (part_at 0 (pick t 21 16)) (part_at 16 (pick t 21 16)) (part_at 24 (pick t 21 16)) ≡ outcome.replied (pick t 21 16) 0 0
replied_lack true = refl
replied_lack false = refl

read_21 : refusal_in (refusal_number 21) ≡ 21
read_21 = refusal_out 21 (omega arith)

own_lack_out : (b m : List ℕ) (c : MissionCall) → MissionLacks b m c → own_out c (lack_answer (own c)) ≡ refused_own c (lack_number c)
own_lack_out b m (sets s) w = refl
own_lack_out b m (hears rs p slot second octets output) w = ended_lack (too_long rs)
own_lack_out b m (echoes rs p slot octets output) w = replied_lack (too_long rs)
own_lack_out b m (takes p) w = rw (refusal_out 16 (omega arith))
own_lack_out b m (sweeps second) w = refl
own_lack_out b m (looks (group_word i word)) w = rw read_21
own_lack_out b m (looks (path_word i word)) w = rw read_21
own_lack_out b m (looks (pair_word i word)) w = rw read_21
own_lack_out b m (looks last_second) w = rw read_21
own_lack_out b m (looks (search rs a)) w = refl
own_lack_out b m (looks (counter i)) w = rw read_21
own_lack_out b m (looks (waiting p)) w = rw read_21
own_lack_out b m (looks (read octets)) w = absurd w
own_lack_out b m (looks (build fields size output)) w = absurd w
own_lack_out b m (looks (class a)) w = absurd w
own_lack_out b m (looks (form p)) w = absurd w
own_lack_out b m (looks (checksum octets)) w = absurd w
own_lack_out b m (looks (read_echo octets)) w = absurd w
own_lack_out b m (looks (build_request i n echoed output)) w = absurd w
own_lack_out b m (looks (build_reply i n seen echoed output)) w = absurd w
own_lack_out b m (looks board_size) w = absurd w
own_lack_out b m (looks mission_size) w = absurd w

other_words : (w : Words) (c : Step) (x : Result) → Lacks w c → Says (made w c) x → AnswersLack c x × (x.left ≡ lent_to (made w c))
other_words w (operates (orders o)) x lacks says =
    let c = operator (orders o) in
    let is = left_whole w.board [] c (lack_answer c) (operator_lacks w.board [] (orders o) lacks) x (says_row (made_by w.board [] c) x says) in
    (ap outcome.number is.0, is.1)
other_words w (operates (views v)) x lacks says =
    let c = operator (views v) in
    let is = left_whole w.board [] c (lack_answer c) (operator_lacks w.board [] (views v) lacks) x (says_row (made_by w.board [] c) x says) in
    (ap (λ (n : ℕ). outcome.number (refusal_in n)) is.0 ∙ ap outcome.number read_21, is.1)
other_words w (flies who c) x lacks says =
    let b = w.board in
    let m = mission_of who w in
    let is = left_whole b m (own c) (lack_answer (own c)) (own_lacks b m c lacks) x (says_row (made_by b m (own c)) x says) in
    (ap (own_out c) is.0 ∙ own_lack_out b m c lacks, is.1)

long_out : (c : Call) → HasLong c → read_out c (long_answer c) ≡ refused_as c 21
long_out (operator (orders o)) h = refl
long_out (operator (views v)) h = ap outcome.number read_21
long_out (own (sets s)) h = absurd h
long_out (own (hears rs p slot second octets output)) h = refl
long_out (own (echoes rs p slot octets output)) h = refl
long_out (own (takes p)) h = absurd h
long_out (own (sweeps second)) h = absurd h
long_out (own (looks (group_word i word))) h = absurd h
long_out (own (looks (path_word i word))) h = absurd h
long_out (own (looks (pair_word i word))) h = absurd h
long_out (own (looks last_second)) h = absurd h
long_out (own (looks (search rs a))) h = refl
long_out (own (looks (counter i))) h = absurd h
long_out (own (looks (waiting p))) h = absurd h
long_out (own (looks (read octets))) h = absurd h
long_out (own (looks (build fields size output))) h = absurd h
long_out (own (looks (class a))) h = absurd h
long_out (own (looks (form p))) h = absurd h
long_out (own (looks (checksum octets))) h = absurd h
long_out (own (looks (read_echo octets))) h = absurd h
long_out (own (looks (build_request i n echoed output))) h = absurd h
long_out (own (looks (build_reply i n seen echoed output))) h = absurd h
long_out (own (looks board_size)) h = absurd h
long_out (own (looks mission_size)) h = absurd h

long_lists : (w : Words) (who : Customer) (c : Call) (x : Result) → HasLong c → Says (made w (step_of who c)) x
    → (read_out c x.answer ≡ refused_as c 21) × (x.left ≡ lent_to (made w (step_of who c)))
long_lists w who (operator c) x h says =
    let b = w.board in
    let row = says_row (made_by b [] (operator c)) x says in
    let is = left_whole b [] (operator c) (long_answer (operator c)) (long_left b [] (operator c) h) x row in
    (ap (read_out (operator c)) is.0 ∙ long_out (operator c) h, is.1)
long_lists w who (own c) x h says =
    let b = w.board in
    let m = mission_of who w in
    let is = left_whole b m (own c) 21 (long_left b m (own c) h) x (says_row (made_by b m (own c)) x says) in
    (ap (read_out (own c)) is.0 ∙ long_out (own c) h, is.1)

-- ---- words of numbers that are not as many as those have
module _ (n : List ℕ) where
  read_other : (length n ≡ reading_count → ⊥) → (r : Reading) → (read_answer (length n) r ≡ 21) × (read_left r n ≡ n)
  unfolding read_answer read_left
  read_other wrong r = (rw (ne_eqb (length n) reading_count wrong), rw (ne_eqb (length n) reading_count wrong))

  build_other : (length n ≡ field_words → ⊥) → (size room : ℕ) (o : List ℕ)
      → (build_words_answer n size room ≡ refusal_number 21) × (build_words_output n size o ≡ o)
  unfolding build_words_answer build_words_output
  build_other wrong size room o = (rw (ne_eqb (length n) field_words wrong), rw (ne_eqb (length n) field_words wrong))

  message_other : (length n ≡ message_count → ⊥) → (r : Message) → (messages.read_answer (length n) r ≡ 21) × (messages.read_left r n ≡ n)
  unfolding messages.read_answer messages.read_left
  message_other wrong r = (rw (ne_eqb (length n) message_count wrong), rw (ne_eqb (length n) message_count wrong))

-- ---- a call that hears no datagram and answers none counts nothing
no_moves : (x : Seat) (c : MissionCall) → counts_nothing c ≡ true → (outcome.own_outcome x c).moves ≡ []
no_moves x (sets s) h = refl
no_moves x (hears rs p slot second octets output) h = true_false (sym h)
no_moves x (echoes rs p slot octets output) h = true_false (sym h)
no_moves x (takes p) h = quiet_taking p (take_outcome (relay_in x) p)
no_moves x (sweeps second) h = refl
no_moves x (looks l) h = refl

counters_stay : (who : Customer) (steps : List Step) (c : MissionCall) (x : Result) (g : Gives steps (flies who c) x) → counts_nothing c ≡ true
    → (decode (mission_of who (words_after g.before (flies who c) x))).counters ≡ (decode (mission_of who g.before)).counters
counters_stay who steps c x g none =
    ap (λ (s : State). s.counters) (gives_next who steps (own c) x g)
    ∙ ap (λ (moves : List Move). counted_all (counters who steps) moves) (no_moves (seat_of who steps) c none)
    ∙ ap (λ (s : State). s.counters) (sym (before_own who steps (flies who c) x g))

pub demand_1 : Demand1
demand_1 =
    record {
      ends = λ c passable.
          let a = each_call_answers c passable in
          (a.0, (λ y. row_contract y a.0 c (says_row c a.0 a.1), λ y says. one_result_by_contract c y a.0 says a.1));
      fresh_board_lem = λ w x says. (
        λ right.
            let told = fresh_board_answers w x says right in
            (told, (held_board x.left.board fresh_board (fresh_board_holds w x says told)).1),
        fresh_board_refused w x says,
      );
      fresh_mission_lem = λ w n x says. (
        λ right. (
          fresh_mission_answers w n x says right,
          λ told. (held_words x.left.mission (fresh_state n) (fresh_mission_holds w n x says told)).1,
        ),
        fresh_mission_refused w n x says,
      );
      lasts = gives_lasts;
      stated = λ who steps c x g.
          let is = read_out_lem who steps c x g in
          (is, ap (stands (answers_of c)) is ∙ every_answer_is_listed (seat_of who steps) c);
      other_words = other_words;
      long_lists = long_lists;
      other_numbers = λ octets n size o x y z reads builds echo.
          let read = says_row (hj_read_words octets n) x reads in
          let built = says_row (hj_build_words n size o) y builds in
          let message = says_row (hj_read_echo_words octets n) z echo in (
            λ wrong. (read.answer ∙ (read_other n wrong _).0, read.numbers ∙ (read_other n wrong _).1),
            (
              λ wrong. (built.answer ∙ (build_other n wrong size (length o) o).0, built.output ∙ (build_other n wrong size (length o) o).1),
              λ wrong. (message.answer ∙ (message_other n wrong _).0, message.numbers ∙ (message_other n wrong _).1),
            ),
          );
      nobody_checks_first = goal.nobody_checks_first;
      refusal_leaves = λ who steps c x g h. call_leaves who steps c x g (is_refused who steps c x g h);
      refusal_remembers = λ who steps c x g h. call_remembers who steps c x g (is_refused who steps c x g h);
      untaken_leaves = λ who steps rs p slot second octets output x g none.
          heard_unchanged who steps rs p slot second octets output x g (sym (told who steps rs p slot second octets output x g).took ∙ none);
      untaken_remembers = λ who steps rs p slot second octets output x g none.
          heard_leaves who steps rs p slot second octets output x g (sym (told who steps rs p slot second octets output x g).took ∙ none);
      counters_move = λ who steps c x g i inside.
          counters_move who steps c x g i inside
          ∙ ap (λ (n : ℕ). (counter_at (mission_of who g.before) i + n) % 2 ^ 32) (moves_as_written (seat_of who steps) (own c) i inside);
      counters_stay = counters_stay;
      transport_alone = λ who steps rs p slot second s t output h k x y. alone who steps rs p slot second output s t h k x y;
    }
