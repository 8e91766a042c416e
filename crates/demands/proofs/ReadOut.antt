-- What C reads out of an answer is what the rules say: the theorem is `read_out_lem`. Assumes nothing.
use native.Mathlib.Omega.{arith}
use Prim.Native.Nat.{ℕ, ◌%◌, ◌^◌, ◌<◌}
use mathlib.Core.Path.{◌≡◌, refl, sym, ap, ◌∙◌}
use mathlib.Core.Logic.{◌↔◌, ◌≢◌}
use mathlib.Core.Bool.{Bool, true, false}
use mathlib.Core.List.{List, [], ◌∷◌}
use lib.ListN.{length}
use lib.Dec.{eqb, ltb}
use borrow.Author.Tests.{eqb-true, ltb-true, ltb-false, ne_eqb}
use Rattle.checks.specs.Order.{pick, first_of}
use Rattle.checks.specs.Answer.{refusal_number}
use Rattle.header.specs.Build.{size_of, built_by}
use Rattle.header.specs.Limits.{lacks_room, most_data, too_much_data}
use Rattle.header.proofs.BuiltLaws.{built_size}
use Rattle.echo.specs.Message.{echo_checks, message_of, reading_of as echo_of}
use Rattle.echo.specs.Built.{size_with, build_checks, built_of}
use Rattle.echo.specs.declared.Kind.TheVariants.{Reply}
use Rattle.echo.specs.declared.Message.{Message}
use Rattle.checks.specs.Told.{Good, Refused}
use Rattle.numbers.specs.Fields.{fields_from}
use Rattle.numbers.specs.Words.{Words}
use Rattle.numbers.specs.declared.Numbers.{Numbers}
use Rattle.queue.specs.Waits.{Chosen, nobody, one, chosen, rank_by}
use Rattle.queue.proofs.Waits.{EachOf, chosen_each}
use Rattle.sets.specs.Limits.{port_count, counter_count}
use Rattle.state.specs.Relay.{port_set_up}
use Rattle.lent_state.specs.View.{too_long}
use Rattle.refusals.proofs.Chains.{decided}
use Rattle.answers.specs.Answers.{taking_number, refusal_in}
use Rattle.answers.proofs.Digits.{entry_parts}
use Rattle.harpjuniper.specs.Face.{fields_out, numbers_checks, build_answer}
use Rattle.harpjuniper.proofs.Promises.{fields_in}
use Rattle.harpjuniper_relay.specs.Face.{counter_answer, waiting_answer}
use Rattle.harpjuniper_messages.specs.Face.{refusal_in as read_refusal, request_of, built_answer}
use Rattle.contracts.specs.Promised.{Result}
use Rattle.history.specs.Seat.{Seat}
use Rattle.history.specs.Calls.{
  View,
  router_flag,
  lifetime_word,
  drop_flag,
  port_word,
  record_word,
  orders,
  views,
  Look,
  group_word,
  path_word,
  pair_word,
  last_second,
  search,
  counter,
  waiting,
  read,
  build,
  class,
  form,
  checksum,
  read_echo,
  build_request,
  build_reply,
  board_size,
  mission_size,
  MissionCall,
  sets,
  hears,
  echoes,
  takes,
  sweeps,
  looks,
  Call,
  operator,
  own,
}
use Rattle.history.specs.Looks.{view_number, message_from, look_number}
use Rattle.history.specs.Line.{Copy, entry_of, taking_of, line_at}
use Rattle.history.specs.Outcome.{seat_after}
use Rattle.history.specs.Outcome as outcome
use Rattle.history.specs.Tally.{state_after}
use Rattle.history.specs.Ranges.{CopyFits}
use Rattle.history.proofs.Counters.{counters_fit}
use Rattle.history.proofs.Ranges.{in_range, waiting_fits, seconds_fit}
use Rattle.history.proofs.Takes.{take_is}
use Rattle.history.proofs.ReadBack.{read_back}
use Rattle.demands.specs.Trace.{Customer, number_of, Step, operates, flies, step_of, history_of, seat_of, relay_of, Gives}
use Rattle.demands.specs.ReadOut.{taken_out, look_out, own_out, read_out}
use Rattle.demands.proofs.Fitting.{value_out, refusal_out, history_passed, port_out, group_out, path_out, pair_out, record_out}
use Rattle.demands.proofs.Told.{gives_row, setting_told, order_seen}
use Rattle.demands.proofs.Replied.{reply_back}

-- where a test decides between a value and a refusal
either_out : (t : Bool) (value n : ℕ) → (t ≡ true → value < 2 ^ 32) → n < 2 ^ 32 → refusal_in (pick t value (refusal_number n)) ≡ pick t 0 n
either_out true value n small h = value_out value (small refl)
either_out false value n small h = refusal_out n h

-- ---- takes
module _ (p : ℕ) where
  refused_out : (n : ℕ) → n < 2 ^ 32 → (n ≡ 0 → ⊥) → taken_out (refusal_number n) ≡ outcome.number n
  refused_out n small some = let is = refusal_out n small in rw (is, ne_eqb n 0 some)

  taken_out_lem : (t : Bool) (c : Chosen Copy) → EachOf (rank_by entry_of) CopyFits c
      → taken_out (taking_number (taking_of t c)) ≡ (outcome.of_taking p (taking_of t c)).answer
  taken_out_lem false c fits = refused_out 16 (omega arith) (λ z. omega arith)
  taken_out_lem true nobody fits = refused_out 18 (omega arith) (λ z. omega arith)
  taken_out_lem true (one x others) fits =
      let parts = entry_parts x.entry.slot.0 x.entry.precedence fits.0.0.1 (omega (arith, fits.0.0.0)) in
      rw (parts.refusal, parts.slot, parts.precedence)

-- ---- looks
module _ (m : ℕ) (cs : List Call) where
  counter_out : (i : ℕ) → refusal_in (counter_answer (state_after m cs).counters i) ≡ pick (ltb i counter_count) 0 21
  unfolding counter_answer
  counter_out i = either_out (ltb i counter_count) _ 21 (λ h. (counters_fit i (ltb-true i counter_count h) m cs).small) (omega arith)

  waiting_out : (p : ℕ) → refusal_in (waiting_answer (seat_after m cs).mission p) ≡ pick (ltb p port_count) 0 21
  unfolding waiting_answer
  waiting_out p =
      either_out (ltb p port_count) _ 21 (λ h. let most = (in_range m cs).queues p (ltb-true p port_count h) in omega (arith, most)) (omega arith)

-- a search: sixteen bits
search_out : (t : Bool) (n : ℕ) → pick t 21 n % 2 ^ 16 ≡ pick t 21 (n % 2 ^ 16)
search_out true n = refl
search_out false n = refl

-- building: the header has at most 50 octets, and a refusal is 17, 19 or 20
answer_out : (t : Bool) (n value : ℕ) → eqb n 0 ≡ t → (n ≡ 0 → value < 2 ^ 32) → n < 2 ^ 32 → refusal_in (pick t value (refusal_number n)) ≡ n
answer_out true n value e small h = value_out value (small (eqb-true n 0 e)) ∙ sym (eqb-true n 0 e)
answer_out false n value e small h = refusal_out n h

build_low : (a b c : Bool) → first_of ((a, 17) ∷ (b, 19) ∷ (c, 20) ∷ []) < 2 ^ 32
unfolding first_of
build_low true b c = omega arith
build_low false true c = omega arith
build_low false false true = omega arith
build_low false false false = omega arith

build_out : (fields : Numbers) (size room : ℕ) → Words fields → refusal_in (build_answer fields size room) ≡ first_of (numbers_checks fields size room)
unfolding build_answer numbers_checks
build_out fields size room words =
    let n = first_of ((lacks_room room, 17) ∷ (fields_out fields, 19) ∷ (too_much_data size, 20) ∷ []) in
    answer_out (eqb n 0) n (size_of (fields_from fields)) refl
    (λ z.
    let none = (decided ((lacks_room room, 17) ∷ (fields_out fields, 19) ∷ (too_much_data size, 20) ∷ []) refl).0.0 z in
    let most = (built_size (fields_from fields) (fields_in fields words none.1.0)).1 in
    omega (arith, most))
    (build_low (lacks_room room) (fields_out fields) (too_much_data size))

-- a value, or a refusal above its 32 bits: which refusal it is, and that there is none
pub told_refusal : (n m value : ℕ) (t : Bool) → eqb m 0 ≡ t → (m ≡ 0 → value < 2 ^ 32) → n ≢ 0 → (pick t value (refusal_number m) ≡ refusal_number n) ↔ (m ≡ n)
told_refusal n m value true e small some = (
  λ is. absurd (let low = small (eqb-true m 0 e) in some (omega (arith, is, low))),
  λ is. absurd (some (sym is ∙ eqb-true m 0 e)),
)
told_refusal n m value false e small some = (λ is. omega (arith, is), λ is. ap refusal_number is)

pub told_value : (m value : ℕ) (t : Bool) → eqb m 0 ≡ t → pick t value (refusal_number m) < 2 ^ 32 → m ≡ 0
told_value m value true e low = eqb-true m 0 e
told_value m value false e low = omega (arith, low)

-- echo messages: what is read is refused by the first check that holds, and what is built has at most 8,141 octets
pub message_refusal : (s : List ℕ) → read_refusal (echo_of s) ≡ first_of (echo_checks s)
unfolding echo_of
message_refusal s = let n = first_of (echo_checks s) in by n (message_of s) (eqb n 0) refl
  where
    by : (n : ℕ) (k : Message) (t : Bool) → eqb n 0 ≡ t → read_refusal (pick t (Good k) (Refused n)) ≡ n
    by n k true e = sym (eqb-true n 0 e)
    by n k false e = refl

message_low : (a b : Bool) → first_of ((a, 17) ∷ (b, 20) ∷ []) < 2 ^ 32
unfolding first_of
message_low true b = omega arith
message_low false true = omega arith
message_low false false = omega arith

-- the answer as one choice
pub built_as : (k : Message) (n room : ℕ)
    → built_answer (built_of k n room)
    ≡ pick (eqb (first_of (build_checks k n room)) 0) (size_with k n) (refusal_number (first_of (build_checks k n room)))
unfolding built_of
built_as k n room = by (first_of (build_checks k n room)) (eqb (first_of (build_checks k n room)) 0) refl
  where
    by : (m : ℕ) (t : Bool) → eqb m 0 ≡ t → built_answer (built_by m (size_with k n)) ≡ pick t (size_with k n) (refusal_number m)
    by m true e = rw e
    by m false e = rw e

pub message_small : (k : Message) (n room : ℕ) → first_of (build_checks k n room) ≡ 0 → size_with k n < 2 ^ 32
unfolding build_checks
message_small k n room z =
    let none = (decided (build_checks k n room) refl).0.0 z in
    let most = ltb-false most_data (size_with k n) none.1.0 in
    omega (arith, most)

message_numbers : (k : Message) (n room : ℕ) → first_of (build_checks k n room) < 2 ^ 32
unfolding build_checks
message_numbers k n room = message_low (ltb room (size_with k n)) (too_much_data (size_with k n))

message_out : (k : Message) (n room : ℕ) → refusal_in (built_answer (built_of k n room)) ≡ first_of (build_checks k n room)
message_out k n room =
    let m = first_of (build_checks k n room) in
    ap refusal_in (built_as k n room) ∙ answer_out (eqb m 0) m (size_with k n) refl (message_small k n room) (message_numbers k n room)

module _ (who : Customer) (steps : List Step) where
  abbrev h : List Call
  h = history_of who steps

  abbrev m : ℕ
  m = number_of who

  abbrev seat : Seat
  seat = seat_of who steps

  view_out : (v : View) (x : Result) → Gives steps (operates (views v)) x → refusal_in x.answer ≡ view_number v
  view_out router_flag x g =
      let flag = (in_range m h).flags.router in
      ap refusal_in (gives_row who steps (operator (views router_flag)) x g).answer ∙ value_out seat.board.router (omega (arith, flag))
  view_out lifetime_word x g =
      ap refusal_in (gives_row who steps (operator (views lifetime_word)) x g).answer
      ∙ value_out seat.board.lifetime (seconds_fit m h (history_passed who steps g.begun.passed)).1
  view_out drop_flag x g =
      let flag = (in_range m h).flags.drop in
      ap refusal_in (gives_row who steps (operator (views drop_flag)) x g).answer ∙ value_out seat.board.drop (omega (arith, flag))
  view_out (port_word p word) x g =
      ap refusal_in (gives_row who steps (operator (views (port_word p word))) x g).answer ∙ port_out who steps g.begun.passed p word
  view_out (record_word rs i word) x g =
      ap refusal_in (gives_row who steps (operator (views (record_word rs i word))) x g).answer ∙ record_out rs i word g.passes

  look_out_lem : (l : Look) (x : Result) → Gives steps (flies who (looks l)) x → look_out l x.answer ≡ look_number seat l
  look_out_lem (group_word i word) x g =
      ap refusal_in (gives_row who steps (own (looks (group_word i word))) x g).answer ∙ group_out who steps g.begun.passed i word
  look_out_lem (path_word i word) x g =
      ap refusal_in (gives_row who steps (own (looks (path_word i word))) x g).answer ∙ path_out who steps g.begun.passed i word
  look_out_lem (pair_word i word) x g =
      ap refusal_in (gives_row who steps (own (looks (pair_word i word))) x g).answer ∙ pair_out who steps g.begun.passed i word
  look_out_lem last_second x g =
      ap refusal_in (gives_row who steps (own (looks last_second)) x g).answer
      ∙ value_out seat.memory.last (seconds_fit m h (history_passed who steps g.begun.passed)).0
  look_out_lem (search rs a) x g =
      ap (λ (n : ℕ). n % 2 ^ 16) (gives_row who steps (own (looks (search rs a))) x g).answer ∙ search_out (too_long rs) _
  look_out_lem (counter i) x g = ap refusal_in (gives_row who steps (own (looks (counter i))) x g).answer ∙ counter_out m h i
  look_out_lem (waiting p) x g = ap refusal_in (gives_row who steps (own (looks (waiting p))) x g).answer ∙ waiting_out m h p
  look_out_lem (read octets) x g = (gives_row who steps (own (looks (read octets))) x g).answer
  look_out_lem (build fields size output) x g =
      ap refusal_in (gives_row who steps (own (looks (build fields size output))) x g).answer ∙ build_out fields size (length output) g.passes
  look_out_lem (class a) x g = (gives_row who steps (own (looks (class a))) x g).answer
  look_out_lem (form p) x g = (gives_row who steps (own (looks (form p))) x g).answer
  look_out_lem (checksum octets) x g = (gives_row who steps (own (looks (checksum octets))) x g).answer
  look_out_lem (read_echo octets) x g = (gives_row who steps (own (looks (read_echo octets))) x g).answer ∙ message_refusal octets
  look_out_lem (build_request i n echoed output) x g =
      ap refusal_in (gives_row who steps (own (looks (build_request i n echoed output))) x g).answer ∙ message_out (request_of i n) (length echoed) (length output)
  look_out_lem (build_reply i n seen echoed output) x g =
      ap refusal_in (gives_row who steps (own (looks (build_reply i n seen echoed output))) x g).answer
      ∙ message_out (message_from (Reply seen) i n) (length echoed) (length output)
  look_out_lem board_size x g = (gives_row who steps (own (looks board_size)) x g).answer
  look_out_lem mission_size x g = (gives_row who steps (own (looks mission_size)) x g).answer

  own_out_lem : (c : MissionCall) (x : Result) → Gives steps (flies who c) x → own_out c x.answer ≡ (outcome.own_outcome seat c).answer
  own_out_lem (sets s) x g = ap outcome.number (setting_told who steps x s g)
  own_out_lem (hears rs p slot second octets output) x g =
      let c = hears rs p slot second octets output in
      let back = read_back seat rs p second octets (length output) in
      ap (own_out c) (gives_row who steps (own c) x g).answer ∙ rw (back.refusal, back.local, back.onward, back.took)
  own_out_lem (echoes rs p slot octets output) x g =
      let c = echoes rs p slot octets output in
      let back = reply_back seat rs p octets output in
      ap (own_out c) (gives_row who steps (own c) x g).answer ∙ rw (back.at_0, back.at_16, back.at_24)
  own_out_lem (takes p) x g =
      let line = line_at p m h in
      let is = take_is m h p in
      ap taken_out (gives_row who steps (own (takes p)) x g).answer
      ∙ ap (λ t. taken_out (taking_number t)) is
      ∙ taken_out_lem p (port_set_up (relay_of who steps) p) (chosen (rank_by entry_of) line)
      (chosen_each (rank_by entry_of) CopyFits line (waiting_fits p m h (history_passed who steps g.begun.passed)))
      ∙ ap (λ t. (outcome.of_taking p t).answer) (sym is)
  own_out_lem (sweeps second) x g = ap outcome.number (gives_row who steps (own (sweeps second)) x g).answer
  own_out_lem (looks l) x g = ap outcome.number (look_out_lem l x g)

  -- What C reads out of the answer to any call is what the rules give after the customer's history.
  pub read_out_lem : (c : Call) (x : Result) → Gives steps (step_of who c) x → read_out c x.answer ≡ (outcome.outcome seat c).answer
  read_out_lem (operator (orders o)) x g = ap outcome.number (order_seen who steps x o g).0
  read_out_lem (operator (views v)) x g = ap outcome.number (view_out v x g)
  read_out_lem (own c) x g = own_out_lem c x g
