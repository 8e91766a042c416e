-- Which calls leave all that is lent as it is: those that are refused, but for the counters of a datagram; those that are lent words of the wrong number;
-- and those that are lent too long a list. Each is shown of the call's row, which then is that of a look. Assumes nothing.
use Prim.Native.Nat.{ℕ}
use mathlib.Core.Path.{◌≡◌, refl, sym, ap, ap₂, subst, ◌∙◌}
use mathlib.Core.Bool.{Bool, true, false, not}
use mathlib.Core.Logic.{◌⊎◌, ⊎_elim}
use mathlib.Core.List.{List}
use lib.ListN.{length, replicate}
use lib.Dec.{eqb}
use borrow.Author.Tests.{eq-eqb, not-true}
use Rattle.checks.specs.Order.{pick, first_of}
use Rattle.checks.specs.Answer.{refusal_number}
use Rattle.checks.proofs.Bools.{true_false}
use Rattle.address.specs.declared.Slot.{Slot}
use Rattle.header.specs.Read.{read_of, Read}
use Rattle.checks.specs.Told.{Good, Refused}
use Rattle.header.specs.Build.{built_by, output_by}
use Rattle.echo.specs.Message.{message_octets, reading_of as echo_of, Reading}
use Rattle.echo.specs.Built.{size_with, build_checks, built_of, built_output}
use Rattle.echo.specs.declared.Kind.TheVariants.{Reply}
use Rattle.echo.specs.declared.Message.{Message}
use Rattle.numbers.specs.InWords.{numbers_words}
use Rattle.routes.specs.declared.Record.{Record}
use Rattle.state.specs.Relay.{Relay, Memory}
use Rattle.state.specs.Seen.{Board, State, seated}
use Rattle.refusals.specs.Lists.{route_checks, clear_route_checks}
use Rattle.adjust.specs.Settled.{new_record, settled_route, cleared_route}
use Rattle.taking.specs.Taking.{take_outcome, taken_relay, Taking}
use Rattle.tally.specs.Tally.{counter_for, counted_at, counted_all}
use Rattle.floods.specs.Sweep.{swept, sweep_checks, swept_memory}
use Rattle.judge.specs.Ending.{refused_by}
use Rattle.judge.specs.declared.Ending.{Ending}
use Rattle.replies.specs.Replied.{no_reply, replied_to, replied_output}
use Rattle.replies.specs.declared.Answering.{Answering}
use Rattle.replies.specs.declared.sending.Replied.{Replied}
use Rattle.answering.specs.Echoed.{as_ending, echo_answering, echo_reply, replied_state}
use Rattle.relay.specs.Received.{heard_ending, heard_memory, received_state}
use Rattle.relay.specs.Outgoing.{sent_output}
use Rattle.lent_state.specs.View.{Lent, Held, Other, lent_board, lent, by_lent, on_lent, told_board, changed_board, told, changed, told_both, changed_both, too_long}
use Rattle.lent_state.proofs.Calls.{board_other_told, board_other_changed, other_told, other_changed}
use Rattle.lent_state.proofs.Calls.{no_board_told, no_board_changed, no_mission_told, no_mission_changed}
use Rattle.lent_state.proofs.Same.{board_injective, lent_injective}
use Rattle.harpjuniper.specs.Face.{reading_of, reading_words, reading_count, numbers_checks, build_output}
use Rattle.harpjuniper_messages.specs.Face.{message_count, refusal_in as read_refusal, left_by, request_of}
use Rattle.harpjuniper_echo.specs.Face.{echo_answer, echo_words, echo_output}
use Rattle.harpjuniper_routes.specs.Face.{search_told, route_word_told}
use Rattle.harpjuniper_receive.specs.Face.{receive_answer, receive_words, receive_output}
use Rattle.contracts.specs.Promised.{Things, Result, Promise, Allows, lent_to, looking, promised}
use Rattle.contracts.proofs.OneResult.{same_things}
use Rattle.history.specs.Looks.{message_from}
use Rattle.history.specs.Seat.{Seat, state_of, relay_in}
use Rattle.history.specs.Outcome.{is_refusal, of_taking, outcome}
use Rattle.history.specs.Calls.{
  Order,
  set_router,
  set_port,
  set_lifetime,
  set_drop,
  set_route,
  clear_route,
  View,
  router_flag,
  lifetime_word,
  drop_flag,
  port_word,
  record_word,
  OperatorCall,
  orders,
  views,
  Setting,
  set_group,
  set_path,
  clear_group,
  clear_path,
  Look,
  group_word,
  path_word,
  pair_word,
  last_second,
  search,
  counter,
  waiting,
  read as read_header,
  build,
  class,
  form,
  checksum,
  read_echo,
  build_request,
  build_reply,
  board_size,
  mission_size,
  MissionCall,
  sets,
  hears,
  echoes,
  takes,
  sweeps,
  looks,
  Call,
  operator,
  own,
  order_checks,
  board_written,
  board_left,
  list_lent,
  list_written,
  list_left,
  checks_of,
  written,
  settle,
}
use Rattle.history.proofs.Refusals.{nobody_took, output_as_lent, refused_take_leaves}
use Rattle.demands.specs.ReadOut.{counts_nothing}
use Rattle.demands.specs.Demand1.{NoBoard, NoMission, OperatorLacks, MissionLacks, HasLong}
use Rattle.demands.proofs.Lane.{made_by}
use Rattle.demands.proofs.Promised.{promised_by, next_state}
use Rattle.demands.proofs.ReadOut.{message_refusal}
use Rattle.demands.proofs.Held.{either_way, same_promise, quiet_taking}

-- Where a call's promise is that of a look, all is left as it was lent.
pub whole : (t : Things) (answer : ℕ) (x : Result) → Allows (looking t answer) x → x.left ≡ t
whole t answer x k =
    same_things
    (board_injective x.left.board t.board k.board)
    (lent_injective x.left.mission t.mission k.mission)
    k.routes
    k.output
    k.numbers

-- a call's promise is that of a look that answers n
abbrev pub Leaves : List ℕ → List ℕ → Call → ℕ → Type 0
Leaves b m c n = promised (made_by b m c) ≡ looking (lent_to (made_by b m c)) n

pub left_whole : (b m : List ℕ) (c : Call) (n : ℕ) → Leaves b m c n → (x : Result) → Allows (promised (made_by b m c)) x
    → (x.answer ≡ n) × (x.left ≡ lent_to (made_by b m c))
left_whole b m c n is x k =
    let row = subst (λ (p : Promise). Allows p x) is k in
    (row.answer, whole (lent_to (made_by b m c)) n x row)

-- ---- refused
settle_case : {A : Type 0} (n : ℕ) (new old : A) (t : Bool) → eqb n 0 ≡ t → not (eqb n 0) ≡ true → pick t new old ≡ old
settle_case n new old true e h = true_false (sym (sym (ap not e) ∙ h))
settle_case n new old false e h = refl

settled_old : {A : Type 0} (n : ℕ) (new old : A) → not (eqb n 0) ≡ true → pick (eqb n 0) new old ≡ old
settled_old n new old h = settle_case n new old (eqb n 0) refl h

taken_old : (r : Relay) (p : ℕ) (t : Taking) → take_outcome r p ≡ t → is_refusal (of_taking p t).answer ≡ true → taken_relay r p ≡ r
taken_old r p (Good e) is h = true_false (sym h)
taken_old r p (Refused n) is h = refused_take_leaves r p n is

-- of an echo message that is refused
refused_message : (r : Reading) → not (eqb (read_refusal r) 0) ≡ true → left_by r (replicate message_count 0) ≡ replicate message_count 0
refused_message (Refused n) h = refl
refused_message (Good k) h = true_false (sym h)

-- and of one that is not built
pub unbuilt : (k : Message) (echoed output : List ℕ) → not (eqb (first_of (build_checks k (length echoed) (length output))) 0) ≡ true
    → built_output k echoed output ≡ output
unfolding built_output built_of
unbuilt k echoed output h = by (first_of (build_checks k (length echoed) (length output))) h
  where
    by : (n : ℕ) → not (eqb n 0) ≡ true → output_by (built_by n (size_with k (length echoed))) (message_octets k echoed) output ≡ output
    by n some = ap (λ (t : Bool). output_by (pick t (Good (size_with k (length echoed))) (Refused n)) (message_octets k echoed) output) (not-true (eqb n 0) some)

-- what is written of a reply that no port took
pub reply_unwritten : (a : Answering) (e : Replied) (octets output : List ℕ) → e.ruling.took ≡ 0 → replied_output a e octets output ≡ output
unfolding replied_output
reply_unwritten a e octets output none = rw (eq-eqb e.ruling.took 0 none)

refused_reading : (r : Read) → not (eqb (reading_of r).refusal 0) ≡ true → reading_words (reading_of r) ≡ replicate reading_count 0
unfolding reading_of reading_words numbers_words
refused_reading (Refused n) h = refl
refused_reading (Good k) h = true_false (sym h)

module _ (b m : List ℕ) (x : Seat) (l : List ℕ) (board : lent_board b ≡ Held x.board) (mission : lent m ≡ Held (state_of x l)) where
  abbrev LeftBy : Call → Type 0
  LeftBy c = is_refusal (outcome x c).answer ≡ true → promised_by x l c ≡ looking (lent_to (made_by b m c)) (promised_by x l c).answer

  same_board : {p : Board} → p ≡ x.board → Held p ≡ lent_board b
  same_board e = ap Held e ∙ sym board

  same_relay : (r : Relay) → r ≡ relay_in x → Held (record { number = x.number; mission = r.mission; memory = x.memory; counters = l }) ≡ lent m
  same_relay r e = ap (λ (z : Relay). Held (record { number = x.number; mission = z.mission; memory = x.memory; counters = l })) e ∙ sym mission

  -- what a refused setting would have written is not
  board_old : (o : Order) → is_refusal (outcome x (operator (orders o))).answer ≡ true → board_left x.board o ≡ x.board
  board_old o h = settled_old (first_of (order_checks x.board o)) (board_written x.board o) x.board h

  list_old : (o : Order) → is_refusal (outcome x (operator (orders o))).answer ≡ true → list_left x.board o ≡ list_lent o
  list_old o h = settled_old (first_of (order_checks x.board o)) (list_written o) (list_lent o) h

  relay_old : (s : Setting) → is_refusal (outcome x (own (sets s))).answer ≡ true → settle (relay_in x) s ≡ relay_in x
  relay_old s h = settled_old (first_of (checks_of (relay_in x) s)) (written (relay_in x) s) (relay_in x) h

  order_left : (o : Order) → LeftBy (operator (orders o))
  order_left (set_router y) h = same_promise refl (same_board (board_old (set_router y) h)) refl refl refl refl
  order_left (set_port p address mask mtu number) h =
      same_promise refl (same_board (board_old (set_port p address mask mtu number) h)) refl refl refl refl
  order_left (set_lifetime y) h = same_promise refl (same_board (board_old (set_lifetime y) h)) refl refl refl refl
  order_left (set_drop y) h = same_promise refl (same_board (board_old (set_drop y) h)) refl refl refl refl
  order_left (set_route rs i prefix mask p availability capabilities number) h =
      same_promise refl (sym board) refl (list_old (set_route rs i prefix mask p availability capabilities number) h) refl refl
  order_left (clear_route rs i) h = same_promise refl refl refl (list_old (clear_route rs i) h) refl refl

  view_left : (v : View) → LeftBy (operator (views v))
  view_left router_flag h = same_promise refl (sym board) refl refl refl refl
  view_left lifetime_word h = same_promise refl (sym board) refl refl refl refl
  view_left drop_flag h = same_promise refl (sym board) refl refl refl refl
  view_left (port_word p word) h = same_promise refl (sym board) refl refl refl refl
  view_left (record_word rs i word) h = refl

  own_old : (s : Setting) → is_refusal (outcome x (own (sets s))).answer ≡ true → Held (next_state x l (own (sets s))) ≡ lent m
  own_old s h = same_relay (settle (relay_in x) s) (relay_old s h)

  setting_left : (s : Setting) → LeftBy (own (sets s))
  setting_left (set_group i address send subscribed) h =
      same_promise refl (sym board) (own_old (set_group i address send subscribed) h) refl refl refl
  setting_left (set_path i path send here) h = same_promise refl (sym board) (own_old (set_path i path send here) h) refl refl refl
  setting_left (clear_group i) h = same_promise refl refl (own_old (clear_group i) h) refl refl refl
  setting_left (clear_path i) h = same_promise refl refl (own_old (clear_path i) h) refl refl refl

  take_left : (p : ℕ) → LeftBy (own (takes p))
  take_left p h =
      same_promise refl (sym board)
      (ap (λ moves. Held (record { number = x.number; mission = (taken_relay (relay_in x) p).mission; memory = x.memory; counters = counted_all l moves }))
      (quiet_taking p (take_outcome (relay_in x) p))
      ∙ same_relay (taken_relay (relay_in x) p) (taken_old (relay_in x) p (take_outcome (relay_in x) p) refl h))
      refl refl refl

  sweep_left : (second : ℕ) → LeftBy (own (sweeps second))
  unfolding swept_memory
  sweep_left second h =
      same_promise refl (sym board)
      (ap (λ (k : Memory). Held (record { number = x.number; mission = x.mission; memory = k; counters = l }))
      (settled_old (first_of (sweep_checks x.memory second)) (swept x.board.lifetime second x.memory) x.memory h)
      ∙ sym mission)
      refl refl refl

  look_left : (z : Look) → LeftBy (own (looks z))
  unfolding build_output
  look_left (group_word i word) h = same_promise refl refl (sym mission) refl refl refl
  look_left (path_word i word) h = same_promise refl refl (sym mission) refl refl refl
  look_left (pair_word i word) h = same_promise refl refl (sym mission) refl refl refl
  look_left last_second h = same_promise refl refl (sym mission) refl refl refl
  look_left (search rs a) h = same_promise refl (sym board) (sym mission) refl refl refl
  look_left (counter i) h = same_promise refl refl (sym mission) refl refl refl
  look_left (waiting p) h = same_promise refl refl (sym mission) refl refl refl
  look_left (read_header octets) h = same_promise refl refl refl refl refl (refused_reading (read_of octets) h)
  look_left (build fields size output) h =
      same_promise refl refl refl refl (settled_old (first_of (numbers_checks fields size (length output))) _ output h) refl
  look_left (class a) h = refl
  look_left (form p) h = refl
  look_left (checksum octets) h = refl
  look_left (read_echo octets) h = same_promise refl refl refl refl refl (refused_message (echo_of octets) (ap (λ (n : ℕ). not (eqb n 0)) (message_refusal octets) ∙ h))
  look_left (build_request i n echoed output) h =
      same_promise refl refl refl refl (unbuilt (request_of i n) echoed output h) refl
  look_left (build_reply i n seen echoed output) h =
      same_promise refl refl refl refl (unbuilt (message_from (Reply seen) i n) echoed output h) refl
  look_left board_size h = refl
  look_left mission_size h = refl

  -- A refused call of the operator's leaves all, and so does a customer's that hears no datagram and answers none.
  pub operator_refused : (c : OperatorCall) → LeftBy (operator c)
  operator_refused (orders o) h = order_left o h
  operator_refused (views v) h = view_left v h

  pub own_refused : (c : MissionCall) → counts_nothing c ≡ true → LeftBy (own c)
  own_refused (sets s) quiet h = setting_left s h
  own_refused (hears rs p slot second octets output) quiet h = true_false (sym quiet)
  own_refused (echoes rs p slot octets output) quiet h = true_false (sym quiet)
  own_refused (takes p) quiet h = take_left p h
  own_refused (sweeps second) quiet h = sweep_left second h
  own_refused (looks z) quiet h = look_left z h

-- ---- words of the wrong number
abbrev pub lack_answer : Call → ℕ
lack_answer (operator (orders o)) = 21
lack_answer (operator (views v)) = refusal_number 21
lack_answer (own (sets s)) = 21
lack_answer (own (hears rs p slot second octets output)) = pick (too_long rs) 21 16
lack_answer (own (echoes rs p slot octets output)) = pick (too_long rs) 21 16
lack_answer (own (takes p)) = refusal_number 16
lack_answer (own (sweeps second)) = 21
lack_answer (own (looks (group_word i word))) = refusal_number 21
lack_answer (own (looks (path_word i word))) = refusal_number 21
lack_answer (own (looks (pair_word i word))) = refusal_number 21
lack_answer (own (looks last_second)) = refusal_number 21
lack_answer (own (looks (search rs a))) = 21
lack_answer (own (looks (counter i))) = refusal_number 21
lack_answer (own (looks (waiting p))) = refusal_number 21
lack_answer (own (looks (read_header octets))) = 21
lack_answer (own (looks (build fields size output))) = 21
lack_answer (own (looks (class a))) = 21
lack_answer (own (looks (form p))) = 21
lack_answer (own (looks (checksum octets))) = 21
lack_answer (own (looks (read_echo octets))) = 21
lack_answer (own (looks (build_request i n echoed output))) = 21
lack_answer (own (looks (build_reply i n seen echoed output))) = 21
lack_answer (own (looks board_size)) = 21
lack_answer (own (looks mission_size)) = 21

module _ (b m : List ℕ) where
  module _ (wrong : NoBoard b) where
    board_told : {A : Type 0} (f : Board → A) (d : A) → told_board f d b ≡ d
    board_told f d = sym (board_other_told b wrong f d)

    board_changed : (f : Board → Board) → changed_board f b ≡ lent_board b
    board_changed f = sym (board_other_changed b wrong f)

  module _ (wrong : NoMission m) where
    own_told : {A : Type 0} (f : State → A) (d : A) → told f d m ≡ d
    own_told f d = sym (other_told m wrong f d)

    own_changed : (f : State → State) → changed f m ≡ lent m
    own_changed f = sym (other_changed m wrong f)

  module _ (wrong : NoBoard b ⊎ NoMission m) where
    both_told : {A : Type 0} (f : Board → State → A) (d : A) → told_both f d b m ≡ d
    both_told f d = sym (⊎_elim (λ w. no_board_told b m w f d) (λ w. no_mission_told b m w f d) wrong)

    both_changed : (f : Board → State → State) → changed_both f b m ≡ lent m
    both_changed f = sym (⊎_elim (λ w. no_board_changed b m w f) (λ w. no_mission_changed b m w f) wrong)

    module _ (rs : List Record) (p slot second : ℕ) (octets output : List ℕ) where
      heard_answer_lem : receive_answer b m rs p second octets (length output) ≡ pick (too_long rs) 21 16
      unfolding receive_answer told
      heard_answer_lem = ap (pick (too_long rs) 21) (both_told _ 16)

      heard_words : receive_words b m rs p slot second octets (length output) ≡ lent m
      unfolding receive_words changed
      heard_words = both_changed _

      heard_output : receive_output b m rs p second octets output ≡ output
      unfolding receive_output told
      heard_output = both_told _ output

    module _ (rs : List Record) (p slot : ℕ) (octets output : List ℕ) where
      replied_answer : echo_answer b m rs p octets (length output) ≡ pick (too_long rs) 21 16
      unfolding echo_answer
      replied_answer = ap (pick (too_long rs) 21) (both_told _ 16)

      replied_words : echo_words b m rs p slot octets (length output) ≡ lent m
      unfolding echo_words
      replied_words = both_changed _

      replied_output_lem : echo_output b m rs p octets output ≡ output
      unfolding echo_output
      replied_output_lem = both_told _ output

    search_lacks : (rs : List Record) (a : ℕ) → search_told b m rs a ≡ 21
    unfolding search_told
    search_lacks rs a = ap (pick (too_long rs) 21) (both_told _ 21) ∙ either_way (too_long rs) 21

  pub operator_lacks : (c : OperatorCall) → OperatorLacks b c → Leaves b m (operator c) (lack_answer (operator c))
  operator_lacks (orders (set_router x)) w = same_promise (board_told w _ _) (board_changed w _) refl refl refl refl
  operator_lacks (orders (set_port p address mask mtu mission)) w = same_promise (board_told w _ _) (board_changed w _) refl refl refl refl
  operator_lacks (orders (set_lifetime x)) w = same_promise (board_told w _ _) (board_changed w _) refl refl refl refl
  operator_lacks (orders (set_drop x)) w = same_promise (board_told w _ _) (board_changed w _) refl refl refl refl
  operator_lacks (orders (set_route rs i prefix mask p availability capabilities mission)) w =
      same_promise (board_told w _ _) refl refl (board_told w _ _) refl refl
  operator_lacks (orders (clear_route rs i)) w = absurd w
  operator_lacks (views router_flag) w = same_promise (board_told w _ _) refl refl refl refl refl
  operator_lacks (views lifetime_word) w = same_promise (board_told w _ _) refl refl refl refl refl
  operator_lacks (views drop_flag) w = same_promise (board_told w _ _) refl refl refl refl refl
  operator_lacks (views (port_word p word)) w = same_promise (board_told w _ _) refl refl refl refl refl
  operator_lacks (views (record_word rs i word)) w = absurd w

  look_lacks : (z : Look) → MissionLacks b m (looks z) → Leaves b m (own (looks z)) (lack_answer (own (looks z)))
  look_lacks (group_word i word) w = same_promise (own_told w _ _) refl refl refl refl refl
  look_lacks (path_word i word) w = same_promise (own_told w _ _) refl refl refl refl refl
  look_lacks (pair_word i word) w = same_promise (own_told w _ _) refl refl refl refl refl
  look_lacks last_second w = same_promise (own_told w _ _) refl refl refl refl refl
  look_lacks (search rs a) w = same_promise (search_lacks w rs a.0) refl refl refl refl refl
  look_lacks (counter i) w = same_promise (own_told w _ _) refl refl refl refl refl
  look_lacks (waiting p) w = same_promise (own_told w _ _) refl refl refl refl refl
  look_lacks (read_header octets) w = absurd w
  look_lacks (build fields size output) w = absurd w
  look_lacks (class a) w = absurd w
  look_lacks (form p) w = absurd w
  look_lacks (checksum octets) w = absurd w
  look_lacks (read_echo octets) w = absurd w
  look_lacks (build_request i n echoed output) w = absurd w
  look_lacks (build_reply i n seen echoed output) w = absurd w
  look_lacks board_size w = absurd w
  look_lacks mission_size w = absurd w

  pub own_lacks : (c : MissionCall) → MissionLacks b m c → Leaves b m (own c) (lack_answer (own c))
  own_lacks (sets (set_group i address send subscribed)) w = same_promise (both_told w _ _) refl (both_changed w _) refl refl refl
  own_lacks (sets (set_path i path send here)) w = same_promise (both_told w _ _) refl (both_changed w _) refl refl refl
  own_lacks (sets (clear_group i)) w = same_promise (own_told w _ _) refl (own_changed w _) refl refl refl
  own_lacks (sets (clear_path i)) w = same_promise (own_told w _ _) refl (own_changed w _) refl refl refl
  own_lacks (hears rs p slot second octets output) w =
      same_promise (heard_answer_lem w rs p slot.0 second octets output) refl (heard_words w rs p slot.0 second octets output) refl
      (heard_output w rs p slot.0 second octets output) refl
  own_lacks (echoes rs p slot octets output) w =
      same_promise (replied_answer w rs p slot.0 octets output) refl (replied_words w rs p slot.0 octets output) refl
      (replied_output_lem w rs p slot.0 octets output) refl
  own_lacks (takes p) w = same_promise (both_told w _ _) refl (both_changed w _) refl refl refl
  own_lacks (sweeps second) w = same_promise (both_told w _ _) refl (both_changed w _) refl refl refl
  own_lacks (looks z) w = look_lacks z w

-- ---- too long a list
abbrev pub long_answer : Call → ℕ
long_answer (operator (orders o)) = 21
long_answer (operator (views v)) = refusal_number 21
long_answer (own c) = 21

-- what is told of any board, of any mission and of both
board_so : {A : Type 0} (f : Board → A) (d : A) (w : List ℕ) → ((x : Board) → f x ≡ d) → told_board f d w ≡ d
unfolding told_board
board_so f d w same = by (lent_board w)
  where
    by : (v : Lent Board) → by_lent f d v ≡ d
    by (Held x) = same x
    by (Other o) = refl

own_so : {A : Type 0} (f : State → A) (d : A) (w : List ℕ) → ((s : State) → f s ≡ d) → told f d w ≡ d
unfolding told
own_so f d w same = by (lent w)
  where
    by : (v : Lent State) → by_lent f d v ≡ d
    by (Held s) = same s
    by (Other o) = refl

own_stays : (f : State → State) (w : List ℕ) → ((s : State) → f s ≡ s) → changed f w ≡ lent w
unfolding changed
own_stays f w same = by (lent w)
  where
    by : (v : Lent State) → on_lent f v ≡ v
    by (Held s) = ap Held (same s)
    by (Other o) = refl

-- a datagram with too long a list moves nothing
module _ (rs : List Record) (long : too_long rs ≡ true) (x : Board) (s : State) (p second : ℕ) (octets : List ℕ) (room : ℕ) where
  long_ending : heard_ending x s rs p second octets room ≡ refused_by 21
  unfolding heard_ending
  long_ending = rw long

  long_memory : heard_memory x s rs p second octets room ≡ s.memory
  unfolding heard_memory
  long_memory = rw long

  long_state : (slot : Slot) → received_state x s slot (heard_memory x s rs p second octets room) (heard_ending x s rs p second octets room) ≡ s
  unfolding counter_for counted_at
  long_state slot =
      ap₂ (received_state x s slot) long_memory long_ending
      ∙ ap (λ (r : Relay). record { number = s.number; mission = r.mission; memory = s.memory; counters = s.counters }) (nobody_took (seated x s) slot (refused_by 21) refl)

-- nor does a reply
module _ (rs : List Record) (long : too_long rs ≡ true) (x : Board) (s : State) (p : ℕ) (octets : List ℕ) (room : ℕ) where
  long_reply : echo_reply x s rs p octets room ≡ no_reply 21
  unfolding echo_reply echo_answering replied_to
  long_reply = rw long

  long_replied : (slot : Slot) → replied_state x s slot (echo_reply x s rs p octets room) ≡ s
  unfolding counted_at
  long_replied slot =
      ap (replied_state x s slot) long_reply
      ∙ ap (λ (r : Relay). record { number = s.number; mission = r.mission; memory = s.memory; counters = s.counters })
      (nobody_took (seated x s) slot (as_ending (no_reply 21)) refl)

module _ (b m : List ℕ) (rs : List Record) (long : too_long rs ≡ true) where
  route_answer : (i : ℕ) (x : Record) → told_board (λ (y : Board). first_of (route_checks y rs i x)) 21 b ≡ 21
  unfolding first_of
  route_answer i x = board_so _ 21 b (λ y. rw long)

  route_list : (i : ℕ) (x : Record) → told_board (λ (y : Board). settled_route y rs i x) rs b ≡ rs
  unfolding first_of
  route_list i x = board_so _ rs b (λ y. rw long)

  clear_answer : (i : ℕ) → first_of (clear_route_checks rs i) ≡ 21
  unfolding first_of
  clear_answer i = rw long

  clear_list : (i : ℕ) → cleared_route rs i ≡ rs
  clear_list i = rw (clear_answer i)

  word_answer_lem : (i word : ℕ) → route_word_told rs i word ≡ refusal_number 21
  unfolding route_word_told
  word_answer_lem i word = rw long

  search_answer_lem : (a : ℕ) → search_told b m rs a ≡ 21
  unfolding search_told
  search_answer_lem a = rw long

  module _ (p : ℕ) (slot : Slot) (second : ℕ) (octets output : List ℕ) where
    long_answer_lem : receive_answer b m rs p second octets (length output) ≡ 21
    unfolding receive_answer
    long_answer_lem = rw long

    long_words : receive_words b m rs p slot.0 second octets (length output) ≡ lent m
    unfolding receive_words changed
    long_words = board_so _ (lent m) b (λ x. own_stays _ m (λ s. long_state rs long x s p second octets (length output) slot))

    long_output : receive_output b m rs p second octets output ≡ output
    unfolding receive_output told
    long_output =
        board_so _ output b (λ x.
        own_so _ output m (λ s.
        ap (λ (e : Ending). sent_output e octets output) (long_ending rs long x s p second octets (length output))
        ∙ output_as_lent (refused_by 21) octets output refl))

  module _ (p : ℕ) (slot : Slot) (octets output : List ℕ) where
    no_answer_lem : echo_answer b m rs p octets (length output) ≡ 21
    unfolding echo_answer
    no_answer_lem = rw long

    no_words : echo_words b m rs p slot.0 octets (length output) ≡ lent m
    unfolding echo_words
    no_words = board_so _ (lent m) b (λ x. own_stays _ m (λ s. long_replied rs long x s p octets (length output) slot))

    no_output : echo_output b m rs p octets output ≡ output
    unfolding echo_output
    no_output =
        board_so _ output b (λ x.
        own_so _ output m (λ s.
        reply_unwritten (echo_answering x s rs p octets (length output)) (echo_reply x s rs p octets (length output)) octets output
        (ap (λ (e : Replied). e.ruling.took) (long_reply rs long x s p octets (length output)))))

pub long_left : (b m : List ℕ) (c : Call) → HasLong c → Leaves b m c (long_answer c)
long_left b m (operator (orders (set_router x))) h = true_false (sym h)
long_left b m (operator (orders (set_port p address mask mtu mission))) h = true_false (sym h)
long_left b m (operator (orders (set_lifetime x))) h = true_false (sym h)
long_left b m (operator (orders (set_drop x))) h = true_false (sym h)
long_left b m (operator (orders (set_route rs i prefix mask p availability capabilities mission))) h =
    let x = new_record prefix mask p availability capabilities mission in
    same_promise (route_answer b m rs h i x) refl refl (route_list b m rs h i x) refl refl
long_left b m (operator (orders (clear_route rs i))) h = same_promise (clear_answer b m rs h i) refl refl (clear_list b m rs h i) refl refl
long_left b m (operator (views router_flag)) h = absurd h
long_left b m (operator (views lifetime_word)) h = absurd h
long_left b m (operator (views drop_flag)) h = absurd h
long_left b m (operator (views (port_word p word))) h = absurd h
long_left b m (operator (views (record_word rs i word))) h = same_promise (word_answer_lem b m rs h i word) refl refl refl refl refl
long_left b m (own (sets s)) h = absurd h
long_left b m (own (hears rs p slot second octets output)) h =
    same_promise (long_answer_lem b m rs h p slot second octets output) refl (long_words b m rs h p slot second octets output) refl (long_output b m rs h p slot second octets output) refl
long_left b m (own (echoes rs p slot octets output)) h =
    same_promise (no_answer_lem b m rs h p slot octets output) refl (no_words b m rs h p slot octets output) refl (no_output b m rs h p slot octets output) refl
long_left b m (own (takes p)) h = absurd h
long_left b m (own (sweeps second)) h = absurd h
long_left b m (own (looks (group_word i word))) h = absurd h
long_left b m (own (looks (path_word i word))) h = absurd h
long_left b m (own (looks (pair_word i word))) h = absurd h
long_left b m (own (looks last_second)) h = absurd h
long_left b m (own (looks (search rs a))) h = same_promise (search_answer_lem b m rs h a.0) refl refl refl refl refl
long_left b m (own (looks (counter i))) h = absurd h
long_left b m (own (looks (waiting p))) h = absurd h
long_left b m (own (looks (read_header octets))) h = absurd h
long_left b m (own (looks (build fields size output))) h = absurd h
long_left b m (own (looks (class a))) h = absurd h
long_left b m (own (looks (form p))) h = absurd h
long_left b m (own (looks (checksum octets))) h = absurd h
long_left b m (own (looks (read_echo octets))) h = absurd h
long_left b m (own (looks (build_request i n echoed output))) h = absurd h
long_left b m (own (looks (build_reply i n seen echoed output))) h = absurd h
long_left b m (own (looks board_size)) h = absurd h
long_left b m (own (looks mission_size)) h = absurd h
