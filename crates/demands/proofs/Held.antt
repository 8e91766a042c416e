-- Where the words hold a board and a customer's state, the row of each call of its history (crate `contracts`) is what proofs/Promised.antt says, and the
-- words after it hold what the call leaves. Assumes nothing.
use Prim.Native.Nat.{ℕ}
use mathlib.Core.Path.{◌≡◌, refl, sym, ap, ap₂, ◌∙◌}
use mathlib.Core.Bool.{Bool, true, false}
use mathlib.Core.List.{List, []}
use lib.ListN.{length, replicate}
use lib.Dec.{eqb}
use Rattle.checks.specs.Order.{pick, first_of}
use Rattle.header.specs.Read.{read_of, Read}
use Rattle.checks.specs.Told.{Good, Refused}
use Rattle.numbers.specs.InWords.{numbers_words}
use Rattle.numbers.specs.declared.Numbers.{Numbers}
use Rattle.numbers.proofs.in_words.Halves.{numbers_again, words_count}
use Rattle.address.specs.declared.Address.{Address}
use Rattle.address.specs.declared.Slot.{Slot}
use Rattle.routes.specs.declared.Record.{Record}
use Rattle.sets.specs.Limits.{group_places, path_places}
use Rattle.records.specs.Fresh.{fresh_group, fresh_path}
use Rattle.state.specs.Relay.{Relay, Mission, Memory, with_group, with_path}
use Rattle.refusals.specs.Lists.{clear_checks}
use Rattle.state.specs.Seen.{Board, State}
use Rattle.taking.specs.Taking.{take_outcome, taken_relay, Taking}
use Rattle.tally.specs.Tally.{Move, counted_all}
use Rattle.judge.specs.declared.Ending.{Ending}
use Rattle.relay.specs.Outgoing.{sent_output}
use Rattle.relay.specs.Received.{heard_ending, heard_memory, received_state}
use Rattle.lent_state.specs.View.{Lent, Held, lent_board, lent, by_lent, on_lent, told_board, changed_board, told, changed, told_both, changed_both, changed_relay, too_long}
use Rattle.echo.specs.Message.{reading_of as echo_of, Reading as Message}
use Rattle.replies.specs.Replied.{replied_to, replied_output}
use Rattle.replies.specs.declared.Answering.{Answering}
use Rattle.replies.specs.declared.sending.Replied.{Replied}
use Rattle.answering.specs.Echoed.{echo_answering, echo_reply, replied_state}
use Rattle.answering.specs.Split.{number_for}
use Rattle.answers.specs.Answers.{ruling_parts, header_parts, receive_number, reply_number}
use Rattle.harpjuniper.specs.Face.{Reading, reading_of, reading_words, reading_count, read_answer, read_left}
use Rattle.harpjuniper.specs.Face.{build_answer, build_output, build_words_answer, build_words_output}
use Rattle.harpjuniper_messages.specs.Face.{message_count, left_by}
use Rattle.harpjuniper_messages.specs.Face as messages
use Rattle.harpjuniper_echo.specs.Face.{echo_answer, echo_words, echo_output}
use Rattle.route_calls.specs.Search.{search_answer}
use Rattle.harpjuniper_routes.specs.Face.{search_told}
use Rattle.harpjuniper_receive.specs.Face.{receive_answer, receive_words, receive_output}
use Rattle.contracts.specs.Promised.{Result, Promise, Allows, promised}
use Rattle.history.specs.Seat.{Seat, state_of, relay_in, relay_with, heard_by, memory_by, answering_by, replied_by}
use Rattle.history.specs.Outcome.{of_taking, next}
use Rattle.history.specs.Calls.{
  Order,
  set_router,
  set_port,
  set_lifetime,
  set_drop,
  set_route,
  clear_route,
  View,
  router_flag,
  lifetime_word,
  drop_flag,
  port_word,
  record_word,
  orders,
  views,
  Setting,
  set_group,
  set_path,
  clear_group,
  clear_path,
  Look,
  group_word,
  path_word,
  pair_word,
  last_second,
  search,
  counter,
  waiting,
  read as read_header,
  build,
  class,
  form,
  checksum,
  read_echo,
  build_request,
  build_reply,
  board_size,
  mission_size,
  sets,
  hears,
  echoes,
  takes,
  sweeps,
  looks,
  Call,
  operator,
  own,
  order_checks,
}
use Rattle.demands.proofs.Lane.{made_by, board_by, own_by}
use Rattle.demands.proofs.Promised.{next_state, promised_by}

-- ---- a test that decides between two of the same, and one of a field
pub either_way : {A : Type 0} (t : Bool) (a : A) → pick t a a ≡ a
either_way true a = refl
either_way false a = refl

-- equal where all parts are
abbrev pub promise : ℕ → Lent Board → Lent State → List Record → List ℕ → List ℕ → Promise
promise answer board mission routes output numbers =
    record { answer = answer; board = board; mission = mission; routes = routes; output = output; numbers = numbers }

pub same_promise : {a a' : ℕ} {b b' : Lent Board} {m m' : Lent State} {rs rs' : List Record} {o o' n n' : List ℕ}
    → a ≡ a' → b ≡ b' → m ≡ m' → rs ≡ rs' → o ≡ o' → n ≡ n' → promise a b m rs o n ≡ promise a' b' m' rs' o' n'
same_promise e f g h i j = rw (e, f, g, h, i, j)

own_of : (t : Bool) (a b : Relay) → pick t a.mission b.mission ≡ (pick t a b).mission
own_of true a b = refl
own_of false a b = refl

-- ---- headers in words
-- a refused reading leaves the words as they are lent, which are 0, as the words of no numbers are
pub reading_left : (r : Read) → read_left (reading_of r) (replicate reading_count 0) ≡ reading_words (reading_of r)
unfolding read_left read_answer reading_of reading_words numbers_words
reading_left (Refused n) = either_way (eqb n 0) (replicate reading_count 0)
reading_left (Good h) = refl

pub reading_answer : (r : Reading) → read_answer (length {A = ℕ} (replicate reading_count 0)) r ≡ r.refusal
unfolding read_answer
reading_answer r = refl

pub build_answer_lem : (fields : Numbers) (size room : ℕ) → build_words_answer (numbers_words fields) size room ≡ build_answer fields size room
unfolding build_words_answer
build_answer_lem fields size room = rw (words_count fields, numbers_again fields)

pub build_output_lem : (fields : Numbers) (size : ℕ) (output : List ℕ) → build_words_output (numbers_words fields) size output ≡ build_output fields size output
unfolding build_words_output
build_output_lem fields size output = rw (words_count fields, numbers_again fields)

-- ---- echo messages in words
pub message_left : (r : Message) → messages.read_left r (replicate message_count 0) ≡ left_by r (replicate message_count 0)
unfolding messages.read_left
message_left r = refl

pub message_answer : (r : Message) → messages.read_answer (length {A = ℕ} (replicate message_count 0)) r ≡ messages.refusal_in r
unfolding messages.read_answer
message_answer r = refl

-- ---- a take counts nothing
pub quiet_taking : (p : ℕ) (t : Taking) → (of_taking p t).moves ≡ []
quiet_taking p (Good e) = refl
quiet_taking p (Refused n) = refl

-- ---- a datagram: the counters are not looked at, and a long list is refused by 21
module _ (x : Seat) (l : List ℕ) (rs : List Record) (p second : ℕ) (octets : List ℕ) (room : ℕ) where
  heard_any : heard_ending x.board (state_of x l) rs p second octets room ≡ heard_by x rs p second octets room
  unfolding heard_ending
  heard_any = refl

  remembered_any : heard_memory x.board (state_of x l) rs p second octets room ≡ memory_by x rs p second octets room
  unfolding heard_memory
  remembered_any = refl

  long_heard : too_long rs ≡ true → 21 ≡ receive_number (heard_by x rs p second octets room)
  unfolding heard_ending receive_number ruling_parts header_parts
  long_heard long = rw long

  answer_case : (t : Bool) → too_long rs ≡ t
      → pick t 21 (receive_number (heard_by x rs p second octets room)) ≡ receive_number (heard_by x rs p second octets room)
  answer_case true long = long_heard long
  answer_case false short = refl

-- ---- a reply: likewise
module _ (x : Seat) (l : List ℕ) (rs : List Record) (p : ℕ) (octets : List ℕ) (room : ℕ) where
  answering_any : echo_answering x.board (state_of x l) rs p octets room ≡ answering_by x rs p octets room
  unfolding echo_answering
  answering_any = refl

  replied_any : echo_reply x.board (state_of x l) rs p octets room ≡ replied_by x rs p octets room
  unfolding echo_reply echo_answering
  replied_any = refl

  long_replied : too_long rs ≡ true → 21 ≡ number_for (replied_by x rs p octets room)
  unfolding echo_reply echo_answering replied_to reply_number ruling_parts header_parts
  long_replied long = rw long

  replied_case : (t : Bool) → too_long rs ≡ t → pick t 21 (number_for (replied_by x rs p octets room)) ≡ number_for (replied_by x rs p octets room)
  replied_case true long = long_replied long
  replied_case false short = refl

-- ---- words that hold the board and the state
module _ (b m : List ℕ) (x : Seat) (l : List ℕ) (board : lent_board b ≡ Held x.board) (mission : lent m ≡ Held (state_of x l)) where
  abbrev s : State
  s = state_of x l

  board_told : {A : Type 0} (f : Board → A) (d : A) → told_board f d b ≡ f x.board
  unfolding told_board
  board_told f d = ap (by_lent f d) board

  board_changed : (f : Board → Board) → changed_board f b ≡ Held (f x.board)
  unfolding changed_board
  board_changed f = ap (on_lent f) board

  own_told : {A : Type 0} (f : State → A) (d : A) → told f d m ≡ f s
  unfolding told
  own_told f d = ap (by_lent f d) mission

  own_changed : (f : State → State) → changed f m ≡ Held (f s)
  unfolding changed
  own_changed f = ap (on_lent f) mission

  both_told : {A : Type 0} (f : Board → State → A) (d : A) → told_both f d b m ≡ f x.board s
  both_told f d = board_told (λ (y : Board). told (f y) d m) d ∙ own_told (f x.board) d

  both_changed : (f : Board → State → State) → changed_both f b m ≡ Held (f x.board s)
  both_changed f = board_told (λ (y : Board). changed (f y) m) (lent m) ∙ own_changed (f x.board)

  -- a datagram
  module _ (rs : List Record) (p : ℕ) (slot : Slot) (second : ℕ) (octets output : List ℕ) where
    abbrev e : Ending
    e = heard_by x rs p second octets (length output)

    heard_answer_lem : receive_answer b m rs p second octets (length output) ≡ receive_number e
    unfolding receive_answer told
    heard_answer_lem =
        ap (pick (too_long rs) 21) (both_told _ 16 ∙ ap receive_number (heard_any x l rs p second octets (length output)))
        ∙ answer_case x l rs p second octets (length output) (too_long rs) refl

    heard_words : receive_words b m rs p slot.0 second octets (length output) ≡ Held (next_state x l (own (hears rs p slot second octets output)))
    unfolding receive_words changed
    heard_words =
        both_changed _
        ∙ ap₂ (λ (k : Memory) (z : Ending). Held (received_state x.board s slot k z)) (remembered_any x l rs p second octets (length output))
        (heard_any x l rs p second octets (length output))

    heard_output : receive_output b m rs p second octets output ≡ sent_output e octets output
    unfolding receive_output told
    heard_output = both_told _ output ∙ ap (λ (z : Ending). sent_output z octets output) (heard_any x l rs p second octets (length output))

  -- a reply
  module _ (rs : List Record) (p : ℕ) (octets output : List ℕ) where
    replied_answer : echo_answer b m rs p octets (length output) ≡ number_for (replied_by x rs p octets (length output))
    unfolding echo_answer
    replied_answer =
        ap (pick (too_long rs) 21) (both_told _ 16 ∙ ap number_for (replied_any x l rs p octets (length output)))
        ∙ replied_case x l rs p octets (length output) (too_long rs) refl

    replied_output_lem : echo_output b m rs p octets output
        ≡ replied_output (answering_by x rs p octets (length output)) (replied_by x rs p octets (length output)) octets output
    unfolding echo_output
    replied_output_lem =
        both_told _ output
        ∙ ap₂ (λ (a : Answering) (z : Replied). replied_output a z octets output) (answering_any x l rs p octets (length output))
        (replied_any x l rs p octets (length output))

  replied_words : (rs : List Record) (p : ℕ) (slot : Slot) (octets output : List ℕ)
      → echo_words b m rs p slot.0 octets (length output) ≡ Held (next_state x l (own (echoes rs p slot octets output)))
  unfolding echo_words
  replied_words rs p slot octets output =
      both_changed _ ∙ ap (λ (z : Replied). Held (replied_state x.board s slot z)) (replied_any x l rs p octets (length output))

  search_answer_lem : (rs : List Record) (a : Address) → search_told b m rs a.0 ≡ pick (too_long rs) 21 (search_answer (relay_with x rs) a)
  unfolding search_told
  search_answer_lem rs a = ap (pick (too_long rs) 21) (both_told _ 21)

  -- a mission with these counters
  abbrev with : Mission → List ℕ → State
  with z counters = record { number = x.number; mission = z; memory = x.memory; counters = counters }

  take_words : (p : ℕ) → changed_relay (λ (r : Relay). taken_relay r p) b m ≡ Held (next_state x l (own (takes p)))
  take_words p =
      both_changed _
      ∙ ap (λ (moves : List Move). Held (with (taken_relay (relay_in x) p).mission (counted_all l moves))) (sym (quiet_taking p (take_outcome (relay_in x) p)))

  -- ---- the rows
  order_row : (o : Order) → promised (made_by b m (operator (orders o))) ≡ promised_by x l (operator (orders o))
  unfolding first_of
  order_row (set_router z) = same_promise (board_told _ _) (board_changed _) refl refl refl refl
  order_row (set_port p address mask mtu number) = same_promise (board_told _ _) (board_changed _) refl refl refl refl
  order_row (set_lifetime z) = same_promise (board_told _ _) (board_changed _) refl refl refl refl
  order_row (set_drop z) = same_promise (board_told _ _) (board_changed _) refl refl refl refl
  order_row (set_route rs i prefix mask p availability capabilities number) = same_promise (board_told _ _) board refl (board_told _ _) refl refl
  order_row (clear_route rs i) = refl

  view_row : (v : View) → promised (made_by b m (operator (views v))) ≡ promised_by x l (operator (views v))
  view_row router_flag = same_promise (board_told _ _) board refl refl refl refl
  view_row lifetime_word = same_promise (board_told _ _) board refl refl refl refl
  view_row drop_flag = same_promise (board_told _ _) board refl refl refl refl
  view_row (port_word p word) = same_promise (board_told _ _) board refl refl refl refl
  view_row (record_word rs i word) = refl

  setting_row : (z : Setting) → promised (made_by b m (own (sets z))) ≡ promised_by x l (own (sets z))
  setting_row (set_group i address send subscribed) = same_promise (both_told _ _) board (both_changed _) refl refl refl
  setting_row (set_path i path send here) = same_promise (both_told _ _) board (both_changed _) refl refl refl
  setting_row (clear_group i) =
      same_promise (own_told _ _) refl
      (own_changed _
      ∙ ap (λ (z : Mission). Held (with z l)) (own_of (eqb (first_of (clear_checks i group_places)) 0) (with_group (relay_in x) i fresh_group) (relay_in x)))
      refl refl refl
  setting_row (clear_path i) =
      same_promise (own_told _ _) refl
      (own_changed _
      ∙ ap (λ (z : Mission). Held (with z l)) (own_of (eqb (first_of (clear_checks i path_places)) 0) (with_path (relay_in x) i fresh_path) (relay_in x)))
      refl refl refl

  look_row_lem : (z : Look) → promised (made_by b m (own (looks z))) ≡ promised_by x l (own (looks z))
  look_row_lem (group_word i word) = same_promise (own_told _ _) refl mission refl refl refl
  look_row_lem (path_word i word) = same_promise (own_told _ _) refl mission refl refl refl
  look_row_lem (pair_word i word) = same_promise (own_told _ _) refl mission refl refl refl
  look_row_lem last_second = same_promise (own_told _ _) refl mission refl refl refl
  look_row_lem (search rs a) = same_promise (search_answer_lem rs a) board mission refl refl refl
  look_row_lem (counter i) = same_promise (own_told _ _) refl mission refl refl refl
  look_row_lem (waiting p) = same_promise (own_told _ _) refl mission refl refl refl
  look_row_lem (read_header octets) =
      same_promise (reading_answer (reading_of (read_of octets))) refl refl refl refl (reading_left (read_of octets))
  look_row_lem (build fields size output) =
      same_promise (build_answer_lem fields size (length output)) refl refl refl (build_output_lem fields size output) refl
  look_row_lem (class a) = refl
  look_row_lem (form p) = refl
  look_row_lem (checksum octets) = refl
  look_row_lem (read_echo octets) = same_promise (message_answer (echo_of octets)) refl refl refl refl (message_left (echo_of octets))
  look_row_lem (build_request i n echoed output) = refl
  look_row_lem (build_reply i n seen echoed output) = refl
  look_row_lem board_size = refl
  look_row_lem mission_size = refl

  -- What the row of a call promises is what it is promised of the seat and its counters.
  pub row_is : (c : Call) → promised (made_by b m c) ≡ promised_by x l c
  row_is (operator (orders o)) = order_row o
  row_is (operator (views v)) = view_row v
  row_is (own (sets z)) = setting_row z
  row_is (own (hears rs p slot second octets output)) =
      same_promise (heard_answer_lem rs p slot second octets output) board (heard_words rs p slot second octets output) refl (heard_output rs p slot second octets output) refl
  row_is (own (echoes rs p slot octets output)) =
      same_promise (replied_answer rs p octets output) board (replied_words rs p slot octets output) refl (replied_output_lem rs p octets output) refl
  row_is (own (takes p)) = same_promise (both_told _ _) board (take_words p) refl refl refl
  row_is (own (sweeps second)) = same_promise (both_told _ _) board (both_changed _) refl refl refl
  row_is (own (looks z)) = look_row_lem z

  -- ---- the words after it
  module _ (y : Result) where
    abbrev After : Call → Type 0
    After c = Allows (promised_by x l c) y
        → (lent_board (board_by b c y) ≡ Held (next x c).board) × (lent (own_by m c y) ≡ Held (next_state x l c))

    order_after : (o : Order) → After (operator (orders o))
    order_after (set_router z) k = (k.board, mission)
    order_after (set_port p address mask mtu number) k = (k.board, mission)
    order_after (set_lifetime z) k = (k.board, mission)
    order_after (set_drop z) k = (k.board, mission)
    order_after (set_route rs i prefix mask p availability capabilities number) k = (
      k.board ∙ ap Held (sym (either_way (eqb (first_of (order_checks x.board (set_route rs i prefix mask p availability capabilities number))) 0) x.board)),
      mission,
    )
    order_after (clear_route rs i) k = (
      board ∙ ap Held (sym (either_way (eqb (first_of (order_checks x.board (clear_route rs i))) 0) x.board)),
      mission,
    )

    view_after : (v : View) → After (operator (views v))
    view_after router_flag k = (k.board, mission)
    view_after lifetime_word k = (k.board, mission)
    view_after drop_flag k = (k.board, mission)
    view_after (port_word p word) k = (k.board, mission)
    view_after (record_word rs i word) k = (board, mission)

    setting_after : (z : Setting) → After (own (sets z))
    setting_after (set_group i address send subscribed) k = (board, k.mission)
    setting_after (set_path i path send here) k = (board, k.mission)
    setting_after (clear_group i) k = (board, k.mission)
    setting_after (clear_path i) k = (board, k.mission)

    look_after : (z : Look) → After (own (looks z))
    look_after (group_word i word) k = (board, k.mission)
    look_after (path_word i word) k = (board, k.mission)
    look_after (pair_word i word) k = (board, k.mission)
    look_after last_second k = (board, k.mission)
    look_after (search rs a) k = (board, k.mission)
    look_after (counter i) k = (board, k.mission)
    look_after (waiting p) k = (board, k.mission)
    look_after (read_header octets) k = (board, mission)
    look_after (build fields size output) k = (board, mission)
    look_after (class a) k = (board, mission)
    look_after (form p) k = (board, mission)
    look_after (checksum octets) k = (board, mission)
    look_after (read_echo octets) k = (board, mission)
    look_after (build_request i n echoed output) k = (board, mission)
    look_after (build_reply i n seen echoed output) k = (board, mission)
    look_after board_size k = (board, mission)
    look_after mission_size k = (board, mission)

    -- The words after a call hold what it leaves of the seat and its counters.
    pub words_after_lem : (c : Call) → After c
    words_after_lem (operator (orders o)) k = order_after o k
    words_after_lem (operator (views v)) k = view_after v k
    words_after_lem (own (sets z)) k = setting_after z k
    words_after_lem (own (hears rs p slot second octets output)) k = (board, k.mission)
    words_after_lem (own (echoes rs p slot octets output)) k = (board, k.mission)
    words_after_lem (own (takes p)) k = (board, k.mission)
    words_after_lem (own (sweeps second)) k = (board, k.mission)
    words_after_lem (own (looks z)) k = look_after z k
