-- Traces: calls from C on a board and two missions, each with any result that its contract lets it give back, and each on the words that the calls before
-- left (page 01, "Settings": "a history is made of such calls"; "What a promise has to shut out"; page 02, W-208). A list of routes is an argument of each
-- call that is lent one: it may be another each time; and so is the second that a datagram or a sweep brings (W-207). Assumes nothing.
use Rattle.std.specs.Prelude.{ℕ, ◌^◌, ◌<◌, ◌≡◌, Bool, true, false, List, [], ◌∷◌, replicate}
use Rattle.checks.specs.Order.{pick}
use Rattle.numbers.specs.InWords.{numbers_words}
use Rattle.contracts.specs.Promised.{
  Result,
  Exported,
  hj_read_words,
  hj_build_words,
  hj_class,
  hj_path,
  hj_checksum,
  hj_read_echo_words,
  hj_build_request,
  hj_build_reply,
  hj_board_words,
  hj_mission_words,
  hj_fresh_board,
  hj_fresh_mission,
  hj_set_router,
  hj_set_port,
  hj_set_lifetime,
  hj_set_echo_drop,
  hj_set_route,
  hj_clear_route,
  hj_set_group,
  hj_set_path,
  hj_clear_group,
  hj_clear_path,
  hj_get_router,
  hj_get_lifetime,
  hj_get_echo_drop,
  hj_port_word,
  hj_route_word,
  hj_group_word,
  hj_path_word,
  hj_last_second,
  hj_pair_word,
  hj_search,
  hj_receive_at,
  hj_echo,
  hj_take,
  hj_counter,
  hj_waiting,
  hj_sweep,
}
use Rattle.contracts.specs.Stated.{Says}
use Rattle.queue.specs.Order.{Each}
use Rattle.routes.specs.declared.Record.{Record}
use Rattle.route_calls.specs.Calls.{record_words}
use Rattle.state.specs.Relay.{Relay}
use Rattle.state.specs.Seen.{Board, fresh_board}
use Rattle.harpjuniper.specs.Face.{reading_count}
use Rattle.harpjuniper_messages.specs.Face.{message_count}
use Rattle.history.specs.Ranges.{OwnPassed}
use Rattle.history.specs.Seat.{Seat, relay_in, relay_with}
use Rattle.history.specs.Outcome.{board_from, seat_after}
use Rattle.history.specs.Calls.{
  Order,
  set_router,
  set_port,
  set_lifetime,
  set_drop,
  set_route,
  clear_route,
  View,
  router_flag,
  lifetime_word,
  drop_flag,
  port_word,
  record_word,
  OperatorCall,
  orders,
  views,
  Setting,
  set_group,
  set_path,
  clear_group,
  clear_path,
  Look,
  group_word,
  path_word,
  pair_word,
  last_second,
  search,
  counter,
  waiting,
  read,
  build,
  class,
  form,
  checksum,
  read_echo,
  build_request,
  build_reply,
  board_size,
  mission_size,
  MissionCall,
  sets,
  hears,
  echoes,
  takes,
  sweeps,
  looks,
  Call,
  operator,
  own,
}

-- ---- two customers share the board; each has the state of one mission
pub data Customer : Type 0 where
  first : Customer
  second : Customer

abbrev pub number_of : Customer → ℕ
number_of first = 0
number_of second = 1

-- what C does: a call of the operator's, or of a customer's mission
pub data Step : Type 0 where
  operates : OperatorCall → Step
  flies : Customer → MissionCall → Step

-- a call of the history that a customer has part in, as a step
abbrev pub step_of : Customer → Call → Step
step_of who (operator c) = operates c
step_of who (own c) = flies who c

-- the words that C keeps
pub record Words : Type 0 where
  pub board : List ℕ
  pub zero : List ℕ
  pub one : List ℕ

abbrev pub mission_of : Customer → Words → List ℕ
mission_of first w = w.zero
mission_of second w = w.one

-- ---- the call from C, with the board's words b and the mission's words m lent where it is lent any. A header is read and built as the functions of
-- include/harpjuniper.h do it: words of 0 are lent to be read into, and the words of the fields to be built from.
module _ (b : List ℕ) where
  abbrev order_by : Order → Exported
  order_by (set_router x) = hj_set_router b x
  order_by (set_port p address mask mtu mission) = hj_set_port b p address.0 mask.0 mtu mission
  order_by (set_lifetime x) = hj_set_lifetime b x
  order_by (set_drop x) = hj_set_echo_drop b x
  order_by (set_route rs i prefix mask p availability capabilities mission) = hj_set_route b rs i prefix mask p availability capabilities mission
  order_by (clear_route rs i) = hj_clear_route rs i

  abbrev view_by : View → Exported
  view_by router_flag = hj_get_router b
  view_by lifetime_word = hj_get_lifetime b
  view_by drop_flag = hj_get_echo_drop b
  view_by (port_word p word) = hj_port_word b p word
  view_by (record_word rs i word) = hj_route_word rs i word

  abbrev pub operator_by : OperatorCall → Exported
  operator_by (orders o) = order_by o
  operator_by (views v) = view_by v

  module _ (m : List ℕ) where
    abbrev set_by : Setting → Exported
    set_by (set_group i address send subscribed) = hj_set_group b m i address.0 send subscribed
    set_by (set_path i to send here) = hj_set_path b m i to.0 send here
    set_by (clear_group i) = hj_clear_group m i
    set_by (clear_path i) = hj_clear_path m i

    abbrev look_by : Look → Exported
    look_by (group_word i word) = hj_group_word m i word
    look_by (path_word i word) = hj_path_word m i word
    look_by (pair_word i word) = hj_pair_word m i word
    look_by last_second = hj_last_second m
    look_by (search rs a) = hj_search b m rs a.0
    look_by (counter i) = hj_counter m i
    look_by (waiting p) = hj_waiting m p
    look_by (read octets) = hj_read_words octets (replicate reading_count 0)
    look_by (build fields size output) = hj_build_words (numbers_words fields) size output
    look_by (class a) = hj_class a.0
    look_by (form p) = hj_path p.0
    look_by (checksum octets) = hj_checksum octets
    look_by (read_echo octets) = hj_read_echo_words octets (replicate message_count 0)
    look_by (build_request i n echoed output) = hj_build_request i n echoed output
    look_by (build_reply i n seen echoed output) = hj_build_reply i n seen.hops seen.format seen.stamp seen.mtu seen.rate echoed output
    look_by board_size = hj_board_words
    look_by mission_size = hj_mission_words

    abbrev pub mission_by : MissionCall → Exported
    mission_by (sets s) = set_by s
    mission_by (hears rs p slot when octets output) = hj_receive_at b m rs p slot.0 when octets output
    mission_by (echoes rs p slot octets output) = hj_echo b m rs p slot.0 octets output
    mission_by (takes p) = hj_take b m p
    mission_by (sweeps when) = hj_sweep b m when
    mission_by (looks l) = look_by l

abbrev pub made : Words → Step → Exported
made w (operates c) = operator_by w.board c
made w (flies who c) = mission_by w.board (mission_of who w) c

-- ---- the words after it: those that it gives back, and where it is lent none, those that were there. A mission's call is lent the board to read, and the
-- other mission's words to no call of its own.
module _ (b : List ℕ) where
  abbrev order_leaves : Order → Result → List ℕ
  order_leaves (set_router x) y = y.left.board
  order_leaves (set_port p address mask mtu mission) y = y.left.board
  order_leaves (set_lifetime x) y = y.left.board
  order_leaves (set_drop x) y = y.left.board
  order_leaves (set_route rs i prefix mask p availability capabilities mission) y = y.left.board
  order_leaves (clear_route rs i) y = b

  abbrev view_leaves : View → Result → List ℕ
  view_leaves router_flag y = y.left.board
  view_leaves lifetime_word y = y.left.board
  view_leaves drop_flag y = y.left.board
  view_leaves (port_word p word) y = y.left.board
  view_leaves (record_word rs i word) y = b

  abbrev pub operator_leaves : OperatorCall → Result → List ℕ
  operator_leaves (orders o) y = order_leaves o y
  operator_leaves (views v) y = view_leaves v y

module _ (m : List ℕ) where
  abbrev look_leaves : Look → Result → List ℕ
  look_leaves (group_word i word) y = y.left.mission
  look_leaves (path_word i word) y = y.left.mission
  look_leaves (pair_word i word) y = y.left.mission
  look_leaves last_second y = y.left.mission
  look_leaves (search rs a) y = y.left.mission
  look_leaves (counter i) y = y.left.mission
  look_leaves (waiting p) y = y.left.mission
  look_leaves (read octets) y = m
  look_leaves (build fields size output) y = m
  look_leaves (class a) y = m
  look_leaves (form p) y = m
  look_leaves (checksum octets) y = m
  look_leaves (read_echo octets) y = m
  look_leaves (build_request i n echoed output) y = m
  look_leaves (build_reply i n seen echoed output) y = m
  look_leaves board_size y = m
  look_leaves mission_size y = m

  abbrev pub mission_leaves : MissionCall → Result → List ℕ
  mission_leaves (sets s) y = y.left.mission
  mission_leaves (hears rs p slot when octets output) y = y.left.mission
  mission_leaves (echoes rs p slot octets output) y = y.left.mission
  mission_leaves (takes p) y = y.left.mission
  mission_leaves (sweeps when) y = y.left.mission
  mission_leaves (looks l) y = look_leaves l y

abbrev pub words_after : Words → Step → Result → Words
words_after w (operates c) y = record { board = operator_leaves w.board c y; zero = w.zero; one = w.one }
words_after w (flies first c) y = record { board = w.board; zero = mission_leaves w.zero c y; one = w.one }
words_after w (flies second c) y = record { board = w.board; zero = w.zero; one = mission_leaves w.one c y }

-- ---- the words v are left, where w are lent first
abbrev pub Trace : Words → List Step → Words → Type 0
Trace w [] v = v ≡ w
Trace w (c ∷ cs) v = (x : Result) × (Says (made w c) x × Trace (words_after w c x) cs v)

-- ---- what C can pass: beside octets, slots and the numbers of a header, a number of 32 bits wherever one is stored that can be read back, as a second
-- and a lifetime are
abbrev pub Fit : List ℕ → Type 0
Fit = Each (λ (n : ℕ). n < 2 ^ 32)

abbrev pub OperatorPasses : OperatorCall → Type 0
OperatorPasses (orders (set_router x)) = Unit
OperatorPasses (orders (set_port p address mask mtu mission)) = Fit (address.0 ∷ mask.0 ∷ mtu ∷ mission ∷ [])
OperatorPasses (orders (set_lifetime x)) = x < 2 ^ 32
OperatorPasses (orders (set_drop x)) = Unit
OperatorPasses (orders (set_route rs i prefix mask p availability capabilities mission)) = Unit
OperatorPasses (orders (clear_route rs i)) = Unit
OperatorPasses (views router_flag) = Unit
OperatorPasses (views lifetime_word) = Unit
OperatorPasses (views drop_flag) = Unit
OperatorPasses (views (port_word p word)) = Unit
OperatorPasses (views (record_word rs i word)) = Each (λ (x : Record). Fit (record_words x)) rs

abbrev pub SettingPasses : Setting → Type 0
SettingPasses (set_group i address send subscribed) = Fit (address.0 ∷ send ∷ subscribed ∷ [])
SettingPasses (set_path i to send here) = Fit (to.0 ∷ send ∷ here ∷ [])
SettingPasses (clear_group i) = Unit
SettingPasses (clear_path i) = Unit

abbrev pub MissionPasses : MissionCall → Type 0
MissionPasses (sets s) = SettingPasses s
MissionPasses (hears rs p slot when octets output) = OwnPassed (hears rs p slot when octets output)
MissionPasses (echoes rs p slot octets output) = OwnPassed (echoes rs p slot octets output)
MissionPasses (takes p) = Unit
MissionPasses (sweeps when) = OwnPassed (sweeps when)
MissionPasses (looks l) = OwnPassed (looks l)

abbrev pub Passes : Step → Type 0
Passes (operates c) = OperatorPasses c
Passes (flies who c) = MissionPasses c

abbrev pub AllPass : List Step → Type 0
AllPass [] = Unit
AllPass (c ∷ cs) = Passes c × AllPass cs

-- words of any content; a fresh board and both missions fresh, as C was told; and then any steps
pub record Begun (w : Words) (cs : List Step) (v : Words) : Type 0 where
  pub board : Result
  pub zero : Result
  pub one : Result
  pub fresh_board_lem : Says (hj_fresh_board w.board) board × (board.answer ≡ 0)
  pub fresh_zero : Says (hj_fresh_mission w.zero 0) zero × (zero.answer ≡ 0)
  pub fresh_one : Says (hj_fresh_mission w.one 1) one × (one.answer ≡ 0)
  pub then : Trace (record { board = board.left.board; zero = zero.left.mission; one = one.left.mission }) cs v
  pub passed : AllPass cs

-- ---- one customer's history: the operator's calls and its own, in their order, "lent lists included"
abbrev pub is_of : Customer → Customer → Bool
is_of first first = true
is_of first second = false
is_of second first = false
is_of second second = true

abbrev pub history_of : Customer → List Step → List Call
history_of who [] = []
history_of who (operates c ∷ cs) = operator c ∷ history_of who cs
history_of who (flies x c ∷ cs) = pick (is_of who x) (own c ∷ history_of who cs) (history_of who cs)

-- the operator's calls alone
abbrev pub orders_of : List Step → List OperatorCall
orders_of [] = []
orders_of (operates c ∷ cs) = c ∷ orders_of cs
orders_of (flies x c ∷ cs) = orders_of cs

-- the board after them
abbrev pub board_of : List Step → Board
board_of cs = board_from fresh_board (orders_of cs)

-- ---- the board, and the customer's settings and queues, after these steps
abbrev pub seat_of : Customer → List Step → Seat
seat_of who cs = seat_after (number_of who) (history_of who cs)

-- page 01's relay as the customer sees it then: in a call that is lent no list, and in one that is lent this list
abbrev pub relay_of : Customer → List Step → Relay
relay_of who cs = relay_in (seat_of who cs)

abbrev pub relay_for : Customer → List Step → List Record → Relay
relay_for who cs rs = relay_with (seat_of who cs) rs

-- ---- x is what a step may give back after these
pub record Gives (cs : List Step) (c : Step) (x : Result) : Type 0 where
  -- the words that C lent first, of any content, and those that the steps left
  pub lent : Words
  pub before : Words
  pub begun : Begun lent cs before
  pub says : Says (made before c) x
  pub passes : Passes c
