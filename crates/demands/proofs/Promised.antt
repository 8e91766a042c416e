-- What each call of a customer's history is promised to answer and to leave where the words hold the board and the customer's state: the rows of the crate
-- `contracts`, without the words. That C is told this after any trace is proved: `Gives-row`, in proofs/Told.antt. Assumes nothing.
use Prim.Native.Nat.{ℕ}
use mathlib.Core.List.{List, []}
use lib.ListN.{length, replicate}
use Rattle.checks.specs.Order.{pick, first_of}
use Rattle.address.specs.Class.{class_of, class_number}
use Rattle.address.specs.Path.{path_form, path_number}
use Rattle.checksum.specs.Sum.{checksum_of}
use Rattle.header.specs.Read.{read_of}
use Rattle.echo.specs.Message.{reading_of as echo_of}
use Rattle.echo.specs.Built.{built_of, built_output}
use Rattle.echo.specs.declared.Kind.TheVariants.{Reply}
use Rattle.numbers.specs.InWords.{numbers_words}
use Rattle.routes.specs.declared.Record.{Record}
use Rattle.state.specs.Seen.{Board, State}
use Rattle.state.specs.Layout.{board_words, mission_words}
use Rattle.tally.specs.Tally.{counted_all}
use Rattle.lent_state.specs.View.{Lent, Held, lent_board, lent, too_long}
use Rattle.relay.specs.Outgoing.{sent_output}
use Rattle.floods.specs.Sweep.{sweep_checks}
use Rattle.replies.specs.Replied.{replied_output}
use Rattle.answering.specs.Split.{number_for}
use Rattle.answers.specs.Answers.{receive_number}
use Rattle.harpjuniper.specs.Face.{reading_of, reading_words, build_answer, build_output}
use Rattle.harpjuniper_messages.specs.Face.{message_count, refusal_in as read_refusal, left_by, request_of, built_answer}
use Rattle.route_calls.specs.Search.{search_answer}
use Rattle.harpjuniper_routes.specs.Face.{route_word_told}
use Rattle.harpjuniper_reads.specs.Back.{port_answer, group_answer, path_answer, pair_answer}
use Rattle.harpjuniper_relay.specs.Face.{take_answer, counter_answer, waiting_answer}
use Rattle.contracts.specs.Promised.{Promise}
use Rattle.history.specs.Seat.{Seat, state_of, relay_in, relay_with, heard_by, answering_by, replied_by}
use Rattle.history.specs.Looks.{message_from}
use Rattle.history.specs.Outcome.{outcome, next}
use Rattle.history.specs.Calls.{
  Order,
  set_router,
  set_port,
  set_lifetime,
  set_drop,
  set_route,
  clear_route,
  View,
  router_flag,
  lifetime_word,
  drop_flag,
  port_word,
  record_word,
  OperatorCall,
  orders,
  views,
  Setting,
  set_group,
  set_path,
  clear_group,
  clear_path,
  Look,
  group_word,
  path_word,
  pair_word,
  last_second,
  search,
  counter,
  waiting,
  read,
  build,
  class,
  form,
  checksum,
  read_echo,
  build_request,
  build_reply,
  board_size,
  mission_size,
  MissionCall,
  sets,
  hears,
  echoes,
  takes,
  sweeps,
  looks,
  Call,
  operator,
  own,
  order_checks,
  board_left,
  list_left,
  checks_of,
}

abbrev promise : ℕ → Lent Board → Lent State → List Record → List ℕ → List ℕ → Promise
promise answer board mission routes output numbers =
    record { answer = answer; board = board; mission = mission; routes = routes; output = output; numbers = numbers }

-- what is not lent
abbrev no_board : Lent Board
no_board = lent_board []

abbrev no_mission : Lent State
no_mission = lent []

-- the call is lent nothing but octets and numbers
abbrev asking : ℕ → Promise
asking answer = promise answer no_board no_mission [] [] []

-- ---- of a seat and its counters
module _ (x : Seat) (l : List ℕ) where
  -- what a call leaves of them
  abbrev pub next_state : Call → State
  next_state c = state_of (next x c) (counted_all l (outcome x c).moves)

  -- a call on the board, one on the mission, and one on both
  abbrev on_board : ℕ → Board → List Record → Promise
  on_board answer board routes = promise answer (Held board) no_mission routes [] []

  abbrev on_mission : ℕ → State → Promise
  on_mission answer state = promise answer no_board (Held state) [] [] []

  abbrev on_both : ℕ → State → List Record → List ℕ → Promise
  on_both answer state routes output = promise answer (Held x.board) (Held state) routes output []

  abbrev order_promised : Order → Promise
  order_promised (set_router y) = on_board (first_of (order_checks x.board (set_router y))) (board_left x.board (set_router y)) []
  order_promised (set_port p address mask mtu mission) =
      let o = set_port p address mask mtu mission in
      on_board (first_of (order_checks x.board o)) (board_left x.board o) []
  order_promised (set_lifetime y) = on_board (first_of (order_checks x.board (set_lifetime y))) (board_left x.board (set_lifetime y)) []
  order_promised (set_drop y) = on_board (first_of (order_checks x.board (set_drop y))) (board_left x.board (set_drop y)) []
  order_promised (set_route rs i prefix mask p availability capabilities mission) =
      let o = set_route rs i prefix mask p availability capabilities mission in
      on_board (first_of (order_checks x.board o)) x.board (list_left x.board o)
  order_promised (clear_route rs i) =
      promise (first_of (order_checks x.board (clear_route rs i))) no_board no_mission (list_left x.board (clear_route rs i)) [] []

  abbrev view_promised : View → Promise
  view_promised router_flag = on_board x.board.router x.board []
  view_promised lifetime_word = on_board x.board.lifetime x.board []
  view_promised drop_flag = on_board x.board.drop x.board []
  view_promised (port_word p word) = on_board (port_answer x.board p word) x.board []
  view_promised (record_word rs i word) = promise (route_word_told rs i word) no_board no_mission rs [] []

  abbrev operator_promised : OperatorCall → Promise
  operator_promised (orders o) = order_promised o
  operator_promised (views v) = view_promised v

  abbrev setting_promised : Setting → Promise
  setting_promised (set_group i address send subscribed) =
      let s = set_group i address send subscribed in
      on_both (first_of (checks_of (relay_in x) s)) (next_state (own (sets s))) [] []
  setting_promised (set_path i path send here) =
      let s = set_path i path send here in
      on_both (first_of (checks_of (relay_in x) s)) (next_state (own (sets s))) [] []
  setting_promised (clear_group i) = on_mission (first_of (checks_of (relay_in x) (clear_group i))) (next_state (own (sets (clear_group i))))
  setting_promised (clear_path i) = on_mission (first_of (checks_of (relay_in x) (clear_path i))) (next_state (own (sets (clear_path i))))

  abbrev look_promised : Look → Promise
  look_promised (group_word i word) = on_mission (group_answer x.mission i word) (state_of x l)
  look_promised (path_word i word) = on_mission (path_answer x.mission i word) (state_of x l)
  look_promised (pair_word i word) = on_mission (pair_answer x.memory i word) (state_of x l)
  look_promised last_second = on_mission x.memory.last (state_of x l)
  look_promised (search rs a) = on_both (pick (too_long rs) 21 (search_answer (relay_with x rs) a)) (state_of x l) rs []
  look_promised (counter i) = on_mission (counter_answer l i) (state_of x l)
  look_promised (waiting p) = on_mission (waiting_answer x.mission p) (state_of x l)
  look_promised (read octets) =
      let r = reading_of (read_of octets) in
      promise r.refusal no_board no_mission [] [] (reading_words r)
  look_promised (build fields size output) =
      promise (build_answer fields size (length output)) no_board no_mission [] (build_output fields size output) (numbers_words fields)
  look_promised (class a) = asking (class_number (class_of a.0))
  look_promised (form p) = asking (path_number (path_form p.0))
  look_promised (checksum octets) = asking (checksum_of octets)
  look_promised (read_echo octets) =
      let r = echo_of octets in
      promise (read_refusal r) no_board no_mission [] [] (left_by r (replicate message_count 0))
  look_promised (build_request i n echoed output) =
      promise (built_answer (built_of (request_of i n) (length echoed) (length output))) no_board no_mission [] (built_output (request_of i n) echoed output) []
  look_promised (build_reply i n seen echoed output) =
      let message = message_from (Reply seen) i n in
      promise (built_answer (built_of message (length echoed) (length output))) no_board no_mission [] (built_output message echoed output) []
  look_promised board_size = asking board_words
  look_promised mission_size = asking mission_words

  abbrev own_promised : MissionCall → Promise
  own_promised (sets s) = setting_promised s
  own_promised (hears rs p slot second octets output) =
      let e = heard_by x rs p second octets (length output) in
      on_both (receive_number e) (next_state (own (hears rs p slot second octets output))) rs (sent_output e octets output)
  own_promised (echoes rs p slot octets output) =
      let e = replied_by x rs p octets (length output) in
      on_both (number_for e) (next_state (own (echoes rs p slot octets output))) rs
      (replied_output (answering_by x rs p octets (length output)) e octets output)
  own_promised (takes p) = on_both (take_answer (relay_in x) p) (next_state (own (takes p))) [] []
  own_promised (sweeps second) = on_both (first_of (sweep_checks x.memory second)) (next_state (own (sweeps second))) [] []
  own_promised (looks l) = look_promised l

  abbrev pub promised_by : Call → Promise
  promised_by (operator c) = operator_promised c
  promised_by (own c) = own_promised c
