-- The promises of all calls from C in one table: what each answers, the view of the words that it leaves, and the records and octets that it leaves
-- (page 01, "What a promise has to shut out": a promise "determines the answer, the state and each lent octet"). What is lent to be read alone is left as
-- it is. That each row is what the function's own contract states (crates harpjuniper*, src/) is proved: `contract_is_row`, in proofs/Rows.antt. Assumes
-- nothing.
use Rattle.std.specs.Prelude.{ℕ, ◌<◌, ◌≡◌, List, [], length}
use Rattle.checks.specs.Order.{first_of}
use Rattle.checks.specs.Answer.{refusal_number}
use Rattle.address.specs.Class.{class_of, class_number}
use Rattle.address.specs.Path.{path_form, path_number}
use Rattle.checksum.specs.Sum.{checksum_of}
use Rattle.header.specs.Read.{read_of}
use Rattle.echo.specs.Message.{reading_of as message_in}
use Rattle.echo.specs.Built.{built_of, built_output}
use Rattle.sets.specs.Limits.{group_places, path_places}
use Rattle.queue.specs.Order.{Each}
use Rattle.routes.specs.declared.Record.{Record}
use Rattle.state.specs.Relay.{Relay, Mission}
use Rattle.state.specs.Seen.{Board, State, fresh_board, put_lifetime, on_mission, on_memory}
use Rattle.state.specs.Layout.{board_words, mission_words}
use Rattle.lent_state.specs.View.{Lent, lent, lent_board, told_board, changed_board, told, changed, told_both, changed_both, told_relay, changed_relay}
use Rattle.refusals.specs.Lists.{port_checks, route_checks, clear_route_checks, group_checks, path_checks, flag_checks, clear_checks, mission_checks}
use Rattle.adjust.specs.Settled.{new_record, settled_fresh, settled_router, settled_drop, settled_port, settled_route, cleared_route}
use Rattle.adjust.specs.Settled.{settled_group, settled_path, cleared_group, cleared_path}
use Rattle.floods.specs.Sweep.{sweep_checks, swept_memory}
use Rattle.taking.specs.Taking.{taken_relay}
use Rattle.batch.specs.Items.{Lists}
use Rattle.batch.specs.Many.{items_held, items_answered, items_sent, many_refusal, many_heard}
use Rattle.harpjuniper.specs.Face.{reading_of, read_answer, read_left, build_words_answer, build_words_output}
use Rattle.harpjuniper_messages.specs.Face.{read_answer as read_echo_answer, read_left as read_echo_left, request_of, reply_of, built_answer}
use Rattle.harpjuniper_reads.specs.Back.{port_answer, group_answer, path_answer, pair_answer}
use Rattle.harpjuniper_routes.specs.Face.{search_told, route_word_told}
use Rattle.harpjuniper_receive.specs.Face.{receive_answer, receive_words, receive_output}
use Rattle.harpjuniper_echo.specs.Face.{echo_answer, echo_words, echo_output}
use Rattle.harpjuniper_relay.specs.Face.{take_answer, counter_answer, waiting_answer}

-- ---- the calls, each with what it is lent and told: b is a board's words, m a mission's, rs a list of routes, o an output, n the words of a header's
-- or a message's numbers, or the answers of a batch
pub data Exported : Type 0 where
  hj_read_words : List ℕ → List ℕ → Exported
  hj_build_words : List ℕ → ℕ → List ℕ → Exported
  hj_class : ℕ → Exported
  hj_path : ℕ → Exported
  hj_checksum : List ℕ → Exported
  hj_read_echo_words : List ℕ → List ℕ → Exported
  hj_build_request : ℕ → ℕ → List ℕ → List ℕ → Exported
  hj_build_reply : ℕ → ℕ → ℕ → ℕ → ℕ → ℕ → ℕ → List ℕ → List ℕ → Exported
  hj_board_words : Exported
  hj_mission_words : Exported
  hj_fresh_board : List ℕ → Exported
  hj_fresh_mission : List ℕ → ℕ → Exported
  hj_set_router : List ℕ → ℕ → Exported
  hj_set_port : List ℕ → ℕ → ℕ → ℕ → ℕ → ℕ → Exported
  hj_set_lifetime : List ℕ → ℕ → Exported
  hj_set_echo_drop : List ℕ → ℕ → Exported
  hj_set_route : List ℕ → List Record → ℕ → ℕ → ℕ → ℕ → ℕ → ℕ → ℕ → Exported
  hj_clear_route : List Record → ℕ → Exported
  hj_set_group : List ℕ → List ℕ → ℕ → ℕ → ℕ → ℕ → Exported
  hj_set_path : List ℕ → List ℕ → ℕ → ℕ → ℕ → ℕ → Exported
  hj_clear_group : List ℕ → ℕ → Exported
  hj_clear_path : List ℕ → ℕ → Exported
  hj_get_router : List ℕ → Exported
  hj_get_lifetime : List ℕ → Exported
  hj_get_echo_drop : List ℕ → Exported
  hj_port_word : List ℕ → ℕ → ℕ → Exported
  hj_route_word : List Record → ℕ → ℕ → Exported
  hj_group_word : List ℕ → ℕ → ℕ → Exported
  hj_path_word : List ℕ → ℕ → ℕ → Exported
  hj_last_second : List ℕ → Exported
  hj_pair_word : List ℕ → ℕ → ℕ → Exported
  hj_search : List ℕ → List ℕ → List Record → ℕ → Exported
  hj_receive_at : List ℕ → List ℕ → List Record → ℕ → ℕ → ℕ → List ℕ → List ℕ → Exported
  hj_receive_many : List ℕ → List ℕ → List Record → List ℕ → List ℕ → List ℕ → List ℕ → List ℕ → List ℕ → List ℕ → Exported
  hj_echo : List ℕ → List ℕ → List Record → ℕ → ℕ → List ℕ → List ℕ → Exported
  hj_take : List ℕ → List ℕ → ℕ → Exported
  hj_counter : List ℕ → ℕ → Exported
  hj_waiting : List ℕ → ℕ → Exported
  hj_sweep : List ℕ → List ℕ → ℕ → Exported

-- ---- what is lent to a call and may be written, and what is lent beside it; what a call is not lent is empty here
pub record Things : Type 0 where
  pub board : List ℕ
  pub mission : List ℕ
  pub routes : List Record
  pub output : List ℕ
  pub numbers : List ℕ

-- what a call gives back: its answer, and these things after it
pub record Result : Type 0 where
  pub answer : ℕ
  pub left : Things

-- what a promise says of them: of the words their view
pub record Promise : Type 0 where
  pub answer : ℕ
  pub board : Lent Board
  pub mission : Lent State
  pub routes : List Record
  pub output : List ℕ
  pub numbers : List ℕ

pub record Allows (p : Promise) (x : Result) : Type 0 where
  pub answer : x.answer ≡ p.answer
  pub board : lent_board x.left.board ≡ p.board
  pub mission : lent x.left.mission ≡ p.mission
  pub routes : x.left.routes ≡ p.routes
  pub output : x.left.output ≡ p.output
  pub numbers : x.left.numbers ≡ p.numbers

-- ---- what each call is lent
abbrev nothing : Things
nothing = record { board = []; mission = []; routes = []; output = []; numbers = [] }

abbrev a_board : List ℕ → Things
a_board b = record { board = b; mission = []; routes = []; output = []; numbers = [] }

abbrev a_mission : List ℕ → Things
a_mission m = record { board = []; mission = m; routes = []; output = []; numbers = [] }

abbrev a_list : List Record → Things
a_list rs = record { board = []; mission = []; routes = rs; output = []; numbers = [] }

abbrev an_output : List ℕ → Things
an_output o = record { board = []; mission = []; routes = []; output = o; numbers = [] }

abbrev both : List ℕ → List ℕ → Things
both b m = record { board = b; mission = m; routes = []; output = []; numbers = [] }

abbrev pub lent_to : Exported → Things
lent_to (hj_read_words octets n) = record { board = []; mission = []; routes = []; output = []; numbers = n }
lent_to (hj_build_words n size o) = record { board = []; mission = []; routes = []; output = o; numbers = n }
lent_to (hj_class a) = nothing
lent_to (hj_path p) = nothing
lent_to (hj_checksum octets) = nothing
lent_to (hj_read_echo_words octets n) = record { board = []; mission = []; routes = []; output = []; numbers = n }
lent_to (hj_build_request identifier sequence echoed o) = an_output o
lent_to (hj_build_reply identifier sequence hops format stamp mtu rate echoed o) = an_output o
lent_to hj_board_words = nothing
lent_to hj_mission_words = nothing
lent_to (hj_fresh_board b) = a_board b
lent_to (hj_fresh_mission m number) = a_mission m
lent_to (hj_set_router b router) = a_board b
lent_to (hj_set_port b p address mask mtu mission) = a_board b
lent_to (hj_set_lifetime b lifetime) = a_board b
lent_to (hj_set_echo_drop b drop) = a_board b
lent_to (hj_set_route b rs i prefix mask p availability capabilities mission) =
    record { board = b; mission = []; routes = rs; output = []; numbers = [] }
lent_to (hj_clear_route rs i) = a_list rs
lent_to (hj_set_group b m i address send subscribed) = both b m
lent_to (hj_set_path b m i to send here) = both b m
lent_to (hj_clear_group m i) = a_mission m
lent_to (hj_clear_path m i) = a_mission m
lent_to (hj_get_router b) = a_board b
lent_to (hj_get_lifetime b) = a_board b
lent_to (hj_get_echo_drop b) = a_board b
lent_to (hj_port_word b p word) = a_board b
lent_to (hj_route_word rs i word) = a_list rs
lent_to (hj_group_word m i word) = a_mission m
lent_to (hj_path_word m i word) = a_mission m
lent_to (hj_last_second m) = a_mission m
lent_to (hj_pair_word m i word) = a_mission m
lent_to (hj_search b m rs a) = record { board = b; mission = m; routes = rs; output = []; numbers = [] }
lent_to (hj_receive_at b m rs p slot second octets o) = record { board = b; mission = m; routes = rs; output = o; numbers = [] }
lent_to (hj_receive_many b m rs lengths ports slots seconds octets n o) = record { board = b; mission = m; routes = rs; output = o; numbers = n }
lent_to (hj_echo b m rs p slot octets o) = record { board = b; mission = m; routes = rs; output = o; numbers = [] }
lent_to (hj_take b m p) = both b m
lent_to (hj_counter m i) = a_mission m
lent_to (hj_waiting m p) = a_mission m
lent_to (hj_sweep b m second) = both b m

-- ---- what C can pass: numbers here have no end and C's have, which matters of one argument alone, the slot, a number of 16 bits
abbrev pub Passable : Exported → Type 0
Passable (hj_read_words octets n) = Unit
Passable (hj_build_words n size o) = Unit
Passable (hj_class a) = Unit
Passable (hj_path p) = Unit
Passable (hj_checksum octets) = Unit
Passable (hj_read_echo_words octets n) = Unit
Passable (hj_build_request identifier sequence echoed o) = Unit
Passable (hj_build_reply identifier sequence hops format stamp mtu rate echoed o) = Unit
Passable hj_board_words = Unit
Passable hj_mission_words = Unit
Passable (hj_fresh_board b) = Unit
Passable (hj_fresh_mission m number) = Unit
Passable (hj_set_router b router) = Unit
Passable (hj_set_port b p address mask mtu mission) = Unit
Passable (hj_set_lifetime b lifetime) = Unit
Passable (hj_set_echo_drop b drop) = Unit
Passable (hj_set_route b rs i prefix mask p availability capabilities mission) = Unit
Passable (hj_clear_route rs i) = Unit
Passable (hj_set_group b m i address send subscribed) = Unit
Passable (hj_set_path b m i to send here) = Unit
Passable (hj_clear_group m i) = Unit
Passable (hj_clear_path m i) = Unit
Passable (hj_get_router b) = Unit
Passable (hj_get_lifetime b) = Unit
Passable (hj_get_echo_drop b) = Unit
Passable (hj_port_word b p word) = Unit
Passable (hj_route_word rs i word) = Unit
Passable (hj_group_word m i word) = Unit
Passable (hj_path_word m i word) = Unit
Passable (hj_last_second m) = Unit
Passable (hj_pair_word m i word) = Unit
Passable (hj_search b m rs a) = Unit
Passable (hj_receive_at b m rs p slot second octets o) = slot < 65536
Passable (hj_receive_many b m rs lengths ports slots seconds octets n o) = Each (λ (slot : ℕ). slot < 65536) slots
Passable (hj_echo b m rs p slot octets o) = slot < 65536
Passable (hj_take b m p) = Unit
Passable (hj_counter m i) = Unit
Passable (hj_waiting m p) = Unit
Passable (hj_sweep b m second) = Unit

-- ---- the table
-- all is left as it was lent
abbrev pub looking : Things → ℕ → Promise
looking t answer =
    record {
      answer = answer;
      board = lent_board t.board;
      mission = lent t.mission;
      routes = t.routes;
      output = t.output;
      numbers = t.numbers;
    }

-- one thing is left otherwise
abbrev pub board_left : Promise → Lent Board → Promise
board_left p x = record { answer = p.answer; board = x; mission = p.mission; routes = p.routes; output = p.output; numbers = p.numbers }

abbrev pub mission_left : Promise → Lent State → Promise
mission_left p x = record { answer = p.answer; board = p.board; mission = x; routes = p.routes; output = p.output; numbers = p.numbers }

abbrev pub routes_left : Promise → List Record → Promise
routes_left p x = record { answer = p.answer; board = p.board; mission = p.mission; routes = x; output = p.output; numbers = p.numbers }

abbrev pub output_left : Promise → List ℕ → Promise
output_left p x = record { answer = p.answer; board = p.board; mission = p.mission; routes = p.routes; output = x; numbers = p.numbers }

abbrev pub numbers_left : Promise → List ℕ → Promise
numbers_left p x = record { answer = p.answer; board = p.board; mission = p.mission; routes = p.routes; output = p.output; numbers = x }

-- the kinds of call: on the board, 21 where the words are no board's;
abbrev on_board : Exported → List ℕ → (Board → ℕ) → (Board → Board) → Promise
on_board c b answer change = board_left (looking (lent_to c) (told_board answer 21 b)) (changed_board change b)

-- a mission's setting, on the relay that it sees
abbrev on_relay : Exported → List ℕ → List ℕ → (Relay → ℕ) → (Relay → Relay) → Promise
on_relay c b m answer change = mission_left (looking (lent_to c) (told_relay answer 21 b m)) (changed_relay change b m)

-- one that reads the board for what is no part of that relay
abbrev on_both : Exported → List ℕ → List ℕ → (Board → State → ℕ) → (Board → State → State) → Promise
on_both c b m answer change = mission_left (looking (lent_to c) (told_both answer 21 b m)) (changed_both change b m)

-- and on its own state alone
abbrev on_state : Exported → List ℕ → (State → ℕ) → (State → State) → Promise
on_state c m answer change = mission_left (looking (lent_to c) (told answer 21 m)) (changed change m)

abbrev pub promised : Exported → Promise
promised (hj_read_words octets n) =
    let c = hj_read_words octets n in
    numbers_left (looking (lent_to c) (read_answer (length n) (reading_of (read_of octets)))) (read_left (reading_of (read_of octets)) n)
promised (hj_build_words n size o) =
    let c = hj_build_words n size o in
    output_left (looking (lent_to c) (build_words_answer n size (length o))) (build_words_output n size o)
promised (hj_class a) = looking nothing (class_number (class_of a))
promised (hj_path p) = looking nothing (path_number (path_form p))
promised (hj_checksum octets) = looking nothing (checksum_of octets)
promised (hj_read_echo_words octets n) =
    let c = hj_read_echo_words octets n in
    numbers_left (looking (lent_to c) (read_echo_answer (length n) (message_in octets))) (read_echo_left (message_in octets) n)
promised (hj_build_request identifier sequence echoed o) =
    let m = request_of identifier sequence in
    output_left (looking (an_output o) (built_answer (built_of m (length echoed) (length o)))) (built_output m echoed o)
promised (hj_build_reply identifier sequence hops format stamp mtu rate echoed o) =
    let m = reply_of identifier sequence hops format stamp mtu rate in
    output_left (looking (an_output o) (built_answer (built_of m (length echoed) (length o)))) (built_output m echoed o)
promised hj_board_words = looking nothing board_words
promised hj_mission_words = looking nothing mission_words
promised (hj_fresh_board b) = on_board (hj_fresh_board b) b (λ (x : Board). 0) (λ (x : Board). fresh_board)
promised (hj_fresh_mission m number) =
    on_state (hj_fresh_mission m number) m (λ (x : State). first_of (mission_checks number)) (λ (x : State). settled_fresh x number)
promised (hj_set_router b router) =
    on_board (hj_set_router b router) b (λ (x : Board). first_of (flag_checks router)) (λ (x : Board). settled_router x router)
promised (hj_set_port b p address mask mtu mission) =
    on_board (hj_set_port b p address mask mtu mission) b
    (λ (x : Board). first_of (port_checks x p (record { 0 = address }) (record { 0 = mask }) mtu mission))
    (λ (x : Board). settled_port x p (record { 0 = address }) (record { 0 = mask }) mtu mission)
promised (hj_set_lifetime b lifetime) = on_board (hj_set_lifetime b lifetime) b (λ (x : Board). 0) (λ (x : Board). put_lifetime x lifetime)
promised (hj_set_echo_drop b drop) =
    on_board (hj_set_echo_drop b drop) b (λ (x : Board). first_of (flag_checks drop)) (λ (x : Board). settled_drop x drop)
promised (hj_set_route b rs i prefix mask p availability capabilities mission) =
    let c = hj_set_route b rs i prefix mask p availability capabilities mission in
    let x = new_record prefix mask p availability capabilities mission in
    routes_left (looking (lent_to c) (told_board (λ (y : Board). first_of (route_checks y rs i x)) 21 b)) (told_board (λ (y : Board). settled_route y rs i x) rs b)
promised (hj_clear_route rs i) = routes_left (looking (a_list rs) (first_of (clear_route_checks rs i))) (cleared_route rs i)
promised (hj_set_group b m i address send subscribed) =
    on_relay (hj_set_group b m i address send subscribed) b m
    (λ (x : Relay). first_of (group_checks x i (record { 0 = address }) send subscribed))
    (λ (x : Relay). settled_group x i (record { 0 = address }) send subscribed)
promised (hj_set_path b m i to send here) =
    on_relay (hj_set_path b m i to send here) b m
    (λ (x : Relay). first_of (path_checks x i (record { 0 = to }) send here))
    (λ (x : Relay). settled_path x i (record { 0 = to }) send here)
promised (hj_clear_group m i) =
    on_state (hj_clear_group m i) m (λ (x : State). first_of (clear_checks i group_places)) (on_mission (λ (x : Mission). cleared_group x i))
promised (hj_clear_path m i) =
    on_state (hj_clear_path m i) m (λ (x : State). first_of (clear_checks i path_places)) (on_mission (λ (x : Mission). cleared_path x i))
promised (hj_get_router b) = looking (a_board b) (told_board (λ (x : Board). x.router) (refusal_number 21) b)
promised (hj_get_lifetime b) = looking (a_board b) (told_board (λ (x : Board). x.lifetime) (refusal_number 21) b)
promised (hj_get_echo_drop b) = looking (a_board b) (told_board (λ (x : Board). x.drop) (refusal_number 21) b)
promised (hj_port_word b p word) = looking (a_board b) (told_board (λ (x : Board). port_answer x p word) (refusal_number 21) b)
promised (hj_route_word rs i word) = looking (a_list rs) (route_word_told rs i word)
promised (hj_group_word m i word) = looking (a_mission m) (told (λ (x : State). group_answer x.mission i word) (refusal_number 21) m)
promised (hj_path_word m i word) = looking (a_mission m) (told (λ (x : State). path_answer x.mission i word) (refusal_number 21) m)
promised (hj_last_second m) = looking (a_mission m) (told (λ (x : State). x.memory.last) (refusal_number 21) m)
promised (hj_pair_word m i word) = looking (a_mission m) (told (λ (x : State). pair_answer x.memory i word) (refusal_number 21) m)
promised (hj_search b m rs a) = looking (lent_to (hj_search b m rs a)) (search_told b m rs a)
promised (hj_receive_at b m rs p slot second octets o) =
    let c = hj_receive_at b m rs p slot second octets o in
    output_left
    (mission_left (looking (lent_to c) (receive_answer b m rs p second octets (length o))) (receive_words b m rs p slot second octets (length o)))
    (receive_output b m rs p second octets o)
promised (hj_receive_many b m rs lengths ports slots seconds octets n o) =
    let c = hj_receive_many b m rs lengths ports slots seconds octets n o in
    let x : Lists = record { lengths = lengths; ports = ports; slots = slots; seconds = seconds; octets = octets } in
    let heard = many_heard rs x n o in
    numbers_left
    (output_left
    (mission_left (looking (lent_to c) (many_refusal rs x n o)) (items_held b (lent m) rs x heard))
    (items_sent b (lent m) rs x o heard))
    (items_answered b (lent m) rs x n heard)
promised (hj_echo b m rs p slot octets o) =
    let c = hj_echo b m rs p slot octets o in
    output_left
    (mission_left (looking (lent_to c) (echo_answer b m rs p octets (length o))) (echo_words b m rs p slot octets (length o)))
    (echo_output b m rs p octets o)
promised (hj_take b m p) =
    mission_left (looking (both b m) (told_relay (λ (x : Relay). take_answer x p) (refusal_number 16) b m)) (changed_relay (λ (x : Relay). taken_relay x p) b m)
promised (hj_counter m i) = looking (a_mission m) (told (λ (x : State). counter_answer x.counters i) (refusal_number 21) m)
promised (hj_waiting m p) = looking (a_mission m) (told (λ (x : State). waiting_answer x.mission p) (refusal_number 21) m)
promised (hj_sweep b m second) =
    on_both (hj_sweep b m second) b m
    (λ (x : Board) (s : State). first_of (sweep_checks s.memory second))
    (λ (x : Board) (s : State). on_memory (swept_memory x.lifetime second) s)
