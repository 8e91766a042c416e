-- The contract of each call from C can be kept: whatever the call is passed and lent, there is a result that its contract lets it give back. Assumes
-- nothing.
use native.Mathlib.Omega.{arith}
use Prim.Native.Nat.{ℕ, zero, suc, ◌<◌}
use mathlib.Core.Path.{◌≡◌, refl, ap, ◌∙◌}
use mathlib.Core.Bool.{Bool, true, false}
use mathlib.Core.List.{List, []}
use lib.ListN.{length, get_or}
use lib.Dec.{eqb}
use borrow.Author.Tests.{eqb-true, eqb-false}
use Rattle.queue.specs.Order.{Each}
use Rattle.routes.specs.declared.Record.{Record}
use Rattle.state.specs.Relay.{Mission, Relay}
use Rattle.state.specs.Seen.{Board, State, fresh_board, put_lifetime, on_mission, on_memory, on_seated}
use Rattle.state.specs.Layout.{board_words, decode_board, encode_board, mission_words, decode, encode}
use Rattle.state.proofs.Sizes.{SizedBoard, board_sized}
use Rattle.adjust.specs.Settled.{settled_fresh, settled_router, settled_drop, settled_port, settled_group, settled_path, cleared_group, cleared_path}
use Rattle.floods.specs.Sweep.{swept_memory}
use Rattle.taking.specs.Taking.{taken_relay}
use Rattle.judge.specs.Ending.{output_room}
use Rattle.relay.specs.Received.{heard_ending, heard_memory, received_state}
use Rattle.relay.specs.Hearing.{held_in}
use Rattle.batch.specs.Items.{Lists, octets_at}
use Rattle.batch.specs.Many.{items_held, many_heard}
use Rattle.lent_state.specs.View.{Lent, Held, Other, by_lent, lent_board, lent, told_board, changed_board, changed, changed_both, changed_relay}
use Rattle.lent_state.proofs.Calls.{board_held_changed, board_other_changed, held_changed, other_changed}
use Rattle.harpjuniper_receive.specs.Face.{receive_words}
use Rattle.answering.specs.Echoed.{echo_reply, replied_state}
use Rattle.harpjuniper_echo.specs.Face.{echo_words}
use Rattle.contracts.specs.Promised.{
  Result,
  Exported,
  hj_read_words,
  hj_build_words,
  hj_class,
  hj_path,
  hj_checksum,
  hj_read_echo_words,
  hj_build_request,
  hj_build_reply,
  hj_board_words,
  hj_mission_words,
  hj_fresh_board,
  hj_fresh_mission,
  hj_set_router,
  hj_set_port,
  hj_set_lifetime,
  hj_set_echo_drop,
  hj_set_route,
  hj_clear_route,
  hj_set_group,
  hj_set_path,
  hj_clear_group,
  hj_clear_path,
  hj_get_router,
  hj_get_lifetime,
  hj_get_echo_drop,
  hj_port_word,
  hj_route_word,
  hj_group_word,
  hj_path_word,
  hj_last_second,
  hj_pair_word,
  hj_search,
  hj_receive_at,
  hj_receive_many,
  hj_echo,
  hj_take,
  hj_counter,
  hj_waiting,
  hj_sweep,
  Passable,
  promised,
}
use Rattle.contracts.specs.Stated.{Spot, Lying, Contract, Says}
use Rattle.contracts.proofs.Formed.{Formed, decode_formed, words_length, words_hold, board_length, board_holds}
use Rattle.contracts.proofs.Kept.{KeptIn, set_router_kept, set_port_kept, set_lifetime_kept, set_drop_kept, fresh_board_kept}
use Rattle.contracts.proofs.Kept.{set_group_kept, set_path_kept, clear_group_kept, clear_path_kept, taken_kept}
use Rattle.contracts.proofs.Kept.{get_d_each, heard_kept_lem, received_kept, replied_kept, swept_kept, mission_kept, memory_kept, seated_kept, fresh_kept}
use Rattle.contracts.proofs.Rows.{row_contract}

-- ---- the board: words that have this view
abbrev BoardSome : Lent Board → Type 0
BoardSome view = (v : List ℕ) × (lent_board v ≡ view)

-- the words of the board changed, or the words as they were
board_left_by : (w : List ℕ) (f : Board → Board) → ((b : Board) → SizedBoard b → SizedBoard (f b)) → BoardSome (changed_board f w)
board_left_by w f keeps = by_length (eqb (length w) board_words) refl
  where
    held : length w ≡ board_words → BoardSome (changed_board f w)
    held right =
        let b = f (decode_board w) in
        let sized = keeps (decode_board w) (board_sized w) in
        (encode_board b, board_held_changed w right f (encode_board b) (board_length b sized) (board_holds b sized))

    by_length : (t : Bool) → eqb (length w) board_words ≡ t → BoardSome (changed_board f w)
    by_length true e = held (eqb-true (length w) board_words e)
    by_length false e = (w, board_other_changed w (eqb-false (length w) board_words e) f)

board_left_lem : (c : Exported) → Passable c → BoardSome (promised c).board
board_left_lem (hj_read_words octets n) fits = ([], refl)
board_left_lem (hj_build_words n size o) fits = ([], refl)
board_left_lem (hj_class a) fits = ([], refl)
board_left_lem (hj_path p) fits = ([], refl)
board_left_lem (hj_checksum octets) fits = ([], refl)
board_left_lem (hj_read_echo_words octets n) fits = ([], refl)
board_left_lem (hj_build_request identifier sequence echoed o) fits = ([], refl)
board_left_lem (hj_build_reply identifier sequence hops format stamp mtu rate echoed o) fits = ([], refl)
board_left_lem hj_board_words fits = ([], refl)
board_left_lem hj_mission_words fits = ([], refl)
board_left_lem (hj_fresh_board b) fits = board_left_by b (λ (x : Board). fresh_board) (λ x h. fresh_board_kept)
board_left_lem (hj_fresh_mission m number) fits = ([], refl)
board_left_lem (hj_set_router b router) fits = board_left_by b (λ (x : Board). settled_router x router) (λ x h. set_router_kept x h router)
board_left_lem (hj_set_port b p address mask mtu mission) fits =
    board_left_by b (λ (x : Board). settled_port x p (record { 0 = address }) (record { 0 = mask }) mtu mission)
    (λ x h. set_port_kept x h p (record { 0 = address }) (record { 0 = mask }) mtu mission)
board_left_lem (hj_set_lifetime b lifetime) fits = board_left_by b (λ (x : Board). put_lifetime x lifetime) (λ x h. set_lifetime_kept x h lifetime)
board_left_lem (hj_set_echo_drop b drop) fits = board_left_by b (λ (x : Board). settled_drop x drop) (λ x h. set_drop_kept x h drop)
board_left_lem (hj_set_route b rs i prefix mask p availability capabilities mission) fits = (b, refl)
board_left_lem (hj_clear_route rs i) fits = ([], refl)
board_left_lem (hj_set_group b m i address send subscribed) fits = (b, refl)
board_left_lem (hj_set_path b m i to send here) fits = (b, refl)
board_left_lem (hj_clear_group m i) fits = ([], refl)
board_left_lem (hj_clear_path m i) fits = ([], refl)
board_left_lem (hj_get_router b) fits = (b, refl)
board_left_lem (hj_get_lifetime b) fits = (b, refl)
board_left_lem (hj_get_echo_drop b) fits = (b, refl)
board_left_lem (hj_port_word b p word) fits = (b, refl)
board_left_lem (hj_route_word rs i word) fits = ([], refl)
board_left_lem (hj_group_word m i word) fits = ([], refl)
board_left_lem (hj_path_word m i word) fits = ([], refl)
board_left_lem (hj_last_second m) fits = ([], refl)
board_left_lem (hj_pair_word m i word) fits = ([], refl)
board_left_lem (hj_search b m rs a) fits = (b, refl)
board_left_lem (hj_receive_at b m rs p slot second octets o) fits = (b, refl)
board_left_lem (hj_receive_many b m rs lengths ports slots seconds octets n o) fits = (b, refl)
board_left_lem (hj_echo b m rs p slot octets o) fits = (b, refl)
board_left_lem (hj_take b m p) fits = (b, refl)
board_left_lem (hj_counter m i) fits = ([], refl)
board_left_lem (hj_waiting m p) fits = ([], refl)
board_left_lem (hj_sweep b m second) fits = (b, refl)

-- ---- a mission: likewise
abbrev StateSome : Lent State → Type 0
StateSome view = (v : List ℕ) × (lent v ≡ view)

left_by : (w : List ℕ) (f : State → State) → ((s : State) → Formed s → Formed (f s)) → StateSome (changed f w)
left_by w f keeps = by_length (eqb (length w) mission_words) refl
  where
    held : length w ≡ mission_words → StateSome (changed f w)
    held right =
        let formed = keeps (decode w) (decode_formed w right) in
        let s = f (decode w) in
        (encode s, held_changed w right f (encode s) (words_length s formed) (words_hold s formed))

    by_length : (t : Bool) → eqb (length w) mission_words ≡ t → StateSome (changed f w)
    by_length true e = held (eqb-true (length w) mission_words e)
    by_length false e = (w, other_changed w (eqb-false (length w) mission_words e) f)

-- the same of a call that is lent the board to read
both_left_by : (b w : List ℕ) (f : Board → State → State) → ((x : Board) (s : State) → Formed s → Formed (f x s)) → StateSome (changed_both f b w)
unfolding told_board
both_left_by b w f keeps = by_view (lent_board b)
  where
    by_view : (l : Lent Board) → StateSome (by_lent (λ (x : Board). changed (f x) w) (lent w) l)
    by_view (Held x) = left_by w (f x) (keeps x)
    by_view (Other v) = (w, refl)

seated_left_by : (b w : List ℕ) (f : Relay → Relay) → ((r : Relay) → KeptIn r → KeptIn (f r)) → StateSome (changed_relay f b w)
seated_left_by b w f keeps = both_left_by b w (λ (x : Board) (s : State). on_seated x f s) (λ x s h. seated_kept f keeps x s h)

received_left : (b m : List ℕ) (rs : List Record) (p slot second : ℕ) (octets : List ℕ) (room : ℕ) → slot < 65536
    → StateSome (held_in b (lent m) rs p slot second octets room)
unfolding changed
received_left b m rs p slot second octets room fits =
    both_left_by b m
    (λ (x : Board) (s : State).
    received_state x s (record { 0 = slot }) (heard_memory x s rs p second octets room) (heard_ending x s rs p second octets room))
    (λ x s h.
    received_kept x s h (record { 0 = slot }) fits
    (heard_memory x s rs p second octets room) (heard_kept_lem x s rs p second octets room h.memory)
    (heard_ending x s rs p second octets room))

-- each item of a batch changes the words that the one before left
many_left : (b m : List ℕ) (rs : List Record) (x : Lists) → Each (λ (slot : ℕ). slot < 65536) x.slots → (n : ℕ)
    → StateSome (items_held b (lent m) rs x n)
unfolding items_held
many_left b m rs x fits zero = (m, refl)
many_left b m rs x fits (suc i) =
    let before = many_left b m rs x fits i in
    let p = get_or x.ports i 0 in
    let slot = get_or x.slots i 0 in
    let second = get_or x.seconds i 0 in
    let octets = octets_at x.lengths x.octets i in
    let fit = get_d_each (λ (k : ℕ). k < 65536) x.slots i 0 (omega arith) fits in
    let after = received_left b before.0 rs p slot second octets output_room fit in
    (after.0, after.1 ∙ ap (λ (l : Lent State). held_in b l rs p slot second octets output_room) before.1)

replied_left : (b m : List ℕ) (rs : List Record) (p slot : ℕ) (octets : List ℕ) (room : ℕ) → slot < 65536
    → StateSome (echo_words b m rs p slot octets room)
unfolding echo_words
replied_left b m rs p slot octets room fits =
    both_left_by b m
    (λ (x : Board) (s : State). replied_state x s (record { 0 = slot }) (echo_reply x s rs p octets room))
    (λ x s h. replied_kept x s h (record { 0 = slot }) fits (echo_reply x s rs p octets room))

mission_left_lem : (c : Exported) → Passable c → StateSome (promised c).mission
unfolding receive_words
mission_left_lem (hj_read_words octets n) fits = ([], refl)
mission_left_lem (hj_build_words n size o) fits = ([], refl)
mission_left_lem (hj_class a) fits = ([], refl)
mission_left_lem (hj_path p) fits = ([], refl)
mission_left_lem (hj_checksum octets) fits = ([], refl)
mission_left_lem (hj_read_echo_words octets n) fits = ([], refl)
mission_left_lem (hj_build_request identifier sequence echoed o) fits = ([], refl)
mission_left_lem (hj_build_reply identifier sequence hops format stamp mtu rate echoed o) fits = ([], refl)
mission_left_lem hj_board_words fits = ([], refl)
mission_left_lem hj_mission_words fits = ([], refl)
mission_left_lem (hj_fresh_board b) fits = ([], refl)
mission_left_lem (hj_fresh_mission m number) fits = left_by m (λ (x : State). settled_fresh x number) (λ x h. fresh_kept x h number)
mission_left_lem (hj_set_router b router) fits = ([], refl)
mission_left_lem (hj_set_port b p address mask mtu mission) fits = ([], refl)
mission_left_lem (hj_set_lifetime b lifetime) fits = ([], refl)
mission_left_lem (hj_set_echo_drop b drop) fits = ([], refl)
mission_left_lem (hj_set_route b rs i prefix mask p availability capabilities mission) fits = ([], refl)
mission_left_lem (hj_clear_route rs i) fits = ([], refl)
mission_left_lem (hj_set_group b m i address send subscribed) fits =
    seated_left_by b m (λ (x : Relay). settled_group x i (record { 0 = address }) send subscribed)
    (λ x h. set_group_kept x h i (record { 0 = address }) send subscribed)
mission_left_lem (hj_set_path b m i to send here) fits =
    seated_left_by b m (λ (x : Relay). settled_path x i (record { 0 = to }) send here) (λ x h. set_path_kept x h i (record { 0 = to }) send here)
mission_left_lem (hj_clear_group m i) fits = left_by m (on_mission (λ (x : Mission). cleared_group x i)) (mission_kept (λ x h. clear_group_kept x h i))
mission_left_lem (hj_clear_path m i) fits = left_by m (on_mission (λ (x : Mission). cleared_path x i)) (mission_kept (λ x h. clear_path_kept x h i))
mission_left_lem (hj_get_router b) fits = ([], refl)
mission_left_lem (hj_get_lifetime b) fits = ([], refl)
mission_left_lem (hj_get_echo_drop b) fits = ([], refl)
mission_left_lem (hj_port_word b p word) fits = ([], refl)
mission_left_lem (hj_route_word rs i word) fits = ([], refl)
mission_left_lem (hj_group_word m i word) fits = (m, refl)
mission_left_lem (hj_path_word m i word) fits = (m, refl)
mission_left_lem (hj_last_second m) fits = (m, refl)
mission_left_lem (hj_pair_word m i word) fits = (m, refl)
mission_left_lem (hj_search b m rs a) fits = (m, refl)
mission_left_lem (hj_receive_at b m rs p slot second octets o) fits = received_left b m rs p slot second octets (length o) fits
mission_left_lem (hj_receive_many b m rs lengths ports slots seconds octets n o) fits =
    let x : Lists = record { lengths = lengths; ports = ports; slots = slots; seconds = seconds; octets = octets } in
    many_left b m rs x fits (many_heard rs x n o)
mission_left_lem (hj_echo b m rs p slot octets o) fits = replied_left b m rs p slot octets (length o) fits
mission_left_lem (hj_take b m p) fits = seated_left_by b m (λ (x : Relay). taken_relay x p) (λ x h. taken_kept x h p)
mission_left_lem (hj_counter m i) fits = (m, refl)
mission_left_lem (hj_waiting m p) fits = (m, refl)
mission_left_lem (hj_sweep b m second) fits =
    both_left_by b m (λ (x : Board) (s : State). on_memory (swept_memory x.lifetime second) s)
    (λ x s h. memory_kept (swept_memory x.lifetime second) (swept_kept x.lifetime second) s h)

-- Wherever what is lent lies, each call has a result that its contract allows.
pub answer_there : (y : Lying) (c : Exported) → Passable c → (x : Result) × Contract y c x
answer_there y c fits =
    let p = promised c in
    let b = board_left_lem c fits in
    let m = mission_left_lem c fits in
    let x : Result =
    record {
      answer = p.answer;
      left = record { board = b.0; mission = m.0; routes = p.routes; output = p.output; numbers = p.numbers };
    } in
    (x, row_contract y x c (record { answer = refl; board = b.1; mission = m.1; routes = refl; output = refl; numbers = refl }))

anywhere : Lying
anywhere =
    let spot : Spot = record { ptr = (0, 0); name = 0 } in
    record {
      lifetimes = ([], ([], ([], ([], ([], ([], ([], ([], ([], ([], tt))))))))));
      board = spot;
      mission = spot;
      routes = spot;
      octets = spot;
      output = spot;
      numbers = spot;
      lengths = spot;
      ports = spot;
      slots = spot;
      seconds = spot;
    }

-- Each call has a result that its contract allows; by `one_result_by_contract` it has one alone.
pub each_call_answers : (c : Exported) → Passable c → (x : Result) × Says c x
each_call_answers c fits = let a = answer_there anywhere c fits in (a.0, (anywhere, a.1))
