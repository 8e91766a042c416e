-- The contract of each call from C, as it stands in the source, says what its row of the table says, and no more: so what is proved of the rows holds
-- of whatever the functions give back. Assumes nothing.
use Prim.Native.Nat.{ℕ}
use mathlib.Core.Path.{◌≡◌, ap}
use mathlib.Core.Logic.{◌↔◌}
use mathlib.Core.List.{List}
use Rattle.routes.specs.declared.Record.{Record}
use Rattle.state.specs.Seen.{Board, State}
use Rattle.lent_state.specs.View.{Lent, lent_board, lent}
use Rattle.lent_state.proofs.Same.{board_injective, lent_injective}
use Rattle.contracts.specs.Promised.{
  Things,
  Result,
  Allows,
  looking,
  board_left,
  mission_left,
  routes_left,
  output_left,
  numbers_left,
  lent_to,
  Exported,
  hj_read_words,
  hj_build_words,
  hj_class,
  hj_path,
  hj_checksum,
  hj_read_echo_words,
  hj_build_request,
  hj_build_reply,
  hj_board_words,
  hj_mission_words,
  hj_fresh_board,
  hj_fresh_mission,
  hj_set_router,
  hj_set_port,
  hj_set_lifetime,
  hj_set_echo_drop,
  hj_set_route,
  hj_clear_route,
  hj_set_group,
  hj_set_path,
  hj_clear_group,
  hj_clear_path,
  hj_get_router,
  hj_get_lifetime,
  hj_get_echo_drop,
  hj_port_word,
  hj_route_word,
  hj_group_word,
  hj_path_word,
  hj_last_second,
  hj_pair_word,
  hj_search,
  hj_receive_at,
  hj_receive_many,
  hj_echo,
  hj_take,
  hj_counter,
  hj_waiting,
  hj_sweep,
  promised,
}
use Rattle.contracts.specs.Stated.{BoardAlone, MissionAlone, RoutesAlone, OutputAlone, NumbersAlone, HearsAlone, ManyAlone, Lying, Contract, Says}
use Rattle.contracts.proofs.OneResult.{same_things, one_result_each}

-- ---- each form of contract, and its form of row: t is what is lent
module _ (x : Result) (t : Things) (answer : ℕ) where
  -- words with one view are the same
  board_as : lent_board x.left.board ≡ lent_board t.board → x.left.board ≡ t.board
  board_as e = board_injective x.left.board t.board e

  mission_as : lent x.left.mission ≡ lent t.mission → x.left.mission ≡ t.mission
  mission_as e = lent_injective x.left.mission t.mission e

  looks : ((x.left ≡ t) × (x.answer ≡ answer)) ↔ Allows (looking t answer) x
  looks = (
    λ h.
        record {
          answer = h.1;
          board = ap (λ (u : Things). lent_board u.board) h.0;
          mission = ap (λ (u : Things). lent u.mission) h.0;
          routes = ap (λ (u : Things). u.routes) h.0;
          output = ap (λ (u : Things). u.output) h.0;
          numbers = ap (λ (u : Things). u.numbers) h.0;
        },
    λ h. (same_things (board_as h.board) (mission_as h.mission) h.routes h.output h.numbers, h.answer),
  )

  on_board_lem : (left : Lent Board)
      → (BoardAlone t x.left × ((x.answer ≡ answer) × (lent_board x.left.board ≡ left))) ↔ Allows (board_left (looking t answer) left) x
  on_board_lem left = (
    λ h.
        record {
          answer = h.1.0;
          board = h.1.1;
          mission = ap lent h.0.0;
          routes = h.0.1.0;
          output = h.0.1.1.0;
          numbers = h.0.1.1.1;
        },
    λ h. ((mission_as h.mission, (h.routes, (h.output, h.numbers))), (h.answer, h.board)),
  )

  on_mission_lem : (left : Lent State)
      → (MissionAlone t x.left × ((x.answer ≡ answer) × (lent x.left.mission ≡ left))) ↔ Allows (mission_left (looking t answer) left) x
  on_mission_lem left = (
    λ h.
        record {
          answer = h.1.0;
          board = ap lent_board h.0.0;
          mission = h.1.1;
          routes = h.0.1.0;
          output = h.0.1.1.0;
          numbers = h.0.1.1.1;
        },
    λ h. ((board_as h.board, (h.routes, (h.output, h.numbers))), (h.answer, h.mission)),
  )

  on_routes : (left : List Record)
      → (RoutesAlone t x.left × ((x.answer ≡ answer) × (x.left.routes ≡ left))) ↔ Allows (routes_left (looking t answer) left) x
  on_routes left = (
    λ h.
        record {
          answer = h.1.0;
          board = ap lent_board h.0.0;
          mission = ap lent h.0.1.0;
          routes = h.1.1;
          output = h.0.1.1.0;
          numbers = h.0.1.1.1;
        },
    λ h. ((board_as h.board, (mission_as h.mission, (h.output, h.numbers))), (h.answer, h.routes)),
  )

  on_output : (left : List ℕ)
      → (OutputAlone t x.left × ((x.answer ≡ answer) × (x.left.output ≡ left))) ↔ Allows (output_left (looking t answer) left) x
  on_output left = (
    λ h.
        record {
          answer = h.1.0;
          board = ap lent_board h.0.0;
          mission = ap lent h.0.1.0;
          routes = h.0.1.1.0;
          output = h.1.1;
          numbers = h.0.1.1.1;
        },
    λ h. ((board_as h.board, (mission_as h.mission, (h.routes, h.numbers))), (h.answer, h.output)),
  )

  on_numbers : (left : List ℕ)
      → (NumbersAlone t x.left × ((x.answer ≡ answer) × (x.left.numbers ≡ left))) ↔ Allows (numbers_left (looking t answer) left) x
  on_numbers left = (
    λ h.
        record {
          answer = h.1.0;
          board = ap lent_board h.0.0;
          mission = ap lent h.0.1.0;
          routes = h.0.1.1.0;
          output = h.0.1.1.1;
          numbers = h.1.1;
        },
    λ h. ((board_as h.board, (mission_as h.mission, (h.routes, h.output))), (h.answer, h.numbers)),
  )

  hears : (left : Lent State) (output : List ℕ)
      → (HearsAlone t x.left × ((x.answer ≡ answer) × ((lent x.left.mission ≡ left) × (x.left.output ≡ output))))
      ↔ Allows (output_left (mission_left (looking t answer) left) output) x
  hears left output = (
    λ h.
        record {
          answer = h.1.0;
          board = ap lent_board h.0.0;
          mission = h.1.1.0;
          routes = h.0.1.0;
          output = h.1.1.1;
          numbers = h.0.1.1;
        },
    λ h. ((board_as h.board, (h.routes, h.numbers)), (h.answer, (h.mission, h.output))),
  )

  hears_many : (left : Lent State) (output numbers : List ℕ)
      → (ManyAlone t x.left
      × ((x.answer ≡ answer) × ((lent x.left.mission ≡ left) × ((x.left.numbers ≡ numbers) × (x.left.output ≡ output)))))
      ↔ Allows (numbers_left (output_left (mission_left (looking t answer) left) output) numbers) x
  hears_many left output numbers = (
    λ h.
        record {
          answer = h.1.0;
          board = ap lent_board h.0.0;
          mission = h.1.1.0;
          routes = h.0.1;
          output = h.1.1.1.1;
          numbers = h.1.1.1.0;
        },
    λ h. ((board_as h.board, h.routes), (h.answer, (h.mission, (h.numbers, h.output)))),
  )

-- ---- the table
module _ (y : Lying) (x : Result) where
  pub contract_is_row : (c : Exported) → Contract y c x ↔ Allows (promised c) x
  contract_is_row (hj_read_words octets n) = on_numbers x (lent_to (hj_read_words octets n)) _ _
  contract_is_row (hj_build_words n size o) = on_output x (lent_to (hj_build_words n size o)) _ _
  contract_is_row (hj_class a) = looks x (lent_to (hj_class a)) _
  contract_is_row (hj_path p) = looks x (lent_to (hj_path p)) _
  contract_is_row (hj_checksum octets) = looks x (lent_to (hj_checksum octets)) _
  contract_is_row (hj_read_echo_words octets n) = on_numbers x (lent_to (hj_read_echo_words octets n)) _ _
  contract_is_row (hj_build_request identifier sequence echoed o) = on_output x (lent_to (hj_build_request identifier sequence echoed o)) _ _
  contract_is_row (hj_build_reply identifier sequence hops format stamp mtu rate echoed o) =
      on_output x (lent_to (hj_build_reply identifier sequence hops format stamp mtu rate echoed o)) _ _
  contract_is_row hj_board_words = looks x (lent_to hj_board_words) _
  contract_is_row hj_mission_words = looks x (lent_to hj_mission_words) _
  contract_is_row (hj_fresh_board b) = on_board_lem x (lent_to (hj_fresh_board b)) _ _
  contract_is_row (hj_fresh_mission m number) = on_mission_lem x (lent_to (hj_fresh_mission m number)) _ _
  contract_is_row (hj_set_router b router) = on_board_lem x (lent_to (hj_set_router b router)) _ _
  contract_is_row (hj_set_port b p address mask mtu mission) = on_board_lem x (lent_to (hj_set_port b p address mask mtu mission)) _ _
  contract_is_row (hj_set_lifetime b lifetime) = on_board_lem x (lent_to (hj_set_lifetime b lifetime)) _ _
  contract_is_row (hj_set_echo_drop b drop) = on_board_lem x (lent_to (hj_set_echo_drop b drop)) _ _
  contract_is_row (hj_set_route b rs i prefix mask p availability capabilities mission) =
      on_routes x (lent_to (hj_set_route b rs i prefix mask p availability capabilities mission)) _ _
  contract_is_row (hj_clear_route rs i) = on_routes x (lent_to (hj_clear_route rs i)) _ _
  contract_is_row (hj_set_group b m i address send subscribed) = on_mission_lem x (lent_to (hj_set_group b m i address send subscribed)) _ _
  contract_is_row (hj_set_path b m i to send here) = on_mission_lem x (lent_to (hj_set_path b m i to send here)) _ _
  contract_is_row (hj_clear_group m i) = on_mission_lem x (lent_to (hj_clear_group m i)) _ _
  contract_is_row (hj_clear_path m i) = on_mission_lem x (lent_to (hj_clear_path m i)) _ _
  contract_is_row (hj_get_router b) = looks x (lent_to (hj_get_router b)) _
  contract_is_row (hj_get_lifetime b) = looks x (lent_to (hj_get_lifetime b)) _
  contract_is_row (hj_get_echo_drop b) = looks x (lent_to (hj_get_echo_drop b)) _
  contract_is_row (hj_port_word b p word) = looks x (lent_to (hj_port_word b p word)) _
  contract_is_row (hj_route_word rs i word) = looks x (lent_to (hj_route_word rs i word)) _
  contract_is_row (hj_group_word m i word) = looks x (lent_to (hj_group_word m i word)) _
  contract_is_row (hj_path_word m i word) = looks x (lent_to (hj_path_word m i word)) _
  contract_is_row (hj_last_second m) = looks x (lent_to (hj_last_second m)) _
  contract_is_row (hj_pair_word m i word) = looks x (lent_to (hj_pair_word m i word)) _
  contract_is_row (hj_search b m rs a) = looks x (lent_to (hj_search b m rs a)) _
  contract_is_row (hj_receive_at b m rs p slot second octets o) = hears x (lent_to (hj_receive_at b m rs p slot second octets o)) _ _ _
  contract_is_row (hj_receive_many b m rs lengths ports slots seconds octets n o) =
      hears_many x (lent_to (hj_receive_many b m rs lengths ports slots seconds octets n o)) _ _ _ _
  contract_is_row (hj_echo b m rs p slot octets o) = hears x (lent_to (hj_echo b m rs p slot octets o)) _ _ _
  contract_is_row (hj_take b m p) = on_mission_lem x (lent_to (hj_take b m p)) _ _
  contract_is_row (hj_counter m i) = looks x (lent_to (hj_counter m i)) _
  contract_is_row (hj_waiting m p) = looks x (lent_to (hj_waiting m p)) _
  contract_is_row (hj_sweep b m second) = on_mission_lem x (lent_to (hj_sweep b m second)) _ _

-- What a call's contract lets it give back is what its row promises,
pub says_row : (c : Exported) (x : Result) → Says c x → Allows (promised c) x
says_row c x h = (contract_is_row h.0 x c).0 h.1

-- and a result that the row promises is one that the contract lets the call give back, wherever what is lent lies.
pub row_contract : (y : Lying) (x : Result) (c : Exported) → Allows (promised c) x → Contract y c x
row_contract y x c h = (contract_is_row y x c).1 h

-- So the contract of each call leaves no choice: the answer, every word, every record and every octet of the output.
pub one_result_by_contract : (c : Exported) (x z : Result) → Says c x → Says c z → x ≡ z
one_result_by_contract c x z h k = one_result_each c x z (says_row c x h) (says_row c z k)
