-- The function that each call from C calls: its parameters, its result, what its contract tells a caller, its name and its code; and what it is that
-- nobody has to check anything before. Assumes nothing.
use Rattle.std.specs.Prelude.{ℕ, ◌≡◌, List}
use prog.Routine.{Env, Callee}
use prog.Wired.{Code, Wired}
use contract.Running.{tables}
use borrow.Fn.Kind.{ParamKind, ResultKind}
use borrow.Fn.Kinds.{Out}
use borrow.Fn.Plain.{Known}
use borrow.Fn.Run.{Over}
use borrow.Fn.World.{World}
use denote.Triple.Clauses.{Ended, closing}
use denote.Triple.Spec.{triple_of}
use denote.Triple.Statement.{Triple}
use Rattle.harpjuniper.proofs.hj_read_words as read-words
use Rattle.harpjuniper.proofs.hj_build_words as build-words
use Rattle.harpjuniper_address.proofs.hj_class as class
use Rattle.harpjuniper_address.proofs.hj_path as form
use Rattle.harpjuniper_address.proofs.hj_checksum as checksum
use Rattle.harpjuniper_messages.proofs.hj_read_echo_words as read-echo-words
use Rattle.harpjuniper_messages.proofs.hj_build_request as build-request
use Rattle.harpjuniper_messages.proofs.hj_build_reply as build-reply
use Rattle.harpjuniper_settings.proofs.hj_board_words as board-words
use Rattle.harpjuniper_settings.proofs.hj_mission_words as mission-words
use Rattle.harpjuniper_settings.proofs.hj_fresh_board as fresh-board
use Rattle.harpjuniper_settings.proofs.hj_fresh_mission as fresh-mission
use Rattle.harpjuniper_settings.proofs.hj_set_router as set-router
use Rattle.harpjuniper_settings.proofs.hj_set_port as set-port
use Rattle.harpjuniper_settings.proofs.hj_set_lifetime as set-lifetime
use Rattle.harpjuniper_settings.proofs.hj_set_echo_drop as set-echo-drop
use Rattle.harpjuniper_settings.proofs.groups_and_paths.hj_set_group as set-group
use Rattle.harpjuniper_settings.proofs.groups_and_paths.hj_set_path as set-path
use Rattle.harpjuniper_settings.proofs.groups_and_paths.hj_clear_group as clear-group
use Rattle.harpjuniper_settings.proofs.groups_and_paths.hj_clear_path as clear-path
use Rattle.harpjuniper_reads.proofs.hj_get_router as get-router
use Rattle.harpjuniper_reads.proofs.hj_get_lifetime as get-lifetime
use Rattle.harpjuniper_reads.proofs.hj_get_echo_drop as get-echo-drop
use Rattle.harpjuniper_reads.proofs.hj_port_word as port-word
use Rattle.harpjuniper_reads.proofs.hj_group_word as group-word
use Rattle.harpjuniper_reads.proofs.hj_path_word as path-word
use Rattle.harpjuniper_reads.proofs.hj_last_second as last-second
use Rattle.harpjuniper_reads.proofs.hj_pair_word as pair-word
use Rattle.harpjuniper_relay.proofs.hj_take as take
use Rattle.harpjuniper_relay.proofs.hj_counter as counter
use Rattle.harpjuniper_relay.proofs.hj_waiting as waiting
use Rattle.harpjuniper_relay.proofs.hj_sweep as sweep
use Rattle.harpjuniper_routes.proofs.hj_set_route as set-route
use Rattle.harpjuniper_routes.proofs.hj_clear_route as clear-route
use Rattle.harpjuniper_routes.proofs.hj_route_word as route-word
use Rattle.harpjuniper_routes.proofs.hj_search as search-route
use Rattle.harpjuniper_receive.proofs.hj_receive_at as receive-at
use Rattle.harpjuniper_batch.proofs.hj_receive_many as many
use Rattle.harpjuniper_echo.proofs.hj_echo as echo
use Rattle.harpjuniper_routes.specs.contracts.hj_set_route as set-route-said
use Rattle.harpjuniper_routes.specs.contracts.hj_clear_route as clear-route-said
use Rattle.harpjuniper_routes.specs.contracts.hj_route_word as route-word-said
use Rattle.harpjuniper_routes.specs.contracts.hj_search as search-route-said
use Rattle.harpjuniper_receive.specs.contracts.hj_receive_at as receive-at-said
use Rattle.harpjuniper_batch.specs.contracts.hj_receive_many as many-said
use Rattle.harpjuniper_echo.specs.contracts.hj_echo as echo-said
use Rattle.contracts.specs.Promised.{
  Exported,
  hj_read_words,
  hj_build_words,
  hj_class,
  hj_path,
  hj_checksum,
  hj_read_echo_words,
  hj_build_request,
  hj_build_reply,
  hj_board_words,
  hj_mission_words,
  hj_fresh_board,
  hj_fresh_mission,
  hj_set_router,
  hj_set_port,
  hj_set_lifetime,
  hj_set_echo_drop,
  hj_set_route,
  hj_clear_route,
  hj_set_group,
  hj_set_path,
  hj_clear_group,
  hj_clear_path,
  hj_get_router,
  hj_get_lifetime,
  hj_get_echo_drop,
  hj_port_word,
  hj_route_word,
  hj_group_word,
  hj_path_word,
  hj_last_second,
  hj_pair_word,
  hj_search,
  hj_receive_at,
  hj_receive_many,
  hj_echo,
  hj_take,
  hj_counter,
  hj_waiting,
  hj_sweep,
}
use Rattle.contracts.specs.Named.{Plainly, plainly, searches, sets_route, clears_route, reads_word, receives, receives_many, echoes}

-- Of most functions what the contract tells a caller is `Learnt`. Of the seven that are lent a list the contract itself is known: it requires nothing and
-- ensures what specs/Named.antt says.
pub data Function : Type 3 where
  covered : (lifetimes : ℕ) (params : List (ParamKind lifetimes)) (result : ResultKind lifetimes) → Out lifetimes params result → Callee → Code → Function
  named : (ended : Ended) → Plainly ended → Callee → Code → Function

-- what is told is what `Contract` names, and the code is that which the crate's check proves
abbrev pub function_of : Exported → Function
function_of (hj_read_words octets n) = covered 2 read-words.Kinds.ps read-words.Kinds.r read-words.Reads.Learnt read-words.Symbol.name read-words.Symbol.code
function_of (hj_build_words n size o) = covered 2 build-words.Kinds.ps build-words.Kinds.r build-words.Reads.Learnt build-words.Symbol.name build-words.Symbol.code
function_of (hj_class a) = covered 0 class.Kinds.ps class.Kinds.r class.Reads.Learnt class.Symbol.name class.Symbol.code
function_of (hj_path p) = covered 0 form.Kinds.ps form.Kinds.r form.Reads.Learnt form.Symbol.name form.Symbol.code
function_of (hj_checksum octets) = covered 1 checksum.Kinds.ps checksum.Kinds.r checksum.Reads.Learnt checksum.Symbol.name checksum.Symbol.code
function_of (hj_read_echo_words octets n) =
    covered 2 read-echo-words.Kinds.ps read-echo-words.Kinds.r read-echo-words.Reads.Learnt read-echo-words.Symbol.name read-echo-words.Symbol.code
function_of (hj_build_request identifier sequence echoed o) =
    covered 2 build-request.Kinds.ps build-request.Kinds.r build-request.Reads.Learnt build-request.Symbol.name build-request.Symbol.code
function_of (hj_build_reply identifier sequence hops format stamp mtu rate echoed o) =
    covered 2 build-reply.Kinds.ps build-reply.Kinds.r build-reply.Reads.Learnt build-reply.Symbol.name build-reply.Symbol.code
function_of hj_board_words = covered 0 board-words.Kinds.ps board-words.Kinds.r board-words.Reads.Learnt board-words.Symbol.name board-words.Symbol.code
function_of hj_mission_words = covered 0 mission-words.Kinds.ps mission-words.Kinds.r mission-words.Reads.Learnt mission-words.Symbol.name mission-words.Symbol.code
function_of (hj_fresh_board b) = covered 1 fresh-board.Kinds.ps fresh-board.Kinds.r fresh-board.Reads.Learnt fresh-board.Symbol.name fresh-board.Symbol.code
function_of (hj_fresh_mission m number) = covered 1 fresh-mission.Kinds.ps fresh-mission.Kinds.r fresh-mission.Reads.Learnt fresh-mission.Symbol.name fresh-mission.Symbol.code
function_of (hj_set_router b router) = covered 1 set-router.Kinds.ps set-router.Kinds.r set-router.Reads.Learnt set-router.Symbol.name set-router.Symbol.code
function_of (hj_set_port b p address mask mtu mission) = covered 1 set-port.Kinds.ps set-port.Kinds.r set-port.Reads.Learnt set-port.Symbol.name set-port.Symbol.code
function_of (hj_set_lifetime b lifetime) = covered 1 set-lifetime.Kinds.ps set-lifetime.Kinds.r set-lifetime.Reads.Learnt set-lifetime.Symbol.name set-lifetime.Symbol.code
function_of (hj_set_echo_drop b drop) = covered 1 set-echo-drop.Kinds.ps set-echo-drop.Kinds.r set-echo-drop.Reads.Learnt set-echo-drop.Symbol.name set-echo-drop.Symbol.code
function_of (hj_set_route b rs i prefix mask p availability capabilities mission) = named set-route-said.ended sets_route set-route.Symbol.name set-route.Symbol.code
function_of (hj_clear_route rs i) = named clear-route-said.ended clears_route clear-route.Symbol.name clear-route.Symbol.code
function_of (hj_set_group b m i address send subscribed) = covered 2 set-group.Kinds.ps set-group.Kinds.r set-group.Reads.Learnt set-group.Symbol.name set-group.Symbol.code
function_of (hj_set_path b m i to send here) = covered 2 set-path.Kinds.ps set-path.Kinds.r set-path.Reads.Learnt set-path.Symbol.name set-path.Symbol.code
function_of (hj_clear_group m i) = covered 1 clear-group.Kinds.ps clear-group.Kinds.r clear-group.Reads.Learnt clear-group.Symbol.name clear-group.Symbol.code
function_of (hj_clear_path m i) = covered 1 clear-path.Kinds.ps clear-path.Kinds.r clear-path.Reads.Learnt clear-path.Symbol.name clear-path.Symbol.code
function_of (hj_get_router b) = covered 1 get-router.Kinds.ps get-router.Kinds.r get-router.Reads.Learnt get-router.Symbol.name get-router.Symbol.code
function_of (hj_get_lifetime b) = covered 1 get-lifetime.Kinds.ps get-lifetime.Kinds.r get-lifetime.Reads.Learnt get-lifetime.Symbol.name get-lifetime.Symbol.code
function_of (hj_get_echo_drop b) = covered 1 get-echo-drop.Kinds.ps get-echo-drop.Kinds.r get-echo-drop.Reads.Learnt get-echo-drop.Symbol.name get-echo-drop.Symbol.code
function_of (hj_port_word b p word) = covered 1 port-word.Kinds.ps port-word.Kinds.r port-word.Reads.Learnt port-word.Symbol.name port-word.Symbol.code
function_of (hj_route_word rs i word) = named route-word-said.ended reads_word route-word.Symbol.name route-word.Symbol.code
function_of (hj_group_word m i word) = covered 1 group-word.Kinds.ps group-word.Kinds.r group-word.Reads.Learnt group-word.Symbol.name group-word.Symbol.code
function_of (hj_path_word m i word) = covered 1 path-word.Kinds.ps path-word.Kinds.r path-word.Reads.Learnt path-word.Symbol.name path-word.Symbol.code
function_of (hj_last_second m) = covered 1 last-second.Kinds.ps last-second.Kinds.r last-second.Reads.Learnt last-second.Symbol.name last-second.Symbol.code
function_of (hj_pair_word m i word) = covered 1 pair-word.Kinds.ps pair-word.Kinds.r pair-word.Reads.Learnt pair-word.Symbol.name pair-word.Symbol.code
function_of (hj_search b m rs a) = named search-route-said.ended searches search-route.Symbol.name search-route.Symbol.code
function_of (hj_receive_at b m rs p slot second octets o) = named receive-at-said.ended receives receive-at.Symbol.name receive-at.Symbol.code
function_of (hj_receive_many b m rs lengths ports slots seconds octets n o) = named many-said.ended receives_many many.Symbol.name many.Symbol.code
function_of (hj_echo b m rs p slot octets o) = named echo-said.ended echoes echo.Symbol.name echo.Symbol.code
function_of (hj_take b m p) = covered 2 take.Kinds.ps take.Kinds.r take.Reads.Learnt take.Symbol.name take.Symbol.code
function_of (hj_counter m i) = covered 1 counter.Kinds.ps counter.Kinds.r counter.Reads.Learnt counter.Symbol.name counter.Symbol.code
function_of (hj_waiting m p) = covered 1 waiting.Kinds.ps waiting.Kinds.r waiting.Reads.Learnt waiting.Symbol.name waiting.Symbol.code
function_of (hj_sweep b m second) = covered 2 sweep.Kinds.ps sweep.Kinds.r sweep.Reads.Learnt sweep.Symbol.name sweep.Symbol.code

-- Wherever the code is called, by whatever name and with whatever arguments, the caller learns what the contract says, and has shown nothing before beside
-- what the arguments' types own: what is asked of the arguments is `Unit`, and what a named contract requires is `emp`. `Wired` says that the
-- function's name means this code, and each name in it the code that it was proved with.
abbrev pub Unchecked : Function → Type 2
Unchecked (covered n ps r learnt name code) =
    (w : World) → Wired w.𝓡.env code → (γ : Env) (k : Callee) → γ k ≡ w.𝓡.env name
    → Known w.𝓛 (Over w.𝓛 w.𝓜 w.𝓡 γ)
    n ps r (λ κs a. Unit {0}) learnt k
Unchecked (named T promise name code) =
    (w : World) → Wired w.𝓡.env code → (γ : Env) (k : Callee) → γ k ≡ w.𝓡.env name
    → Triple w.𝓤 ((tables w.𝓤 w.𝓛.H w.𝓜 w.𝓡 γ).C k)
    (triple_of w.𝓛 T.signature (closing w.𝓛 T (plainly w.𝓤 T promise)))
