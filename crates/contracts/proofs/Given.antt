-- Nobody has to check anything before a call from C: of each of the 39 functions the theorem of its code, `met`, which the check of its crate proves,
-- gives any caller what its contract says, and asks nothing. Assumes nothing.
use mathlib.Core.Path.{◌≡◌, refl}
use seplogic.Ra.Ura.{Ura}
use base.Logic.{SProp}
use prog.Memory.{Memory}
use prog.Routine.{Routine}
use types.Logic.{Logic}
use contract.Monad.{Fun}
use denote.Triple.Spec.{triple_of}
use denote.Triple.Table.{cited}
use Rattle.harpjuniper.proofs.hj_read_words as read-words
use Rattle.harpjuniper.proofs.hj_build_words as build-words
use Rattle.harpjuniper_address.proofs.hj_class as class
use Rattle.harpjuniper_address.proofs.hj_path as form
use Rattle.harpjuniper_address.proofs.hj_checksum as checksum
use Rattle.harpjuniper_messages.proofs.hj_read_echo_words as read-echo-words
use Rattle.harpjuniper_messages.proofs.hj_build_request as build-request
use Rattle.harpjuniper_messages.proofs.hj_build_reply as build-reply
use Rattle.harpjuniper_settings.proofs.hj_board_words as board-words
use Rattle.harpjuniper_settings.proofs.hj_mission_words as mission-words
use Rattle.harpjuniper_settings.proofs.hj_fresh_board as fresh-board
use Rattle.harpjuniper_settings.proofs.hj_fresh_mission as fresh-mission
use Rattle.harpjuniper_settings.proofs.hj_set_router as set-router
use Rattle.harpjuniper_settings.proofs.hj_set_port as set-port
use Rattle.harpjuniper_settings.proofs.hj_set_lifetime as set-lifetime
use Rattle.harpjuniper_settings.proofs.hj_set_echo_drop as set-echo-drop
use Rattle.harpjuniper_settings.proofs.groups_and_paths.hj_set_group as set-group
use Rattle.harpjuniper_settings.proofs.groups_and_paths.hj_set_path as set-path
use Rattle.harpjuniper_settings.proofs.groups_and_paths.hj_clear_group as clear-group
use Rattle.harpjuniper_settings.proofs.groups_and_paths.hj_clear_path as clear-path
use Rattle.harpjuniper_reads.proofs.hj_get_router as get-router
use Rattle.harpjuniper_reads.proofs.hj_get_lifetime as get-lifetime
use Rattle.harpjuniper_reads.proofs.hj_get_echo_drop as get-echo-drop
use Rattle.harpjuniper_reads.proofs.hj_port_word as port-word
use Rattle.harpjuniper_reads.proofs.hj_group_word as group-word
use Rattle.harpjuniper_reads.proofs.hj_path_word as path-word
use Rattle.harpjuniper_reads.proofs.hj_last_second as last-second
use Rattle.harpjuniper_reads.proofs.hj_pair_word as pair-word
use Rattle.harpjuniper_relay.proofs.hj_take as take
use Rattle.harpjuniper_relay.proofs.hj_counter as counter
use Rattle.harpjuniper_relay.proofs.hj_waiting as waiting
use Rattle.harpjuniper_relay.proofs.hj_sweep as sweep
use Rattle.harpjuniper_routes.proofs.hj_set_route as set-route
use Rattle.harpjuniper_routes.proofs.hj_clear_route as clear-route
use Rattle.harpjuniper_routes.proofs.hj_route_word as route-word
use Rattle.harpjuniper_routes.proofs.hj_search as search-route
use Rattle.harpjuniper_receive.proofs.hj_receive_at as receive-at
use Rattle.harpjuniper_batch.proofs.hj_receive_many as many
use Rattle.harpjuniper_echo.proofs.hj_echo as echo
use Rattle.harpjuniper_routes.specs.contracts.hj_set_route as set-route-said
use Rattle.harpjuniper_routes.specs.contracts.hj_clear_route as clear-route-said
use Rattle.harpjuniper_routes.specs.contracts.hj_route_word as route-word-said
use Rattle.harpjuniper_routes.specs.contracts.hj_search as search-route-said
use Rattle.harpjuniper_receive.specs.contracts.hj_receive_at as receive-at-said
use Rattle.harpjuniper_batch.specs.contracts.hj_receive_many as many-said
use Rattle.harpjuniper_echo.specs.contracts.hj_echo as echo-said
use Rattle.contracts.specs.Promised.{
  Exported,
  hj_read_words,
  hj_build_words,
  hj_class,
  hj_path,
  hj_checksum,
  hj_read_echo_words,
  hj_build_request,
  hj_build_reply,
  hj_board_words,
  hj_mission_words,
  hj_fresh_board,
  hj_fresh_mission,
  hj_set_router,
  hj_set_port,
  hj_set_lifetime,
  hj_set_echo_drop,
  hj_set_route,
  hj_clear_route,
  hj_set_group,
  hj_set_path,
  hj_clear_group,
  hj_clear_path,
  hj_get_router,
  hj_get_lifetime,
  hj_get_echo_drop,
  hj_port_word,
  hj_route_word,
  hj_group_word,
  hj_path_word,
  hj_last_second,
  hj_pair_word,
  hj_search,
  hj_receive_at,
  hj_receive_many,
  hj_echo,
  hj_take,
  hj_counter,
  hj_waiting,
  hj_sweep,
}
use Rattle.contracts.specs.Named.{plainly, searches, sets_route, clears_route, reads_word, receives, receives_many, echoes}
use Rattle.contracts.specs.Functions.{function_of, Unchecked}

-- ---- the functions that are lent a list: their clauses, in whatever world, are what specs/Named.antt says
module _ {M : Type 1} {𝓤 : Ura M} (𝓛 : Logic 𝓤) (mem : Memory → SProp 𝓤) (run : Routine → Fun 𝓤) where
  pub set_route_says : set-route-said.clauses 𝓛 mem run ≡ plainly 𝓤 set-route-said.ended sets_route
  set_route_says = refl

  pub clear_route_says : clear-route-said.clauses 𝓛 mem run ≡ plainly 𝓤 clear-route-said.ended clears_route
  clear_route_says = refl

  pub route_word_says : route-word-said.clauses 𝓛 mem run ≡ plainly 𝓤 route-word-said.ended reads_word
  route_word_says = refl

  pub search_route_says : search-route-said.clauses 𝓛 mem run ≡ plainly 𝓤 search-route-said.ended searches
  search_route_says = refl

  pub receive_at_says : receive-at-said.clauses 𝓛 mem run ≡ plainly 𝓤 receive-at-said.ended receives
  receive_at_says = refl

  pub many_says : many-said.clauses 𝓛 mem run ≡ plainly 𝓤 many-said.ended receives_many
  many_says = refl

  pub echo_says : echo-said.clauses 𝓛 mem run ≡ plainly 𝓤 echo-said.ended echoes
  echo_says = refl

-- ---- the table
pub nobody_checks_first : (c : Exported) → Unchecked (function_of c)
nobody_checks_first (hj_read_words octets n) = λ w wired γ k same.
    read-words.Reads.known w γ k _ same (read-words.Met.met w.𝓤 w.𝓛 w.𝓜 w.𝓡 wired)
nobody_checks_first (hj_build_words n size o) = λ w wired γ k same.
    build-words.Reads.known w γ k _ same (build-words.Met.met w.𝓤 w.𝓛 w.𝓜 w.𝓡 wired)
nobody_checks_first (hj_class a) = λ w wired γ k same. class.Reads.known w γ k _ same (class.Met.met w.𝓤 w.𝓛 w.𝓜 w.𝓡 wired)
nobody_checks_first (hj_path p) = λ w wired γ k same. form.Reads.known w γ k _ same (form.Met.met w.𝓤 w.𝓛 w.𝓜 w.𝓡 wired)
nobody_checks_first (hj_checksum octets) = λ w wired γ k same. checksum.Reads.known w γ k _ same (checksum.Met.met w.𝓤 w.𝓛 w.𝓜 w.𝓡 wired)
nobody_checks_first (hj_read_echo_words octets n) = λ w wired γ k same.
    read-echo-words.Reads.known w γ k _ same (read-echo-words.Met.met w.𝓤 w.𝓛 w.𝓜 w.𝓡 wired)
nobody_checks_first (hj_build_request identifier sequence echoed o) = λ w wired γ k same.
    build-request.Reads.known w γ k _ same (build-request.Met.met w.𝓤 w.𝓛 w.𝓜 w.𝓡 wired)
nobody_checks_first (hj_build_reply identifier sequence hops format stamp mtu rate echoed o) = λ w wired γ k same.
    build-reply.Reads.known w γ k _ same (build-reply.Met.met w.𝓤 w.𝓛 w.𝓜 w.𝓡 wired)
nobody_checks_first hj_board_words = λ w wired γ k same. board-words.Reads.known w γ k _ same (board-words.Met.met w.𝓤 w.𝓛 w.𝓜 w.𝓡 wired)
nobody_checks_first hj_mission_words = λ w wired γ k same. mission-words.Reads.known w γ k _ same (mission-words.Met.met w.𝓤 w.𝓛 w.𝓜 w.𝓡 wired)
nobody_checks_first (hj_fresh_board b) = λ w wired γ k same. fresh-board.Reads.known w γ k _ same (fresh-board.Met.met w.𝓤 w.𝓛 w.𝓜 w.𝓡 wired)
nobody_checks_first (hj_fresh_mission m number) = λ w wired γ k same.
    fresh-mission.Reads.known w γ k _ same (fresh-mission.Met.met w.𝓤 w.𝓛 w.𝓜 w.𝓡 wired)
nobody_checks_first (hj_set_router b router) = λ w wired γ k same.
    set-router.Reads.known w γ k _ same (set-router.Met.met w.𝓤 w.𝓛 w.𝓜 w.𝓡 wired)
nobody_checks_first (hj_set_port b p address mask mtu mission) = λ w wired γ k same.
    set-port.Reads.known w γ k _ same (set-port.Met.met w.𝓤 w.𝓛 w.𝓜 w.𝓡 wired)
nobody_checks_first (hj_set_lifetime b lifetime) = λ w wired γ k same.
    set-lifetime.Reads.known w γ k _ same (set-lifetime.Met.met w.𝓤 w.𝓛 w.𝓜 w.𝓡 wired)
nobody_checks_first (hj_set_echo_drop b drop) = λ w wired γ k same.
    set-echo-drop.Reads.known w γ k _ same (set-echo-drop.Met.met w.𝓤 w.𝓛 w.𝓜 w.𝓡 wired)
nobody_checks_first (hj_set_route b rs i prefix mask p availability capabilities mission) = λ w wired γ k same.
    cited w.𝓤 w.𝓛.H (triple_of w.𝓛 set-route-said.signature (set-route-said.spec w.𝓛 w.𝓜.mem w.𝓡.returns))
    w.𝓜 w.𝓡 γ k (w.𝓡.env set-route.Symbol.name) same (set-route.Met.met w.𝓤 w.𝓛 w.𝓜 w.𝓡 wired)
nobody_checks_first (hj_clear_route rs i) = λ w wired γ k same.
    cited w.𝓤 w.𝓛.H (triple_of w.𝓛 clear-route-said.signature (clear-route-said.spec w.𝓛 w.𝓜.mem w.𝓡.returns))
    w.𝓜 w.𝓡 γ k (w.𝓡.env clear-route.Symbol.name) same (clear-route.Met.met w.𝓤 w.𝓛 w.𝓜 w.𝓡 wired)
nobody_checks_first (hj_set_group b m i address send subscribed) = λ w wired γ k same.
    set-group.Reads.known w γ k _ same (set-group.Met.met w.𝓤 w.𝓛 w.𝓜 w.𝓡 wired)
nobody_checks_first (hj_set_path b m i to send here) = λ w wired γ k same.
    set-path.Reads.known w γ k _ same (set-path.Met.met w.𝓤 w.𝓛 w.𝓜 w.𝓡 wired)
nobody_checks_first (hj_clear_group m i) = λ w wired γ k same. clear-group.Reads.known w γ k _ same (clear-group.Met.met w.𝓤 w.𝓛 w.𝓜 w.𝓡 wired)
nobody_checks_first (hj_clear_path m i) = λ w wired γ k same. clear-path.Reads.known w γ k _ same (clear-path.Met.met w.𝓤 w.𝓛 w.𝓜 w.𝓡 wired)
nobody_checks_first (hj_get_router b) = λ w wired γ k same. get-router.Reads.known w γ k _ same (get-router.Met.met w.𝓤 w.𝓛 w.𝓜 w.𝓡 wired)
nobody_checks_first (hj_get_lifetime b) = λ w wired γ k same. get-lifetime.Reads.known w γ k _ same (get-lifetime.Met.met w.𝓤 w.𝓛 w.𝓜 w.𝓡 wired)
nobody_checks_first (hj_get_echo_drop b) = λ w wired γ k same.
    get-echo-drop.Reads.known w γ k _ same (get-echo-drop.Met.met w.𝓤 w.𝓛 w.𝓜 w.𝓡 wired)
nobody_checks_first (hj_port_word b p word) = λ w wired γ k same. port-word.Reads.known w γ k _ same (port-word.Met.met w.𝓤 w.𝓛 w.𝓜 w.𝓡 wired)
nobody_checks_first (hj_route_word rs i word) = λ w wired γ k same.
    cited w.𝓤 w.𝓛.H (triple_of w.𝓛 route-word-said.signature (route-word-said.spec w.𝓛 w.𝓜.mem w.𝓡.returns))
    w.𝓜 w.𝓡 γ k (w.𝓡.env route-word.Symbol.name) same (route-word.Met.met w.𝓤 w.𝓛 w.𝓜 w.𝓡 wired)
nobody_checks_first (hj_group_word m i word) = λ w wired γ k same.
    group-word.Reads.known w γ k _ same (group-word.Met.met w.𝓤 w.𝓛 w.𝓜 w.𝓡 wired)
nobody_checks_first (hj_path_word m i word) = λ w wired γ k same. path-word.Reads.known w γ k _ same (path-word.Met.met w.𝓤 w.𝓛 w.𝓜 w.𝓡 wired)
nobody_checks_first (hj_last_second m) = λ w wired γ k same. last-second.Reads.known w γ k _ same (last-second.Met.met w.𝓤 w.𝓛 w.𝓜 w.𝓡 wired)
nobody_checks_first (hj_pair_word m i word) = λ w wired γ k same. pair-word.Reads.known w γ k _ same (pair-word.Met.met w.𝓤 w.𝓛 w.𝓜 w.𝓡 wired)
nobody_checks_first (hj_search b m rs a) = λ w wired γ k same.
    cited w.𝓤 w.𝓛.H (triple_of w.𝓛 search-route-said.signature (search-route-said.spec w.𝓛 w.𝓜.mem w.𝓡.returns))
    w.𝓜 w.𝓡 γ k (w.𝓡.env search-route.Symbol.name) same (search-route.Met.met w.𝓤 w.𝓛 w.𝓜 w.𝓡 wired)
nobody_checks_first (hj_receive_at b m rs p slot second octets o) = λ w wired γ k same.
    cited w.𝓤 w.𝓛.H (triple_of w.𝓛 receive-at-said.signature (receive-at-said.spec w.𝓛 w.𝓜.mem w.𝓡.returns))
    w.𝓜 w.𝓡 γ k (w.𝓡.env receive-at.Symbol.name) same (receive-at.Met.met w.𝓤 w.𝓛 w.𝓜 w.𝓡 wired)
nobody_checks_first (hj_receive_many b m rs lengths ports slots seconds octets n o) = λ w wired γ k same.
    cited w.𝓤 w.𝓛.H (triple_of w.𝓛 many-said.signature (many-said.spec w.𝓛 w.𝓜.mem w.𝓡.returns))
    w.𝓜 w.𝓡 γ k (w.𝓡.env many.Symbol.name) same (many.Met.met w.𝓤 w.𝓛 w.𝓜 w.𝓡 wired)
nobody_checks_first (hj_echo b m rs p slot octets o) = λ w wired γ k same.
    cited w.𝓤 w.𝓛.H (triple_of w.𝓛 echo-said.signature (echo-said.spec w.𝓛 w.𝓜.mem w.𝓡.returns))
    w.𝓜 w.𝓡 γ k (w.𝓡.env echo.Symbol.name) same (echo.Met.met w.𝓤 w.𝓛 w.𝓜 w.𝓡 wired)
nobody_checks_first (hj_take b m p) = λ w wired γ k same. take.Reads.known w γ k _ same (take.Met.met w.𝓤 w.𝓛 w.𝓜 w.𝓡 wired)
nobody_checks_first (hj_counter m i) = λ w wired γ k same. counter.Reads.known w γ k _ same (counter.Met.met w.𝓤 w.𝓛 w.𝓜 w.𝓡 wired)
nobody_checks_first (hj_waiting m p) = λ w wired γ k same. waiting.Reads.known w γ k _ same (waiting.Met.met w.𝓤 w.𝓛 w.𝓜 w.𝓡 wired)
nobody_checks_first (hj_sweep b m second) = λ w wired γ k same. sweep.Reads.known w γ k _ same (sweep.Met.met w.𝓤 w.𝓛 w.𝓜 w.𝓡 wired)
