-- The contract of each call from C, as it stands in the source (crates harpjuniper*, src/): what it says of what is told and left, for whatever is
-- lent. No clause is written again here: `Learnt` of a function's `Reads` is what the clauses of its contract tell its caller, and of the seven that are
-- lent a list specs/Named.antt names it (page 01, "What a promise has to shut out": "No public function lacks such a promise"). Assumes nothing.
use Rattle.std.specs.Prelude.{ℕ, ◌≡◌, List}
use Rattle.std.specs.Borrow.{GName, Bor, MutBor}
use contract.Lifetimes.{Lfts}
use Rattle.routes.specs.declared.Record.{Record}
use Rattle.harpjuniper.proofs.hj_read_words as read-words
use Rattle.harpjuniper.proofs.hj_build_words as build-words
use Rattle.harpjuniper_address.proofs.hj_class as class
use Rattle.harpjuniper_address.proofs.hj_path as form
use Rattle.harpjuniper_address.proofs.hj_checksum as checksum
use Rattle.harpjuniper_messages.proofs.hj_read_echo_words as read-echo-words
use Rattle.harpjuniper_messages.proofs.hj_build_request as build-request
use Rattle.harpjuniper_messages.proofs.hj_build_reply as build-reply
use Rattle.harpjuniper_settings.proofs.hj_board_words as board-words
use Rattle.harpjuniper_settings.proofs.hj_mission_words as mission-words
use Rattle.harpjuniper_settings.proofs.hj_fresh_board as fresh-board
use Rattle.harpjuniper_settings.proofs.hj_fresh_mission as fresh-mission
use Rattle.harpjuniper_settings.proofs.hj_set_router as set-router
use Rattle.harpjuniper_settings.proofs.hj_set_port as set-port
use Rattle.harpjuniper_settings.proofs.hj_set_lifetime as set-lifetime
use Rattle.harpjuniper_settings.proofs.hj_set_echo_drop as set-echo-drop
use Rattle.harpjuniper_settings.proofs.groups_and_paths.hj_set_group as set-group
use Rattle.harpjuniper_settings.proofs.groups_and_paths.hj_set_path as set-path
use Rattle.harpjuniper_settings.proofs.groups_and_paths.hj_clear_group as clear-group
use Rattle.harpjuniper_settings.proofs.groups_and_paths.hj_clear_path as clear-path
use Rattle.harpjuniper_reads.proofs.hj_get_router as get-router
use Rattle.harpjuniper_reads.proofs.hj_get_lifetime as get-lifetime
use Rattle.harpjuniper_reads.proofs.hj_get_echo_drop as get-echo-drop
use Rattle.harpjuniper_reads.proofs.hj_port_word as port-word
use Rattle.harpjuniper_reads.proofs.hj_group_word as group-word
use Rattle.harpjuniper_reads.proofs.hj_path_word as path-word
use Rattle.harpjuniper_reads.proofs.hj_last_second as last-second
use Rattle.harpjuniper_reads.proofs.hj_pair_word as pair-word
use Rattle.harpjuniper_relay.proofs.hj_take as take
use Rattle.harpjuniper_relay.proofs.hj_counter as counter
use Rattle.harpjuniper_relay.proofs.hj_waiting as waiting
use Rattle.harpjuniper_relay.proofs.hj_sweep as sweep
use Rattle.contracts.specs.Promised.{
  Things,
  Result,
  lent_to,
  Exported,
  hj_read_words,
  hj_build_words,
  hj_class,
  hj_path,
  hj_checksum,
  hj_read_echo_words,
  hj_build_request,
  hj_build_reply,
  hj_board_words,
  hj_mission_words,
  hj_fresh_board,
  hj_fresh_mission,
  hj_set_router,
  hj_set_port,
  hj_set_lifetime,
  hj_set_echo_drop,
  hj_set_route,
  hj_clear_route,
  hj_set_group,
  hj_set_path,
  hj_clear_group,
  hj_clear_path,
  hj_get_router,
  hj_get_lifetime,
  hj_get_echo_drop,
  hj_port_word,
  hj_route_word,
  hj_group_word,
  hj_path_word,
  hj_last_second,
  hj_pair_word,
  hj_search,
  hj_receive_at,
  hj_receive_many,
  hj_echo,
  hj_take,
  hj_counter,
  hj_waiting,
  hj_sweep,
}
use Rattle.contracts.specs.Named.{searches, sets_route, clears_route, reads_word, receives, receives_many, echoes}

-- ---- where lent slices lie, and until when: whatever the caller chose
pub record Spot : Type 0 where
  pub ptr : ℕ × ℕ
  pub name : GName

pub record Lying : Type 0 where
  pub lifetimes : Lfts 10
  pub board : Spot
  pub mission : Spot
  pub routes : Spot
  pub octets : Spot
  pub output : Spot
  pub numbers : Spot
  pub lengths : Spot
  pub ports : Spot
  pub slots : Spot
  pub seconds : Spot

-- a slice that is lent to be read, and one that may be written
abbrev pub lies : {A : Type 0} → Spot → List A → Bor (List A)
lies s l = record { ref_ptr = s.ptr; now = l }

abbrev pub lies_open : {A : Type 0} → Spot → List A → MutBor (List A)
lies_open s l = record { ref_ptr = s.ptr; ghost_name = s.name; now = l }

abbrev once : Lying → Lfts 1
once y = (y.lifetimes.0, tt)

abbrev twice : Lying → Lfts 2
twice y = (y.lifetimes.0, (y.lifetimes.1.0, tt))

abbrev thrice : Lying → Lfts 3
thrice y = (y.lifetimes.0, (y.lifetimes.1.0, (y.lifetimes.1.1.0, tt)))

abbrev fivefold : Lying → Lfts 5
fivefold y =
    (y.lifetimes.0, (y.lifetimes.1.0, (y.lifetimes.1.1.0, (y.lifetimes.1.1.1.0, (y.lifetimes.1.1.1.1.0, tt)))))

-- ---- what is lent to be read alone is left as it was lent: of the things lent, t, and those left, u, all but the board, the mission, the list, the
-- output or the numbers; of a datagram, all but the mission and the output; and of many, all but these and the answers
abbrev pub BoardAlone : Things → Things → Type 0
BoardAlone t u = (u.mission ≡ t.mission) × ((u.routes ≡ t.routes) × ((u.output ≡ t.output) × (u.numbers ≡ t.numbers)))

abbrev pub MissionAlone : Things → Things → Type 0
MissionAlone t u = (u.board ≡ t.board) × ((u.routes ≡ t.routes) × ((u.output ≡ t.output) × (u.numbers ≡ t.numbers)))

abbrev pub RoutesAlone : Things → Things → Type 0
RoutesAlone t u = (u.board ≡ t.board) × ((u.mission ≡ t.mission) × ((u.output ≡ t.output) × (u.numbers ≡ t.numbers)))

abbrev pub OutputAlone : Things → Things → Type 0
OutputAlone t u = (u.board ≡ t.board) × ((u.mission ≡ t.mission) × ((u.routes ≡ t.routes) × (u.numbers ≡ t.numbers)))

abbrev pub NumbersAlone : Things → Things → Type 0
NumbersAlone t u = (u.board ≡ t.board) × ((u.mission ≡ t.mission) × ((u.routes ≡ t.routes) × (u.output ≡ t.output)))

abbrev pub HearsAlone : Things → Things → Type 0
HearsAlone t u = (u.board ≡ t.board) × ((u.routes ≡ t.routes) × (u.numbers ≡ t.numbers))

abbrev pub ManyAlone : Things → Things → Type 0
ManyAlone t u = (u.board ≡ t.board) × (u.routes ≡ t.routes)

-- ---- the contracts
module _ (y : Lying) where
  abbrev at : List ℕ → Bor (List ℕ)
  at b = lies y.board b

  abbrev open_at : List ℕ → MutBor (List ℕ)
  open_at b = lies_open y.board b

  abbrev of : List ℕ → Bor (List ℕ)
  of m = lies y.mission m

  abbrev open_of : List ℕ → MutBor (List ℕ)
  open_of m = lies_open y.mission m

  abbrev listed : List Record → Bor (List Record)
  listed rs = lies y.routes rs

  abbrev open_listed : List Record → MutBor (List Record)
  open_listed rs = lies_open y.routes rs

  abbrev from : List ℕ → Bor (List ℕ)
  from l = lies y.octets l

  abbrev into : List ℕ → MutBor (List ℕ)
  into l = lies_open y.output l

  abbrev among : List ℕ → Bor (List ℕ)
  among l = lies y.numbers l

  abbrev open_among : List ℕ → MutBor (List ℕ)
  open_among l = lies_open y.numbers l

  abbrev pub Contract : Exported → Result → Type 0
  Contract (hj_read_words octets n) x =
      let c = hj_read_words octets n in
      NumbersAlone (lent_to c) x.left
      × read-words.Reads.Learnt (twice y) (from octets, (open_among n, tt)) x.answer (from octets, (open_among x.left.numbers, tt))
  Contract (hj_build_words n size o) x =
      let c = hj_build_words n size o in
      OutputAlone (lent_to c) x.left
      × build-words.Reads.Learnt (twice y) (among n, (size, (into o, tt))) x.answer (among n, (size, (into x.left.output, tt)))
  Contract (hj_class a) x =
      let c = hj_class a in
      (x.left ≡ lent_to c)
      × class.Reads.Learnt tt (a, tt) x.answer (a, tt)
  Contract (hj_path p) x =
      let c = hj_path p in
      (x.left ≡ lent_to c)
      × form.Reads.Learnt tt (p, tt) x.answer (p, tt)
  Contract (hj_checksum octets) x =
      let c = hj_checksum octets in
      (x.left ≡ lent_to c)
      × checksum.Reads.Learnt (once y) (from octets, tt) x.answer (from octets, tt)
  Contract (hj_read_echo_words octets n) x =
      let c = hj_read_echo_words octets n in
      NumbersAlone (lent_to c) x.left
      × read-echo-words.Reads.Learnt (twice y) (from octets, (open_among n, tt)) x.answer (from octets, (open_among x.left.numbers, tt))
  Contract (hj_build_request identifier sequence echoed o) x =
      let c = hj_build_request identifier sequence echoed o in
      OutputAlone (lent_to c) x.left
      × build-request.Reads.Learnt
      (twice y)
      (identifier, (sequence, (from echoed, (into o, tt))))
      x.answer
      (identifier, (sequence, (from echoed, (into x.left.output, tt))))
  Contract (hj_build_reply identifier sequence hops format stamp mtu rate echoed o) x =
      let c = hj_build_reply identifier sequence hops format stamp mtu rate echoed o in
      OutputAlone (lent_to c) x.left
      × build-reply.Reads.Learnt
      (twice y)
      (identifier, (sequence, (hops, (format, (stamp, (mtu, (rate, (from echoed, (into o, tt)))))))))
      x.answer
      (identifier, (sequence, (hops, (format, (stamp, (mtu, (rate, (from echoed, (into x.left.output, tt)))))))))
  Contract hj_board_words x =
      let c = hj_board_words in
      (x.left ≡ lent_to c)
      × board-words.Reads.Learnt tt tt x.answer tt
  Contract hj_mission_words x =
      let c = hj_mission_words in
      (x.left ≡ lent_to c)
      × mission-words.Reads.Learnt tt tt x.answer tt
  Contract (hj_fresh_board b) x =
      let c = hj_fresh_board b in
      BoardAlone (lent_to c) x.left
      × fresh-board.Reads.Learnt (once y) (open_at b, tt) x.answer (open_at x.left.board, tt)
  Contract (hj_fresh_mission m number) x =
      let c = hj_fresh_mission m number in
      MissionAlone (lent_to c) x.left
      × fresh-mission.Reads.Learnt (once y) (open_of m, (number, tt)) x.answer (open_of x.left.mission, (number, tt))
  Contract (hj_set_router b router) x =
      let c = hj_set_router b router in
      BoardAlone (lent_to c) x.left
      × set-router.Reads.Learnt (once y) (open_at b, (router, tt)) x.answer (open_at x.left.board, (router, tt))
  Contract (hj_set_port b p address mask mtu mission) x =
      let c = hj_set_port b p address mask mtu mission in
      BoardAlone (lent_to c) x.left
      × set-port.Reads.Learnt
      (once y)
      (open_at b, (p, (address, (mask, (mtu, (mission, tt))))))
      x.answer
      (open_at x.left.board, (p, (address, (mask, (mtu, (mission, tt))))))
  Contract (hj_set_lifetime b lifetime) x =
      let c = hj_set_lifetime b lifetime in
      BoardAlone (lent_to c) x.left
      × set-lifetime.Reads.Learnt (once y) (open_at b, (lifetime, tt)) x.answer (open_at x.left.board, (lifetime, tt))
  Contract (hj_set_echo_drop b drop) x =
      let c = hj_set_echo_drop b drop in
      BoardAlone (lent_to c) x.left
      × set-echo-drop.Reads.Learnt (once y) (open_at b, (drop, tt)) x.answer (open_at x.left.board, (drop, tt))
  Contract (hj_set_route b rs i prefix mask p availability capabilities mission) x =
      let c = hj_set_route b rs i prefix mask p availability capabilities mission in
      RoutesAlone (lent_to c) x.left
      × sets_route
      (twice y)
      (at b, (open_listed rs, (i, (prefix, (mask, (p, (availability, (capabilities, (mission, tt)))))))))
      x.answer
      (at b, (open_listed x.left.routes, (i, (prefix, (mask, (p, (availability, (capabilities, (mission, tt)))))))))
  Contract (hj_clear_route rs i) x =
      let c = hj_clear_route rs i in
      RoutesAlone (lent_to c) x.left
      × clears_route (once y) (open_listed rs, (i, tt)) x.answer (open_listed x.left.routes, (i, tt))
  Contract (hj_set_group b m i address send subscribed) x =
      let c = hj_set_group b m i address send subscribed in
      MissionAlone (lent_to c) x.left
      × set-group.Reads.Learnt
      (twice y)
      (at b, (open_of m, (i, (address, (send, (subscribed, tt))))))
      x.answer
      (at b, (open_of x.left.mission, (i, (address, (send, (subscribed, tt))))))
  Contract (hj_set_path b m i to send here) x =
      let c = hj_set_path b m i to send here in
      MissionAlone (lent_to c) x.left
      × set-path.Reads.Learnt
      (twice y)
      (at b, (open_of m, (i, (to, (send, (here, tt))))))
      x.answer
      (at b, (open_of x.left.mission, (i, (to, (send, (here, tt))))))
  Contract (hj_clear_group m i) x =
      let c = hj_clear_group m i in
      MissionAlone (lent_to c) x.left
      × clear-group.Reads.Learnt (once y) (open_of m, (i, tt)) x.answer (open_of x.left.mission, (i, tt))
  Contract (hj_clear_path m i) x =
      let c = hj_clear_path m i in
      MissionAlone (lent_to c) x.left
      × clear-path.Reads.Learnt (once y) (open_of m, (i, tt)) x.answer (open_of x.left.mission, (i, tt))
  Contract (hj_get_router b) x =
      let c = hj_get_router b in
      (x.left ≡ lent_to c)
      × get-router.Reads.Learnt (once y) (at b, tt) x.answer (at b, tt)
  Contract (hj_get_lifetime b) x =
      let c = hj_get_lifetime b in
      (x.left ≡ lent_to c)
      × get-lifetime.Reads.Learnt (once y) (at b, tt) x.answer (at b, tt)
  Contract (hj_get_echo_drop b) x =
      let c = hj_get_echo_drop b in
      (x.left ≡ lent_to c)
      × get-echo-drop.Reads.Learnt (once y) (at b, tt) x.answer (at b, tt)
  Contract (hj_port_word b p word) x =
      let c = hj_port_word b p word in
      (x.left ≡ lent_to c)
      × port-word.Reads.Learnt (once y) (at b, (p, (word, tt))) x.answer (at b, (p, (word, tt)))
  Contract (hj_route_word rs i word) x =
      let c = hj_route_word rs i word in
      (x.left ≡ lent_to c)
      × reads_word (once y) (listed rs, (i, (word, tt))) x.answer (listed rs, (i, (word, tt)))
  Contract (hj_group_word m i word) x =
      let c = hj_group_word m i word in
      (x.left ≡ lent_to c)
      × group-word.Reads.Learnt (once y) (of m, (i, (word, tt))) x.answer (of m, (i, (word, tt)))
  Contract (hj_path_word m i word) x =
      let c = hj_path_word m i word in
      (x.left ≡ lent_to c)
      × path-word.Reads.Learnt (once y) (of m, (i, (word, tt))) x.answer (of m, (i, (word, tt)))
  Contract (hj_last_second m) x =
      let c = hj_last_second m in
      (x.left ≡ lent_to c)
      × last-second.Reads.Learnt (once y) (of m, tt) x.answer (of m, tt)
  Contract (hj_pair_word m i word) x =
      let c = hj_pair_word m i word in
      (x.left ≡ lent_to c)
      × pair-word.Reads.Learnt (once y) (of m, (i, (word, tt))) x.answer (of m, (i, (word, tt)))
  Contract (hj_search b m rs a) x =
      let c = hj_search b m rs a in
      (x.left ≡ lent_to c)
      × searches (thrice y) (at b, (of m, (listed rs, (a, tt)))) x.answer (at b, (of m, (listed rs, (a, tt))))
  Contract (hj_receive_at b m rs p slot second octets o) x =
      let c = hj_receive_at b m rs p slot second octets o in
      HearsAlone (lent_to c) x.left
      × receives
      (fivefold y)
      (at b, (open_of m, (listed rs, (p, (slot, (second, (from octets, (into o, tt))))))))
      x.answer
      (at b, (open_of x.left.mission, (listed rs, (p, (slot, (second, (from octets, (into x.left.output, tt))))))))
  Contract (hj_receive_many b m rs lengths ports slots seconds octets n o) x =
      let c = hj_receive_many b m rs lengths ports slots seconds octets n o in
      ManyAlone (lent_to c) x.left
      × receives_many
      y.lifetimes
      (at b, (open_of m, (listed rs, (lies y.lengths lengths, (lies y.ports ports, (lies y.slots slots, (lies y.seconds seconds, (from octets, (open_among n, (into o, tt))))))))))
      x.answer
      (at b, (open_of x.left.mission, (listed rs, (lies y.lengths lengths, (lies y.ports ports, (lies y.slots slots, (lies y.seconds seconds, (from octets, (open_among x.left.numbers, (into x.left.output, tt))))))))))
  Contract (hj_echo b m rs p slot octets o) x =
      let c = hj_echo b m rs p slot octets o in
      HearsAlone (lent_to c) x.left
      × echoes
      (fivefold y)
      (at b, (open_of m, (listed rs, (p, (slot, (from octets, (into o, tt)))))))
      x.answer
      (at b, (open_of x.left.mission, (listed rs, (p, (slot, (from octets, (into x.left.output, tt)))))))
  Contract (hj_take b m p) x =
      let c = hj_take b m p in
      MissionAlone (lent_to c) x.left
      × take.Reads.Learnt (twice y) (at b, (open_of m, (p, tt))) x.answer (at b, (open_of x.left.mission, (p, tt)))
  Contract (hj_counter m i) x =
      let c = hj_counter m i in
      (x.left ≡ lent_to c)
      × counter.Reads.Learnt (once y) (of m, (i, tt)) x.answer (of m, (i, tt))
  Contract (hj_waiting m p) x =
      let c = hj_waiting m p in
      (x.left ≡ lent_to c)
      × waiting.Reads.Learnt (once y) (of m, (p, tt)) x.answer (of m, (p, tt))
  Contract (hj_sweep b m second) x =
      let c = hj_sweep b m second in
      MissionAlone (lent_to c) x.left
      × sweep.Reads.Learnt (twice y) (at b, (open_of m, (second, tt))) x.answer (at b, (open_of x.left.mission, (second, tt)))

-- what a call's contract lets it give back, wherever what is lent lies
abbrev pub Says : Exported → Result → Type 0
Says c x = (y : Lying) × Contract y c x
