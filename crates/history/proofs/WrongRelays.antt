-- The wrong relays of page 01, "What a promise has to shut out", of page 02, W-204, W-207 and W-208, and three more. A relay is told by what the calls of mission 0
-- do after any history, and by the state that a history leaves; it keeps its promises where both are what the rules give. None that does so is one of
-- these. What shows it are the marked cases (specs/Marked.antt) and a few histories beside them. Assumes nothing.
use native.Mathlib.Omega.{arith}
use Prim.Native.Nat.{ℕ, ◌+◌, ◌*◌, ◌%◌, ◌^◌, ◌<◌}
use mathlib.Core.Path.{◌≡◌, refl, sym, ap, ◌∙◌}
use mathlib.Core.Bool.{Bool, true, false, not, ◌||◌}
use mathlib.Core.List.{List, [], ◌∷◌, ◌++◌, map}
use lib.ListN.{length, replicate}
use borrow.Author.Tests.{lt-ltb}
use Rattle.checks.proofs.Bools.{true_false}
use Rattle.sets.specs.Sets.{in_set}
use Rattle.octets.specs.Octets.{octets as octets_of}
use Rattle.checksum.specs.Sum.{words, sum_from, ones_sum}
use Rattle.address.specs.Mask.{mask_of}
use Rattle.address.specs.Octets.{dotted}
use Rattle.address.specs.Path.{path_form}
use Rattle.address.specs.declared.Slot.{Slot}
use Rattle.header.specs.Form.{bit_weight}
use Rattle.header.specs.Build.{addresses_octets, qos_octets, octet_octets, stamp_octets, third_octet, second_octet, rest_octets, size_of}
use Rattle.header.specs.Onward.{found_of}
use Rattle.echo.specs.Message.{message_of, echo_checks, reading_of}
use Rattle.routes.specs.Routes.{is_up}
use Rattle.routes.specs.Search.{found_route, search_of}
use Rattle.routes.specs.declared.Record.{Record}
use Rattle.routes.specs.declared.Route.{Route}
use Rattle.routes.proofs.Longest.{CandidateAt}
use Rattle.routes.proofs.Marked as marked
use Rattle.settings.specs.Refusals.{path_class_refused}
use Rattle.settings.specs.Sets.{names_other, set_refused}
use Rattle.refusals.specs.Elsewhere.{path_elsewhere}
use Rattle.lookup.specs.Lookup.{path_place}
use Rattle.verdict.specs.Rule.{path_line}
use Rattle.records.specs.Held.{holds_pair}
use Rattle.meaning.specs.Flood.{pair_of}
use Rattle.meaning.specs.Names.{flood_routing}
use Rattle.survey.specs.Survey.{survey_within}
use Rattle.floods.specs.Memory.{is_held, free_place, sought_pair}
use Rattle.floods.specs.Sweep.{is_old, swept, swept_memory}
use Rattle.state.specs.Relay.{route_in, queue_at, counter_in}
use Rattle.state.specs.Seen.{State, fresh_state}
use Rattle.adjust.specs.Settled.{new_record}
use Rattle.verdict.specs.declared.Ruling.{Ruling}
use Rattle.judge.specs.Asked.{node_asked, aim_asked, carried_asked}
use Rattle.judge.specs.Ending.{no_ruling, output_room}
use Rattle.judge.specs.declared.Ending.{Ending}
use Rattle.taking.specs.Taking.{take_outcome, Taking}
use Rattle.checks.specs.Told.{Good, Refused}
use Rattle.tally.specs.Tally.{receipt_counter, ruling_moves, moves_of, counter_for, counted_at}
use Rattle.replies.specs.Request.{asks_in_header, asking_of}
use Rattle.replies.specs.Reply.{reply_fields, echoed_count, is_asked, answer_to}
use Rattle.replies.specs.Replied.{call_checks, answering_of, wire_fields, wire_length, replied_among, replied_to}
use Rattle.answering.specs.Echoed.{echo_answering, echo_reply}
use Rattle.page.specs.Table.{aim_at, equals_port}
use Rattle.page.specs.Replies.{goes_to_many}
use Rattle.history.specs.Seat.{Seat, relay_in, relay_with, heard_by}
use Rattle.history.specs.Calls.{Order, set_router, set_port, set_drop, orders, views, set_path, sets, hears, echoes, takes, sweeps, looks, Call, operator, own}
use Rattle.history.specs.Outcome.{Answer, number, ended, replied, entry, Outcome, of_taking, outcome, seat_after}
use Rattle.history.specs.Tally.{sum_at, tally, state_after}
use Rattle.history.specs.Replies.{is_made}
use Rattle.history.specs.Marked.{ordered, port, router_with_ports, A, B, C, D, all_routes, without_a, datagram, heard, sent_by, not_sent}
use Rattle.history.proofs.Counters.{counters}
use Rattle.survey.proofs.Bits.{in_none}
use Rattle.history.proofs.Fair.{fair}
use Rattle.history.proofs.Replying.{reply_fair}
use Rattle.history.proofs.Replies.{answered_exactly, reply_counts_no_receipt}
use Rattle.history.proofs.Refusals.{heard_grants_nothing, counts_nothing_lem}
use Rattle.history.proofs.Marked.{opened, marked_cases_lem}

-- ---- the histories
-- the settings of the marked cases
abbrev begun : List Call
begun = ordered (router_with_ports 0)

-- a datagram for D, one for C and one for A: cases a, b and d
abbrev for_d : List Record → Call
for_d rs = heard rs 1 (datagram 10 4 9 14 0)

abbrev for_c : Call
for_c = heard (all_routes 0) 1 (datagram 10 4 9 16 0)

abbrev for_a : List Record → Call
for_a rs = heard rs 1 (datagram 192 0 2 1 0)

-- the list of the marked cases, with D down, and with D given to the other mission
abbrev pub d_down : List Record
d_down = A 0 ∷ B 0 ∷ C 0 ∷ new_record (dotted 10 4 9 14) (mask_of 32) 3 2 0 0 ∷ []

abbrev pub d_given : List Record
d_given = A 0 ∷ B 0 ∷ C 0 ∷ D 1 ∷ []

-- so many entries wait on D's port
abbrev pub waiting_for_d : ℕ → List Call
waiting_for_d n = begun ++ replicate n (for_d (all_routes 0))

-- port 0 is in the domain 10.4.9, port 1 is not, and path 10.4.9.14 is to go out by port 1
abbrev pub two_domains : List Call
two_domains =
    ordered (set_router 1 ∷ set_port 0 (record { 0 = dotted 10 4 9 2 }) (record { 0 = mask_of 24 }) 1500 0 ∷ port 0 1 ∷ [])
    ++ own (sets (set_path 0 (record { 0 = dotted 10 4 9 14 }) (2 ^ 1) 0)) ∷ []

-- on path 14, in one octet (as `datagram`, with neither source nor QOS)
abbrev pub basic : Call
basic = own (hears [] 0 (record { 0 = 1 }) 0 (32 ∷ 4 ∷ (4 * 16 + bit_weight 22) ∷ 14 ∷ []) (replicate output_room 0))

-- a flooded datagram to 192.0.2.1 from 172.16.4.2, with a timestamp of three octets (as `datagram`), that comes in by this port in this second
abbrev pub flooded : ℕ → ℕ → Call
flooded at second =
    own (hears [] at (record { 0 = 1 }) second
    (32 ∷ 16
    ∷ (4 * 16 + bit_weight 20 + bit_weight 22)
    ∷ (bit_weight 25 + bit_weight 28 + bit_weight 30 + bit_weight 31)
    ∷ 192 ∷ 0 ∷ 2 ∷ 1
    ∷ 172 ∷ 16 ∷ 4 ∷ 2
    ∷ (flood_routing * 4)
    ∷ 0 ∷ 0 ∷ 9
    ∷ [])
    (replicate output_room 0))

-- an echo request to 172.16.4.1, port 4's own address, from 192.0.2.1, with hop count 9, and three octets of data (003, 3.3.2 and 3.3.4.7)
abbrev pub ping : List ℕ
ping =
    32 ∷ 24
    ∷ (16 + bit_weight 20 + bit_weight 22)
    ∷ (bit_weight 25 + bit_weight 26 + bit_weight 31)
    ∷ 172 ∷ 16 ∷ 4 ∷ 1
    ∷ 192 ∷ 0 ∷ 2 ∷ 1
    ∷ 9
    -- type 8, code 0, checksum, identifier, sequence number, data
    ∷ 8 ∷ 0 ∷ 243 ∷ 245 ∷ 0 ∷ 7 ∷ 0 ∷ 1
    ∷ 1 ∷ 2 ∷ 3
    ∷ []

abbrev pub pinged : Call
pinged = own (echoes (all_routes 0) 4 (record { 0 = 1 }) ping (replicate 1500 0))

-- a route as if it were up, whatever its availability
abbrev pub as_if_up : Route → Route
as_if_up r =
    record {
      filled = r.filled;
      prefix = r.prefix;
      mask = r.mask;
      port = r.port;
      availability = 1;
      capabilities = r.capabilities;
    }

-- a record as if it were mission 0's, whosever it is
abbrev pub as_if_own : Record → Record
as_if_own x =
    record {
      filled = x.filled;
      prefix = x.prefix;
      mask = x.mask;
      port = x.port;
      availability = x.availability;
      capabilities = x.capabilities;
      mission = 0;
    }

-- what the rules give there
pub record Cases : Type 0 where
  -- after the datagram of case a, that of case b goes to C's port
  pub octets : (outcome (seat_after 0 (begun ++ for_d (all_routes 0) ∷ [])) for_c).answer ≡ sent_by 2
  -- with a list that has no A, the octets that A's port took get 11; and once the node is a host, 9
  pub cleared : (outcome (seat_after 0 (begun ++ for_a (all_routes 0) ∷ [])) (for_a (without_a 0))).answer ≡ not_sent 11
  pub host : (outcome (seat_after 0 (begun ++ for_a (all_routes 0) ∷ operator (orders (set_router 0)) ∷ [])) (for_a (all_routes 0))).answer ≡ not_sent 9
  -- with D down, its datagram goes to C's port, though D would be the longest
  pub down : (outcome (seat_after 0 begun) (for_d d_down)).answer ≡ sent_by 2
  pub longest : search_of (record { 0 = dotted 10 4 9 14 }) (map as_if_up (relay_with (seat_after 0 begun) d_down).routes) ≡ found_route 3 32 marked.D
  pub routes : CandidateAt (record { 0 = dotted 10 4 9 14 }) (relay_with (seat_after 0 begun) d_down).routes 2
      × (is_up (route_in (relay_with (seat_after 0 begun) d_down) 3) ≡ false)
  -- with D given to the other mission too
  pub given : (outcome (seat_after 0 begun) (for_d d_given)).answer ≡ sent_by 2
  -- the datagram of case a enters D's port, and counts one receipt
  pub waits : ((queue_at (seat_after 0 (waiting_for_d 0)).mission 3).count ≡ 0) × ((queue_at (seat_after 0 (waiting_for_d 1)).mission 3).count ≡ 1)
  pub receipts : (counter_in (state_after 0 (waiting_for_d 0)).counters 0 ≡ 0) × (counter_in (state_after 0 (waiting_for_d 1)).counters 0 ≡ 1)
  -- with 31 waiting it is granted and not dropped
  pub thirty_one : (queue_at (seat_after 0 (waiting_for_d 31)).mission 3).count ≡ 31
  pub granted : in_set 3 (outcome (seat_after 0 (waiting_for_d 31)) (for_d (all_routes 0))).granted ≡ true
  pub kept : in_set 3 (outcome (seat_after 0 (waiting_for_d 31)) (for_d (all_routes 0))).dropped ≡ false
  -- a one-octet path does not leave its domain
  pub domain : (outcome (seat_after 0 two_domains) basic).answer ≡ not_sent 13
  -- a flooded datagram goes to all other ports, and not when it comes again, whatever the port; a sweep, the lifetime 0, frees its pair, and accepts a second
  pub flood : (outcome (seat_after 0 begun) (flooded 4 0)).answer ≡ ended 0 0 1 15
  pub again : (outcome (seat_after 0 (begun ++ flooded 4 0 ∷ [])) (flooded 3 0)).answer ≡ not_sent 0
  pub freed : (outcome (seat_after 0 (begun ++ flooded 4 0 ∷ own (sweeps 1) ∷ [])) (flooded 4 1)).answer ≡ ended 0 0 1 15
  pub past : (outcome (seat_after 0 (begun ++ own (sweeps 1) ∷ [])) (flooded 4 0)).answer ≡ ended 29 0 0 0
  -- an echo request is answered by A's port, and not where the operator drops them
  pub echoed : (outcome (seat_after 0 begun) pinged).answer ≡ replied 0 1 1
  pub unechoed : (outcome (seat_after 0 (begun ++ operator (orders (set_drop 1)) ∷ [])) pinged).answer ≡ replied 0 0 0

-- and the rules of replies
unfoldable opened_replies : Unit {0}
unfolding words sum_from ones_sum message_of echo_checks reading_of asking_of asks_in_header is_asked answer_to reply_fields echoed_count call_checks answering_of wire_fields wire_length replied_among replied_to survey_within found_of carried_asked aim_asked node_asked size_of second_octet third_octet rest_octets addresses_octets qos_octets octet_octets stamp_octets octets_of echo_answering echo_reply
opened_replies = tt

pub cases : Cases
unfolding opened fresh_state counted_at counter_for path_form path_class_refused set_refused names_other path_elsewhere path_place path_line pair_of holds_pair is_held free_place sought_pair is_old swept swept_memory opened_replies
cases =
    record {
      octets = refl;
      cleared = refl;
      host = refl;
      down = refl;
      longest = refl;
      routes = (refl, refl);
      given = refl;
      waits = (refl, refl);
      receipts = (refl, refl);
      thirty_one = refl;
      granted = refl;
      kept = refl;
      domain = refl;
      flood = refl;
      again = refl;
      freed = refl;
      past = refl;
      echoed = refl;
      unechoed = refl;
    }

-- the ports that took an entry
abbrev ports_of : Answer → ℕ
ports_of (number n) = 0
ports_of (ended refusal local onward took) = took
ports_of (replied refusal onward took) = took
ports_of (entry e) = 0

pub ended_by_lem : {refusal local onward took refusal' local' onward' took' : ℕ} → ended refusal local onward took ≡ ended refusal' local' onward' took' → refusal ≡ refusal'
ended_by_lem e = cc

-- 21, 17 and 29 end a datagram with no ruling, and no counter is theirs
unmoved_by : (n : ℕ) (e : Ending) (i : ℕ) → e.refusal ≡ n → e.ruling ≡ no_ruling
    → sum_at ((receipt_counter n, 1) ∷ (counter_for n, 1) ∷ ruling_moves no_ruling) i ≡ 0 → sum_at (moves_of e) i ≡ 0
unmoved_by n e i is bare none =
    ap (λ (k : ℕ). sum_at ((receipt_counter k, 1) ∷ (counter_for k, 1) ∷ ruling_moves e.ruling) i) is
    ∙ ap (λ (x : Ruling). sum_at ((receipt_counter n, 1) ∷ (counter_for n, 1) ∷ ruling_moves x) i) bare
    ∙ none

unmoved_taking : (p : ℕ) (t : Taking) (i : ℕ) → sum_at (of_taking p t).moves i ≡ 0
unmoved_taking p (Good e) i = refl
unmoved_taking p (Refused n) i = refl

module _ (n : ℕ) (refuses : n ≡ 0 → ⊥) (i : ℕ) (none : sum_at ((receipt_counter n, 1) ∷ (counter_for n, 1) ∷ ruling_moves no_ruling) i ≡ 0) where
  unmoved_at : (seat : Seat) (c : Call) (local onward took : ℕ) → (outcome seat c).answer ≡ ended n local onward took → sum_at (outcome seat c).moves i ≡ 0
  unmoved_at seat (operator (orders o)) local onward took e = refl
  unmoved_at seat (operator (views v)) local onward took e = refl
  unmoved_at seat (own (sets s)) local onward took e = refl
  unmoved_at seat (own (hears rs p slot second octets output)) local onward took e =
      let is = ended_by_lem e in
      let bare = heard_grants_nothing seat rs p second octets (length output) (λ z. refuses (sym is ∙ z)) in
      unmoved_by n (heard_by seat rs p second octets (length output)) i is bare none
  unmoved_at seat (own (echoes rs p slot octets output)) local onward took e = true_false cc
  unmoved_at seat (own (takes p)) local onward took e = unmoved_taking p (take_outcome (relay_in seat) p) i
  unmoved_at seat (own (sweeps second)) local onward took e = refl
  unmoved_at seat (own (looks l)) local onward took e = refl

-- a port that drops a copy is full
module _ (seat : Seat) (p : ℕ) (inside : p < 8) (room : (queue_at seat.mission p).count < 32) where
  none_dropped : {A : Type 0} → in_set p 0 ≡ true → A
  none_dropped drops = true_false (sym drops ∙ in_none p)

  no_taking_drops : (q : ℕ) (t : Taking) → in_set p (of_taking q t).dropped ≡ true → ⊥
  no_taking_drops q (Good e) drops = none_dropped drops
  no_taking_drops q (Refused n) drops = none_dropped drops

  not_dropped : (c : Call) → in_set p (outcome seat c).dropped ≡ true → ⊥
  not_dropped (operator (orders o)) drops = none_dropped drops
  not_dropped (operator (views v)) drops = none_dropped drops
  not_dropped (own (sets s)) drops = none_dropped drops
  not_dropped (own (hears rs q slot second octets output)) drops =
      true_false (sym (lt-ltb (queue_at seat.mission p).count 32 room) ∙ (fair seat p inside rs q second octets (length output)).full drops)
  not_dropped (own (echoes rs q slot octets output)) drops =
      true_false (sym (lt-ltb (queue_at seat.mission p).count 32 room) ∙ (reply_fair seat p inside rs q octets (length output)).full drops)
  not_dropped (own (takes q)) drops = no_taking_drops q (take_outcome (relay_in seat) q) drops
  not_dropped (own (sweeps second)) drops = none_dropped drops
  not_dropped (own (looks l)) drops = none_dropped drops

-- ---- what calls do
module _ (does : List Call → Call → Outcome) (kept : (cs : List Call) (c : Call) → does cs c ≡ outcome (seat_after 0 cs) c) where
  answers : (cs : List Call) (c : Call) → (does cs c).answer ≡ (outcome (seat_after 0 cs) c).answer
  answers cs c = ap (λ o. o.answer) (kept cs c)

  in_case_a : (does begun (for_d (all_routes 0))).answer ≡ sent_by 3
  in_case_a = answers begun (for_d (all_routes 0)) ∙ (marked_cases_lem 0 (omega arith)).0

  in_case_d : (does begun (for_a (all_routes 0))).answer ≡ sent_by 0
  in_case_d = answers begun (for_a (all_routes 0)) ∙ (marked_cases_lem 0 (omega arith)).1.1.1.0

  -- It does not refuse every datagram after every history.
  pub always_refusing : ((cs : List Call) (c : Call) (local onward took : ℕ) → (does cs c).answer ≡ ended 0 local onward took → ⊥) → ⊥
  always_refusing wrong = wrong begun (for_d (all_routes 0)) 0 1 (2 ^ 3) in_case_a

  -- Nor does it refuse the onward half of all that it judges.
  pub never_sending_on : ((cs : List Call) (c : Call) (local took : ℕ) → (does cs c).answer ≡ ended 0 local 1 took → ⊥) → ⊥
  never_sending_on wrong = wrong begun (for_d (all_routes 0)) 0 (2 ^ 3) in_case_a

  -- It does not name port 0 alone, whenever it names a port.
  pub always_port_0 :
      ((cs : List Call) (c : Call) (refusal local onward took p : ℕ) → (does cs c).answer ≡ ended refusal local onward took → in_set p took ≡ true → p ≡ 0)
      → ⊥
  always_port_0 wrong = let three : ◌≡◌ {A = ℕ} 3 0 = wrong begun (for_d (all_routes 0)) 0 0 1 (2 ^ 3) 3 in_case_a refl in omega arith

  -- It does not copy its first answer for other octets.
  pub copying_answers :
      ((settings : List Order) (rs : List Record) (port : ℕ) (slot : Slot) (second : ℕ) (first others output : List ℕ)
      → (does (ordered settings ++ own (hears rs port slot second first output) ∷ []) (own (hears rs port slot second others output))).answer
      ≡ (does (ordered settings) (own (hears rs port slot second first output))).answer)
      → ⊥
  copying_answers wrong =
      let same = wrong (router_with_ports 0) (all_routes 0) 4 (record { 0 = 1 }) 0 (datagram 10 4 9 14 0) (datagram 10 4 9 16 0) (replicate output_room 0) in
      let later = answers (begun ++ for_d (all_routes 0) ∷ []) for_c ∙ cases.octets in
      let ports : ◌≡◌ {A = ℕ} 4 8 = ap ports_of (sym later ∙ same ∙ in_case_a) in omega arith

  -- Nor for the same octets with another list of routes,
  pub copying_over_lists :
      ((settings : List Order) (rs changed : List Record) (port : ℕ) (slot : Slot) (second : ℕ) (octets output : List ℕ)
      → (does (ordered settings ++ own (hears rs port slot second octets output) ∷ []) (own (hears changed port slot second octets output))).answer
      ≡ (does (ordered settings) (own (hears rs port slot second octets output))).answer)
      → ⊥
  copying_over_lists wrong =
      let same = wrong (router_with_ports 0) (all_routes 0) (without_a 0) 4 (record { 0 = 1 }) 0 (datagram 192 0 2 1 0) (replicate output_room 0) in
      let later = answers (begun ++ for_a (all_routes 0) ∷ []) (for_a (without_a 0)) ∙ cases.cleared in
      let ports : ◌≡◌ {A = ℕ} 0 1 = ap ports_of (sym later ∙ same ∙ in_case_d) in omega arith

  -- and once a setting is changed.
  pub copying_over_settings :
      ((settings : List Order) (changed : Order) (rs : List Record) (port : ℕ) (slot : Slot) (second : ℕ) (octets output : List ℕ)
      → (does (ordered settings ++ own (hears rs port slot second octets output) ∷ operator (orders changed) ∷ []) (own (hears rs port slot second octets output))).answer
      ≡ (does (ordered settings) (own (hears rs port slot second octets output))).answer)
      → ⊥
  copying_over_settings wrong =
      let same = wrong (router_with_ports 0) (set_router 0) (all_routes 0) 4 (record { 0 = 1 }) 0 (datagram 192 0 2 1 0) (replicate output_room 0) in
      let later = answers (begun ++ for_a (all_routes 0) ∷ operator (orders (set_router 0)) ∷ []) (for_a (all_routes 0)) ∙ cases.host in
      let ports : ◌≡◌ {A = ℕ} 0 1 = ap ports_of (sym later ∙ same ∙ in_case_d) in omega arith

  -- It does not keep back a datagram for which a route is there that is up, where the longest of all that match is not up.
  pub hiding_a_live_route :
      ((cs : List Call) (rs : List Record) (w x y z place ones live took : ℕ) (r : Route)
      → search_of (record { 0 = dotted w x y z }) (map as_if_up (relay_with (seat_after 0 cs) rs).routes) ≡ found_route place ones r
      → is_up (route_in (relay_with (seat_after 0 cs) rs) place) ≡ false
      → CandidateAt (record { 0 = dotted w x y z }) (relay_with (seat_after 0 cs) rs).routes live
      → (does cs (heard rs 1 (datagram w x y z 0))).answer ≡ ended 0 0 1 took
      → ⊥)
      → ⊥
  hiding_a_live_route wrong =
      wrong begun d_down 10 4 9 14 3 32 2 (2 ^ 2) marked.D cases.longest cases.routes.1 cases.routes.0
      (answers begun (for_d d_down) ∙ cases.down)

  -- It does not use the routes of both missions (W-208: "Each route says which mission may use it").
  pub using_all_routes :
      ((cs : List Call) (rs : List Record) (slot : ℕ) (octets : List ℕ)
      → (does cs (heard rs slot octets)).answer ≡ (does cs (heard (map as_if_own rs) slot octets)).answer)
      → ⊥
  using_all_routes wrong =
      let same = wrong begun d_given 1 (datagram 10 4 9 14 0) in
      let ports : ◌≡◌ {A = ℕ} 4 8 = ap ports_of (sym (answers begun (for_d d_given) ∙ cases.given) ∙ same ∙ in_case_a) in omega arith

  -- It does not drop what is granted to a port with 31 waiting.
  pub dropping_at_31 :
      ((cs : List Call) (c : Call) (p : ℕ) → in_set p (does cs c).granted ≡ true → (queue_at (seat_after 0 cs).mission p).count ≡ 31
      → in_set p (does cs c).dropped ≡ true)
      → ⊥
  dropping_at_31 wrong =
      let same = kept (waiting_for_d 31) (for_d (all_routes 0)) in
      let drops = wrong (waiting_for_d 31) (for_d (all_routes 0)) 3 (ap (λ o. in_set 3 o.granted) same ∙ cases.granted) cases.thirty_one in
      true_false (sym drops ∙ ap (λ o. in_set 3 o.dropped) same ∙ cases.kept)

  -- Nor does it ever drop a copy where fewer than 32 wait.
  pub dropping_below_32 : (cs : List Call) (c : Call) (p : ℕ) → p < 8 → (queue_at (seat_after 0 cs).mission p).count < 32
      → in_set p (does cs c).dropped ≡ true → ⊥
  dropping_below_32 cs c p inside room wrong = not_dropped (seat_after 0 cs) p inside room c (ap (λ o. in_set p o.dropped) (sym (kept cs c)) ∙ wrong)

  -- It does not do without the domain test, and so never answer 13.
  pub leaving_the_domain : ((cs : List Call) (c : Call) (local : ℕ) → (does cs c).answer ≡ ended 0 local 13 0 → ⊥) → ⊥
  leaving_the_domain wrong = wrong two_domains basic 0 (answers two_domains basic ∙ cases.domain)

  -- It does not send on a flooded datagram whenever it comes (W-207: "not asked for a held pair"),
  pub flooding_again : ((cs : List Call) (p q second : ℕ) → (does (cs ++ flooded p second ∷ []) (flooded q second)).answer ≡ (does cs (flooded p second)).answer) → ⊥
  flooding_again wrong =
      let same = wrong begun 4 3 0 in
      let ports : ◌≡◌ {A = ℕ} 0 15 =
      ap ports_of (sym (answers (begun ++ flooded 4 0 ∷ []) (flooded 3 0) ∙ cases.again) ∙ same ∙ answers begun (flooded 4 0) ∙ cases.flood) in omega arith

  -- nor never again,
  pub freeing_nothing :
      ((cs : List Call) (p first second : ℕ) → ports_of (does (cs ++ flooded p first ∷ own (sweeps second) ∷ []) (flooded p second)).answer ≡ 0) → ⊥
  freeing_nothing wrong =
      let ports : ◌≡◌ {A = ℕ} 0 15 =
      sym (wrong begun 4 0 1) ∙ ap ports_of (answers (begun ++ flooded 4 0 ∷ own (sweeps 1) ∷ []) (flooded 4 1) ∙ cases.freed) in omega arith

  -- and it does not take every second.
  pub taking_any_second : ((cs : List Call) (c : Call) (local onward took : ℕ) → (does cs c).answer ≡ ended 29 local onward took → ⊥) → ⊥
  taking_any_second wrong =
      wrong (begun ++ own (sweeps 1) ∷ []) (flooded 4 0) 0 0 0 (answers (begun ++ own (sweeps 1) ∷ []) (flooded 4 0) ∙ cases.past)

  -- No counter of it moves at 17,
  pub counting_at_17 : (cs : List Call) (c : Call) (i local onward took : ℕ)
      → (does cs c).answer ≡ ended 17 local onward took → (sum_at (does cs c).moves i ≡ 0 → ⊥) → ⊥
  counting_at_17 cs c i local onward took e wrong =
      wrong
      (ap (λ o. sum_at o.moves i) (kept cs c)
      ∙ unmoved_at 17 (λ z. omega arith) i (counts_nothing_lem i).1.1.0 (seat_after 0 cs) c local onward took (sym (answers cs c) ∙ e))

  -- at 21, a list that is too long (W-208),
  pub counting_at_21 : (cs : List Call) (c : Call) (i local onward took : ℕ)
      → (does cs c).answer ≡ ended 21 local onward took → (sum_at (does cs c).moves i ≡ 0 → ⊥) → ⊥
  counting_at_21 cs c i local onward took e wrong =
      wrong
      (ap (λ o. sum_at o.moves i) (kept cs c)
      ∙ unmoved_at 21 (λ z. omega arith) i (counts_nothing_lem i).0 (seat_after 0 cs) c local onward took (sym (answers cs c) ∙ e))

  -- nor at 29, a second of the past (W-207).
  pub counting_at_29 : (cs : List Call) (c : Call) (i local onward took : ℕ)
      → (does cs c).answer ≡ ended 29 local onward took → (sum_at (does cs c).moves i ≡ 0 → ⊥) → ⊥
  counting_at_29 cs c i local onward took e wrong =
      wrong
      (ap (λ o. sum_at o.moves i) (kept cs c)
      ∙ unmoved_at 29 (λ z. omega arith) i (counts_nothing_lem i).1.1.1 (seat_after 0 cs) c local onward took (sym (answers cs c) ∙ e))

  -- No reply of it counts in npForwDatagrams (W-203: "in npOutRequests, never npForwDatagrams"),
  pub forwarding_a_reply : (cs : List Call) (rs : List Record) (port : ℕ) (slot : Slot) (octets output : List ℕ)
      → (sum_at (does cs (own (echoes rs port slot octets output))).moves 10 ≡ 0 → ⊥) → ⊥
  forwarding_a_reply cs rs port slot octets output wrong =
      wrong
      (ap (λ o. sum_at o.moves 10) (kept cs (own (echoes rs port slot octets output)))
      ∙ reply_counts_no_receipt (seat_after 0 cs) rs port slot octets output 10 (omega arith))

  -- and it answers no request to an address of many that no port has ("goes to a broadcast or multicast address gets none"),
  pub answering_many : (cs : List Call) (rs : List Record) (port : ℕ) (slot : Slot) (octets output : List ℕ)
      → equals_port (relay_with (seat_after 0 cs) rs) (aim_at (relay_with (seat_after 0 cs) rs) port octets) ≡ false
      → goes_to_many (relay_with (seat_after 0 cs) rs) (aim_at (relay_with (seat_after 0 cs) rs) port octets) ≡ true
      → is_made (does cs (own (echoes rs port slot octets output))).answer ≡ true → ⊥
  answering_many cs rs port slot octets output apart many wrong =
      let c = own (echoes rs port slot octets output) in
      let r = relay_with (seat_after 0 cs) rs in
      let y = ((answered_exactly (seat_after 0 cs) rs port octets (length output)).0 (ap is_made (sym (answers cs c)) ∙ wrong)).request in
      let none : (equals_port r (aim_at r port octets) || not (goes_to_many r (aim_at r port octets))) ≡ false =
      ap (λ (t : Bool). t || not (goes_to_many r (aim_at r port octets))) apart ∙ ap not many in
      true_false (sym y.to_one ∙ none)

  -- nor any while they are dropped ("A setting that drops all requests").
  pub answering_dropped : (cs : List Call) (rs : List Record) (port : ℕ) (slot : Slot) (octets output : List ℕ)
      → ((seat_after 0 cs).board.drop ≡ 0 → ⊥) → is_made (does cs (own (echoes rs port slot octets output))).answer ≡ true → ⊥
  answering_dropped cs rs port slot octets output dropping wrong =
      let c = own (echoes rs port slot octets output) in
      dropping ((answered_exactly (seat_after 0 cs) rs port octets (length output)).0 (ap is_made (sym (answers cs c)) ∙ wrong)).request.taken

  -- But it does answer,
  pub answering_nobody : ((cs : List Call) (c : Call) → is_made (does cs c).answer ≡ false) → ⊥
  answering_nobody wrong = true_false (sym (ap is_made (answers begun pinged ∙ cases.echoed)) ∙ wrong begun pinged)

  -- and once dropping is on, that request no more.
  pub answering_always : ((cs : List Call) (rs : List Record) (port : ℕ) (slot : Slot) (octets output : List ℕ)
      → (does (cs ++ operator (orders (set_drop 1)) ∷ []) (own (echoes rs port slot octets output))).answer ≡ (does cs (own (echoes rs port slot octets output))).answer)
      → ⊥
  answering_always wrong =
      let same = wrong begun (all_routes 0) 4 (record { 0 = 1 }) ping (replicate 1500 0) in
      let ports : ◌≡◌ {A = ℕ} 0 1 =
      ap ports_of (sym (answers (begun ++ operator (orders (set_drop 1)) ∷ []) pinged ∙ cases.unechoed) ∙ same ∙ answers begun pinged ∙ cases.echoed) in
      omega arith

-- ---- what histories leave
module _ (leaves : List Call → State) (kept : (cs : List Call) → leaves cs ≡ state_after 0 cs) where
  -- It does not leave every queue as it was, whatever is heard first.
  pub entering_nothing :
      ((settings : List Order) (rs : List Record) (port : ℕ) (slot : Slot) (second : ℕ) (octets output : List ℕ) (p : ℕ)
      → (queue_at (leaves (ordered settings ++ own (hears rs port slot second octets output) ∷ [])).mission p).count
      ≡ (queue_at (leaves (ordered settings)).mission p).count)
      → ⊥
  entering_nothing wrong =
      let same = wrong (router_with_ports 0) (all_routes 0) 4 (record { 0 = 1 }) 0 (datagram 10 4 9 14 0) (replicate output_room 0) 3 in
      let left : (cs : List Call) → (queue_at (leaves cs).mission 3).count ≡ (queue_at (seat_after 0 cs).mission 3).count =
      λ cs. ap (λ s. (queue_at s.mission 3).count) (kept cs) in
      let none : ◌≡◌ {A = ℕ} 1 0 = sym cases.waits.1 ∙ sym (left (waiting_for_d 1)) ∙ same ∙ left (waiting_for_d 0) ∙ cases.waits.0 in omega arith

  -- Nor every counter.
  pub counting_nothing :
      ((settings : List Order) (rs : List Record) (port : ℕ) (slot : Slot) (second : ℕ) (octets output : List ℕ) (i : ℕ)
      → counter_in (leaves (ordered settings ++ own (hears rs port slot second octets output) ∷ [])).counters i
      ≡ counter_in (leaves (ordered settings)).counters i)
      → ⊥
  counting_nothing wrong =
      let same = wrong (router_with_ports 0) (all_routes 0) 4 (record { 0 = 1 }) 0 (datagram 10 4 9 14 0) (replicate output_room 0) 0 in
      let left : (cs : List Call) → counter_in (leaves cs).counters 0 ≡ counter_in (state_after 0 cs).counters 0 =
      λ cs. ap (λ s. counter_in s.counters 0) (kept cs) in
      let none : ◌≡◌ {A = ℕ} 1 0 = sym cases.receipts.1 ∙ sym (left (waiting_for_d 1)) ∙ same ∙ left (waiting_for_d 0) ∙ cases.receipts.0 in omega arith

  -- So it does not do nothing.
  pub doing_nothing : ((cs : List Call) (c : Call) → leaves (cs ++ c ∷ []) ≡ leaves cs) → ⊥
  doing_nothing wrong =
      counting_nothing
      (λ settings rs port slot second octets output i. ap (λ s. counter_in s.counters i) (wrong (ordered settings) (own (hears rs port slot second octets output))))

  -- Nor does it have counts other than those that the rules give over the history.
  pub inventing_counts : (cs : List Call) (i : ℕ) → i < 18 → (counter_in (leaves cs).counters i ≡ tally 0 cs i % 2 ^ 32 → ⊥) → ⊥
  inventing_counts cs i inside wrong = wrong (ap (λ s. counter_in s.counters i) (kept cs) ∙ counters i inside 0 cs)
