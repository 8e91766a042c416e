-- Wrong relays for two customers (page 02, W-208, W-214, W-207 and W-203), each told by what it would give back to C. None of them is a relay whose calls keep
-- their contracts: for each there are steps after which it would have to give back something else. That there are such steps at all, for any words to begin
-- with, is demand 1. Assumes nothing.
use native.Mathlib.Omega.{arith}
use Prim.Native.Nat.{ℕ, ◌+◌, ◌*◌, ◌%◌, ◌^◌, ◌<◌}
use mathlib.Core.Path.{◌≡◌, refl, sym, ap, ◌∙◌}
use mathlib.Core.Bool.{Bool, true, ◌&&◌}
use mathlib.Core.Logic.{◌≢◌}
use mathlib.Core.List.{List, [], ◌∷◌, ◌++◌, map, append-nil}
use lib.ListN.{replicate, take, drop, take-append-drop}
use lib.Dec.{ltb}
use borrow.Author.Tests.{ltb-true}
use Rattle.checks.specs.Answer.{refusal_number}
use Rattle.checks.proofs.Bools.{true_false, and_true}
use Rattle.queue.specs.Order.{Each}
use Rattle.address.specs.Mask.{mask_of}
use Rattle.address.specs.Octets.{dotted}
use Rattle.address.specs.declared.Slot.{Slot}
use Rattle.judge.specs.Ending.{output_room}
use Rattle.octets.specs.Octets.{octets}
use Rattle.header.specs.Build.{second_octet, third_octet, addresses_octets, qos_octets, octet_octets, stamp_octets, rest_octets, size_of}
use Rattle.header.specs.Form.{bit_weight}
use Rattle.header.specs.Read.{header_of, read_of}
use Rattle.header.specs.declared.Header.{Header}
use Rattle.header.proofs.Refusals.{read_good}
use Rattle.meaning.specs.Flood.{pair_of}
use Rattle.meaning.specs.Names.{flood_routing}
use Rattle.records.specs.Held.{holds_pair}
use Rattle.floods.specs.Memory.{is_held, free_place, sought_pair}
use Rattle.next_leg.specs.Leg.{next_fields}
use Rattle.page.specs.Table.{one_octet, lies_far, aim_at, broadcast_of_ours, some_port, broadcast_of, equals_port}
use Rattle.page.specs.Replies.{goes_to_many}
use Rattle.replies.specs.Replied.{call_checks}
use Rattle.sets.specs.Sets.{in_set}
use Rattle.routes.specs.Records.{empty_record}
use Rattle.routes.specs.declared.Record.{Record}
use Rattle.records.specs.SetUp.{is_set_up}
use Rattle.state.specs.Seen.{owned_at, fresh_state}
use Rattle.state.specs.Layout.{fresh_board_words, fresh_words}
use Rattle.state.proofs.Fresh.{fresh_board_length, fresh_length}
use Rattle.tally.specs.Tally.{counter_for, counted_at}
use Rattle.harpjuniper_relay.specs.Face.{counter_answer, waiting_answer}
use Rattle.contracts.specs.Promised.{Result}
use Rattle.contracts.specs.Stated.{Says}
use Rattle.contracts.proofs.Answers.{each_call_answers}
use Rattle.contracts.proofs.Kept.{get_d_each}
use Rattle.answers.specs.Answers.{part_at}
use Rattle.history.specs.Calls.{Order, set_router, set_port, set_drop, set_route, orders, MissionCall, hears, echoes, takes, looks, counter, waiting, Call, own}
use Rattle.history.specs.Marked.{port, router_with_ports, route, all_routes, datagram}
use Rattle.history.specs.Ranges.{Octets}
use Rattle.history.proofs.Marked.{opened}
use Rattle.history.specs.Outcome.{Answer, number, ended, replied, entry}
use Rattle.history.proofs.WrongRelays.{ended_by_lem, ping, cases}
use Rattle.demands.specs.Trace.{Customer, first, second, Step, operates, flies, step_of, Words, mission_of, made, words_after, history_of, board_of, relay_for, Passes, AllPass, Gives}
use Rattle.demands.specs.ReadOut.{ended_by, onward_in, took_in, data_from, header_out, wire_by, counter_at}
use Rattle.demands.specs.Demand1.{NoBoard}
use Rattle.demands.proofs.Traced.{history_more}
use Rattle.demands.proofs.Lasts.{passable, gives_lasts}
use Rattle.demands.proofs.Told.{gives_row, order_told}
use Rattle.demands.proofs.Output.{told}
use Rattle.demands.proofs.Demand1.{demand_1}
use Rattle.demands.proofs.Demand2.{demand_2}
use Rattle.demands.proofs.ReadOut.{read_out_lem}
use Rattle.demands.proofs.Echoes.{echoes_hold}
use Rattle.demands.proofs.Over.{pass_more}
use Rattle.demands.proofs.Apart.{apart}

-- ---- steps that can be made
abbrev pub blank : Words
blank = record { board = fresh_board_words; zero = fresh_words 0; one = fresh_words 0 }

given : (steps : List Step) → AllPass steps → (c : Step) → Passes c → (x : Result) × Gives steps c x
given steps all c fits =
    let g = gives_lasts blank fresh_board_length (fresh_length 0) (fresh_length 0) steps all c fits in
    (g.0, g.1.0)

abbrev orders_of_lem : List Order → List Step
orders_of_lem os = map (λ (o : Order). operates (orders o)) os

-- one port, which is the second customer's
abbrev theirs : List Step
theirs = orders_of_lem (port 1 0 ∷ [])

theirs_pass : AllPass theirs
theirs_pass = ((omega arith, (omega arith, (omega arith, (omega arith, tt)))), tt)

-- five ports, which are the first customer's; and a datagram that it hears, of which port 3 takes an entry
abbrev pub ours : List Step
ours = orders_of_lem (router_with_ports 0)

abbrev hearing : MissionCall
hearing = hears (all_routes 0) 4 (record { 0 = 1 }) 0 (datagram 10 4 9 14 0) (replicate output_room 0)

abbrev heard : List Step
heard = ours ++ (flies first hearing ∷ [])

-- port 0 is in the domain 10.4.9, and port 1, to which all is routed, is not; and a datagram by port 0 to system 14 of its domain from system 16, in one octet
-- each, of six octets that are all header
abbrev two_domains : List Step
two_domains = orders_of_lem (set_router 1 ∷ set_port 0 (record { 0 = dotted 10 4 9 2 }) (record { 0 = mask_of 24 }) 1500 0 ∷ port 0 1 ∷ [])

abbrev narrow : List ℕ
narrow = 32 ∷ 6 ∷ (4 * 16 + bit_weight 20 + bit_weight 22) ∷ bit_weight 25 ∷ 14 ∷ 16 ∷ []

abbrev narrowly : MissionCall
narrowly = hears (route 0 1 0 0 ∷ []) 0 (record { 0 = 1 }) 0 narrow (replicate output_room 0)

-- a flooded datagram to 192.0.2.1 from 172.16.4.2, of sixteen octets that are all header: as `datagram`, with a timestamp of three octets, the last of them
-- this one; and it comes in by this port
abbrev flooding : ℕ → List ℕ
flooding stamp =
    32 ∷ 16
    ∷ (4 * 16 + bit_weight 20 + bit_weight 22)
    ∷ (bit_weight 25 + bit_weight 28 + bit_weight 30 + bit_weight 31)
    ∷ 192 ∷ 0 ∷ 2 ∷ 1
    ∷ 172 ∷ 16 ∷ 4 ∷ 2
    ∷ (flood_routing * 4)
    ∷ 0 ∷ 0 ∷ stamp
    ∷ []

abbrev flood : ℕ → ℕ → MissionCall
flood at stamp = hears [] at (record { 0 = 1 }) 0 (flooding stamp) (replicate output_room 0)

abbrev flooded : List Step
flooded = ours ++ (flies first (flood 4 9) ∷ [])

-- ---- the other's ports
-- It does not hand out, or find empty, whatever port is set up, whosever it is.
pub seeing_the_others_port :
    ((who : Customer) (steps : List Step) (p : ℕ) (x : Result) → is_set_up (owned_at (board_of steps) p).port ≡ true → Gives steps (flies who (takes p)) x
    → x.answer ≡ refusal_number 16 → ⊥)
    → ⊥
unfolding opened
seeing_the_others_port wrong =
    let g = given theirs theirs_pass (flies first (takes 0)) tt in
    wrong first theirs 0 g.0 refl g.1 ((demand_2.takings first theirs 0 g.0 g.1).0.1 refl)

-- It does not take a route of one customer's to the other's port.
pub routing_to_the_others_port :
    ((steps : List Step) (rs : List Record) (i prefix mask p mission : ℕ) (x : Result)
    → Gives steps (operates (orders (set_route rs i prefix mask p 1 0 mission))) x → mission < 2 → x.answer ≡ 24 → ⊥)
    → ⊥
unfolding opened
routing_to_the_others_port wrong =
    let o = set_route (empty_record ∷ []) 0 0 0 0 1 0 0 in
    let g = given theirs theirs_pass (operates (orders o)) tt in
    wrong theirs (empty_record ∷ []) 0 0 0 0 0 g.0 g.1 (omega arith) (order_told first theirs g.0 o g.1).0

-- It does not write a port twice.
pub writing_a_port_again :
    ((steps : List Step) (o : Order) (x : Result) → Gives steps (operates (orders o)) x → x.answer ≡ 35 → ⊥)
    → ⊥
unfolding opened
writing_a_port_again wrong =
    let g = given theirs theirs_pass (operates (orders (port 0 0))) (theirs_pass.0.0, (theirs_pass.0.1.0, (theirs_pass.0.1.1.0, (omega arith, tt)))) in
    wrong theirs (port 0 0) g.0 g.1 (order_told first theirs g.0 (port 0 0) g.1).0

-- ---- what the other does
-- No call of the other customer's, put between a customer's own, shows in what this one is given back.
pub showing_the_others_calls : (who other : Customer) → who ≢ other → (steps : List Step) (c : MissionCall) (d : Call) (x y : Result)
    → Gives steps (step_of who d) x → Gives (steps ++ (flies other c ∷ [])) (step_of who d) y → (x ≡ y → ⊥) → ⊥
showing_the_others_calls who other differ steps c d x y g k wrong =
    let more = steps ++ (flies other c ∷ []) in
    wrong (apart.same_next who steps more (sym (history_more who steps (flies other c ∷ []) ∙ left_out who other differ)) d x y g k)
  where
    left_out : (who other : Customer) → who ≢ other → history_of who steps ++ history_of who (flies other c ∷ []) ≡ history_of who steps
    left_out first first differ = absurd (differ refl)
    left_out first second differ = append-nil (history_of first steps)
    left_out second first differ = append-nil (history_of second steps)
    left_out second second differ = absurd (differ refl)

-- ---- what is each customer's own
port_passes : (p : ℕ) → p < 8 → Passes (operates (orders (port 0 p)))
port_passes p h = (omega (arith, h), (omega arith, (omega arith, (omega arith, tt))))

pub ports_pass : AllPass ours
ports_pass =
    (tt, (port_passes 0 (omega arith), (port_passes 1 (omega arith), (port_passes 2 (omega arith), (port_passes 3 (omega arith), last_passes)))))
  where
    last_passes : AllPass (operates (orders (port 0 4)) ∷ [])
    last_passes = (port_passes 4 (omega arith), tt)

-- numbers that a test finds to be octets
abbrev pub all_octets : List ℕ → Bool
all_octets [] = true
all_octets (n ∷ l) = ltb n 256 && all_octets l

octets_so : (l : List ℕ) → all_octets l ≡ true → Each (λ (n : ℕ). n < 256) l
octets_so [] h = tt
octets_so (n ∷ l) h = let both = and_true (ltb n 256) (all_octets l) h in (ltb-true n 256 both.0, octets_so l both.1)

pub octets_pass : (l : List ℕ) → all_octets l ≡ true → Octets l
octets_pass l h i = get_d_each (λ (n : ℕ). n < 256) l i 0 (omega arith) (octets_so l h)

hearing_passes : Passes (flies first hearing)
hearing_passes = (omega arith, (octets_pass (datagram 10 4 9 14 0) refl, omega arith))

heard_pass : AllPass heard
heard_pass = pass_more ours (flies first hearing) ports_pass hearing_passes

-- It does not keep one queue for both: what the first customer heard does not wait for the second.
pub sharing_queues :
    ((steps : List Step) (p : ℕ) (x y : Result) → Gives steps (flies first (looks (waiting p))) x → Gives steps (flies second (looks (waiting p))) y
    → x.answer ≡ y.answer)
    → ⊥
unfolding opened waiting_answer
sharing_queues wrong =
    let g = given heard heard_pass (flies first (looks (waiting 3))) tt in
    let k = given heard heard_pass (flies second (looks (waiting 3))) tt in
    let one : g.0.answer ≡ 1 = (gives_row first heard (own (looks (waiting 3))) g.0 g.1).answer in
    let none : k.0.answer ≡ 0 = (gives_row second heard (own (looks (waiting 3))) k.0 k.1).answer in
    let same : ◌≡◌ {A = ℕ} 1 0 = sym one ∙ wrong heard 3 g.0 k.0 g.1 k.1 ∙ none in omega arith

-- Nor one set of counters: npInReceives counts it for the first alone.
pub sharing_counters :
    ((steps : List Step) (i : ℕ) (x y : Result) → Gives steps (flies first (looks (counter i))) x → Gives steps (flies second (looks (counter i))) y
    → x.answer ≡ y.answer)
    → ⊥
unfolding opened counter_answer fresh_state counter_for counted_at
sharing_counters wrong =
    let g = given heard heard_pass (flies first (looks (counter 0))) tt in
    let k = given heard heard_pass (flies second (looks (counter 0))) tt in
    let one : g.0.answer ≡ 1 = (gives_row first heard (own (looks (counter 0))) g.0 g.1).answer in
    let none : k.0.answer ≡ 0 = (gives_row second heard (own (looks (counter 0))) k.0 k.1).answer in
    let same : ◌≡◌ {A = ℕ} 1 0 = sym one ∙ wrong heard 0 g.0 k.0 g.1 k.1 ∙ none in omega arith

-- ---- what goes out (page 02, W-214)
domains_pass : AllPass two_domains
domains_pass = (tt, ((omega arith, (omega arith, (omega arith, (omega arith, tt)))), (port_passes 1 (omega arith), tt)))

-- It does not send one-octet addresses into another domain as they came.
pub sending_one_octet_addresses_on :
    ((steps : List Step) (rs : List Record) (at p : ℕ) (slot : Slot) (when : ℕ) (octets output : List ℕ) (x : Result)
    → Gives steps (flies first (hears rs at slot when octets output)) x → in_set p (took_in x) ≡ true
    → one_octet (header_of octets).fields.addresses ≡ true → lies_far (relay_for first steps rs) at p ≡ true
    → header_out x p ≡ take (data_from x) octets)
    → ⊥
unfolding opened size_of second_octet third_octet rest_octets addresses_octets qos_octets octet_octets stamp_octets octets next_fields
sending_one_octet_addresses_on wrong =
    let rs = route 0 1 0 0 ∷ [] in
    let slot : Slot = record { 0 = 1 } in
    let output : List ℕ = replicate output_room 0 in
    let g = given two_domains domains_pass (flies first narrowly) (omega arith, (octets_pass narrow refl, omega arith)) in
    let x = g.0 in
    let took : in_set 1 (took_in x) ≡ true = ap (in_set 1) (told first two_domains rs 0 slot 0 narrow output x g.1).took in
    let as-it-came = wrong two_domains rs 0 1 slot 0 narrow output x g.1 took refl refl in
    let wire = demand_2.on_the_wire first two_domains rs 0 slot 0 narrow output x g.1 refl 1 (omega arith) took in
    let came : wire_by x narrow 1 ≡ narrow = ap (λ (l : List ℕ). l ++ drop (data_from x) narrow) as-it-came ∙ take-append-drop (data_from x) narrow in
    let same = ((read_good narrow wire.goes).0 (sym (ap read_of came) ∙ wire.reads)).1 in
    true_false (wire.domain (ap (λ (h : Header). one_octet h.fields.addresses) same))

-- ---- what is flooded (page 02, W-207)
nine_passes : (at : ℕ) → Passes (flies first (flood at 9))
nine_passes at = (omega arith, (octets_pass (flooding 9) refl, omega arith))

flooded_pass : AllPass flooded
flooded_pass = pass_more ours (flies first (flood 4 9)) ports_pass (nine_passes 4)

-- It does not forget pairs, and so send on again what comes again by another port.
pub forgetting_pairs :
    ((steps : List Step) (p q : ℕ) (slot : Slot) (when : ℕ) (octets output : List ℕ) (x y : Result)
    → Gives steps (flies first (hears [] p slot when octets output)) x → onward_in x ≡ 1
    → Gives (steps ++ (flies first (hears [] p slot when octets output) ∷ [])) (flies first (hears [] q slot when octets output)) y → onward_in y ≡ 1)
    → ⊥
unfolding opened pair_of holds_pair is_held free_place sought_pair
forgetting_pairs wrong =
    let slot : Slot = record { 0 = 1 } in
    let output : List ℕ = replicate output_room 0 in
    let g = given ours ports_pass (flies first (flood 4 9)) (nine_passes 4) in
    let k = given flooded flooded_pass (flies first (flood 3 9)) (nine_passes 3) in
    let goes : onward_in g.0 ≡ 1 = (told first ours [] 4 slot 0 (flooding 9) output g.0 g.1).onward in
    let stays : onward_in k.0 ≡ 0 = (told first flooded [] 3 slot 0 (flooding 9) output k.0 k.1).onward in
    let again = wrong ours 4 3 slot 0 (flooding 9) output g.0 k.0 g.1 goes k.1 in omega (arith, stays, again)

-- It does not tell pairs by their addresses alone, and so keep back what has another timestamp.
pub pairing_by_addresses :
    ((steps : List Step) (p : ℕ) (slot : Slot) (when : ℕ) (s t output : List ℕ) (x y : Result)
    → Gives steps (flies first (hears [] p slot when s output)) x → onward_in x ≡ 1
    → (header_of t).fields.addresses ≡ (header_of s).fields.addresses
    → Gives (steps ++ (flies first (hears [] p slot when s output) ∷ [])) (flies first (hears [] p slot when t output)) y → onward_in y ≡ 0)
    → ⊥
unfolding opened pair_of holds_pair is_held free_place sought_pair
pairing_by_addresses wrong =
    let slot : Slot = record { 0 = 1 } in
    let output : List ℕ = replicate output_room 0 in
    let g = given ours ports_pass (flies first (flood 4 9)) (nine_passes 4) in
    let k = given flooded flooded_pass (flies first (flood 4 10)) (omega arith, (octets_pass (flooding 10) refl, omega arith)) in
    let goes : onward_in g.0 ≡ 1 = (told first ours [] 4 slot 0 (flooding 9) output g.0 g.1).onward in
    let other : onward_in k.0 ≡ 1 = (told first flooded [] 4 slot 0 (flooding 10) output k.0 k.1).onward in
    let Kept-back = wrong ours 4 slot 0 (flooding 9) (flooding 10) output g.0 k.0 g.1 goes refl k.1 in omega (arith, other, Kept-back)

-- ---- what is answered (page 02, W-203)
-- an echo request that the first customer's port 4 hears, and port 0 sends the reply to; and the same steps with requests dropped
abbrev request : MissionCall
request = echoes (all_routes 0) 4 (record { 0 = 1 }) ping (replicate 1500 0)

abbrev dropping : List Step
dropping = ours ++ (operates (orders (set_drop 1)) ∷ [])

request_passes : Passes (flies first request)
request_passes = (omega arith, octets_pass ping refl)

dropping_pass : AllPass dropping
dropping_pass = pass_more ours (operates (orders (set_drop 1))) ports_pass tt

-- what is read out of an answer to it
abbrev answered : Answer → ℕ × ℕ
answered (number n) = (n, 0)
answered (ended refusal local onward took) = (refusal, onward)
answered (replied refusal onward took) = (refusal, onward)
answered (entry e) = (0, 0)

-- It does not answer a request that is dropped.
pub answering_though_dropped :
    ((steps : List Step) (rs : List Record) (at : ℕ) (slot : Slot) (octets output : List ℕ) (x y : Result)
    → Gives steps (flies first (echoes rs at slot octets output)) x → onward_in x ≡ 1
    → Gives (steps ++ (operates (orders (set_drop 1)) ∷ [])) (flies first (echoes rs at slot octets output)) y → onward_in y ≡ 1)
    → ⊥
unfolding opened
answering_though_dropped wrong =
    let slot : Slot = record { 0 = 1 } in
    let output : List ℕ = replicate 1500 0 in
    let g = given ours ports_pass (flies first request) request_passes in
    let k = given dropping dropping_pass (flies first request) request_passes in
    let goes : onward_in g.0 ≡ 1 = ap (λ (a : Answer). (answered a).1) (read_out_lem first ours (own request) g.0 g.1 ∙ cases.echoed) in
    let ends : ended_by k.0 ≡ 0 = ap (λ (a : Answer). (answered a).0) (read_out_lem first dropping (own request) k.0 k.1 ∙ cases.unechoed) in
    let again = wrong ours (all_routes 0) 4 slot ping output g.0 k.0 g.1 goes k.1 in
    let is = ((echoes_hold.answers first dropping (all_routes 0) 4 slot ping output k.0 k.1 refl).answered ends).0 (λ z. omega (arith, again, z)) in
    let off : ◌≡◌ {A = ℕ} 1 0 = is.taken in omega (arith, off)

-- the same request to 172.16.4.255, which is a broadcast of the net of port 4
abbrev to_all : List ℕ
to_all = take 7 ping ++ (255 ∷ drop 8 ping)

-- Nor one to a broadcast address that is no port's own.
pub answering_broadcasts :
    ((steps : List Step) (rs : List Record) (at : ℕ) (slot : Slot) (octets output : List ℕ) (x : Result)
    → Gives steps (flies first (echoes rs at slot octets output)) x → ended_by x ≡ 0
    → goes_to_many (relay_for first steps rs) (aim_at (relay_for first steps rs) at octets) ≡ true → onward_in x ≢ 0)
    → ⊥
unfolding opened call_checks broadcast_of_ours some_port broadcast_of equals_port
answering_broadcasts wrong =
    let slot : Slot = record { 0 = 1 } in
    let output : List ℕ = replicate 1500 0 in
    let g = given ours ports_pass (flies first (echoes (all_routes 0) 4 slot to_all output)) (omega arith, octets_pass to_all refl) in
    let is = echoes_hold.answers first ours (all_routes 0) 4 slot to_all output g.0 g.1 refl in
    let ends : ended_by g.0 ≡ 0 = is.refusal.0.1 (refl, (refl, tt)) in
    let told = (is.answered ends).0 (wrong ours (all_routes 0) 4 slot to_all output g.0 g.1 ends refl) in
    true_false (sym told.to_one)

-- It does not count a reply in npForwDatagrams.
pub forwarding_replies :
    ((steps : List Step) (rs : List Record) (at : ℕ) (slot : Slot) (octets output : List ℕ) (x : Result)
    (g : Gives steps (flies first (echoes rs at slot octets output)) x) → onward_in x ≡ 1
    → counter_at (mission_of first (words_after g.before (flies first (echoes rs at slot octets output)) x)) 10
    ≡ (counter_at (mission_of first g.before) 10 + 1) % 2 ^ 32)
    → ⊥
forwarding_replies wrong =
    let slot : Slot = record { 0 = 1 } in
    let output : List ℕ = replicate 1500 0 in
    let g = given ours ports_pass (flies first request) request_passes in
    let goes : onward_in g.0 ≡ 1 = ap (λ (a : Answer). (answered a).1) (read_out_lem first ours (own request) g.0 g.1 ∙ cases.echoed) in
    let more = wrong ours (all_routes 0) 4 slot ping output g.0 g.1 goes in
    let none = echoes_hold.counts first ours (all_routes 0) 4 slot ping output g.0 g.1 10 (omega arith) in
    modulo (counter_at (mission_of first g.1.before) 10) (sym none ∙ more)
  where
    modulo : (n : ℕ) → (n + 0) % 2 ^ 32 ≡ (n + 1) % 2 ^ 32 → ⊥
    modulo n e = omega (arith, e)

-- ---- the order of tests
-- It does not look at the words before the list: of one that is too long it says 21, not 16.
pub words_before_the_list :
    ((w : Words) (rs : List Record) (p : ℕ) (slot : Slot) (when : ℕ) (octets output : List ℕ) (x : Result) → NoBoard w.board
    → Says (made w (flies first (hears rs p slot when octets output))) x → x.answer ≡ 16)
    → ⊥
words_before_the_list wrong =
    let w : Words = record { board = []; zero = []; one = [] } in
    let rs = replicate 513 empty_record in
    let c = hears rs 0 (record { 0 = 0 }) 0 [] [] in
    let a = each_call_answers (made w (flies first c)) (passable w (flies first c) (omega arith, (λ i. omega arith, omega arith))) in
    let short = wrong w rs 0 (record { 0 = 0 }) 0 [] [] a.0 (λ e. true_false cc) a.1 in
    let long = (demand_1.long_lists w first (own c) a.0 refl a.1).0 in
    let same : ◌≡◌ {A = ℕ} 16 21 = sym (ap (λ (n : ℕ). part_at 0 n) short) ∙ ended_by_lem long in omega arith
