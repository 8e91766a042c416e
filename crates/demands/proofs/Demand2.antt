-- Demand 2 is kept. Assumes nothing.
use native.Mathlib.Omega.{arith}
use Prim.Native.Nat.{ℕ, ◌+◌, ◌-◌, ◌^◌, ◌<◌, ◌≤◌}
use mathlib.Core.Path.{◌≡◌, refl, sym, ap, ap₂, subst, ◌∙◌}
use mathlib.Core.Logic.{◌⊎◌, ◌↔◌, ◌≢◌, ⊎_elim}
use mathlib.Core.Bool.{Bool, true, false, ◌&&◌, ◌||◌, not}
use mathlib.Core.List.{List, [], ◌∷◌, ◌++◌}
use lib.ListN.{length, take, drop, replicate}
use lib.Dec.{eqb}
use borrow.Author.Tests.{eq-eqb, ne_eqb, eqb-true, eqb-false, ltb-false}
use Rattle.header.specs.Read.{Read, read_checks, header_of, read_of}
use Rattle.header.proofs.Answers.{read_bounds}
use Rattle.history.specs.SearchBack.{LongestOrNo}
use Rattle.history.proofs.SearchBack.{search_names_the_longest}
use Rattle.address.specs.Class.{class_of}
use Rattle.address.proofs.ClassTable.{class_row}
use Rattle.checks.specs.Order.{pick, Checks, first_of, NoneHolds, FirstHolds}
use Rattle.checks.specs.Answer.{refusal_number}
use Rattle.checks.proofs.Bools.{true_false, refuted, and_true, or_true}
use Rattle.refusals.proofs.Chains.{Decided, decided}
use Rattle.sets.specs.Limits.{port_count}
use Rattle.sets.specs.Sets.{in_set}
use Rattle.address.specs.declared.Slot.{Slot}
use Rattle.header.specs.Build.{size_of}
use Rattle.header.specs.Limits.{longest_header, most_data, lacks_room, too_much_data}
use Rattle.header.specs.declared.Header.{Header}
use Rattle.checks.specs.Told.{Good, Refused}
use Rattle.header.proofs.Beyond.{agree_up_to_the_length}
use Rattle.header.proofs.BuiltLaws.{built_size}
use Rattle.header.specs.Shortest.{NoneShorter}
use Rattle.header.proofs.Shortest.{shortest_exactly}
use Rattle.numbers.specs.Fields.{fields_from}
use Rattle.numbers.specs.InWords.{numbers_words, numbers_from}
use Rattle.numbers.specs.Words.{Words}
use Rattle.numbers.specs.declared.Numbers.{Numbers}
use Rattle.numbers.proofs.in_words.Halves.{numbers_again}
use Rattle.next_leg.specs.Leg.{rewrites, next_fields, next_size, next_length, next_header, header_for}
use Rattle.next_leg.proofs.ReadBack.{next_length_parts, read_next}
use Rattle.queue.specs.Order.{Each}
use Rattle.queue.specs.Waits.{Chosen, nobody, one, chosen, rank_by}
use Rattle.queue.specs.declared.Entry.{Entry}
use Rattle.queue.proofs.Each.{each_so}
use Rattle.queue.proofs.Waits.{EachOf, chosen_each, chosen_nobody}
use Rattle.routes.specs.declared.Record.{Record}
use Rattle.records.specs.Held.{is_free}
use Rattle.routes.proofs.Longest.{Contiguous}
use Rattle.state.specs.Relay.{Memory, Relay, pair_at, port_in, port_set_up}
use Rattle.state.specs.Seen.{Board, State}
use Rattle.floods.specs.Sweep.{is_old, swept, sweep_checks, swept_memory}
use Rattle.floods.proofs.Swept.{old_is, young_stays, free_after}
use Rattle.taking.specs.Taking.{take_outcome, Taking}
use Rattle.judge.specs.Ending.{refused_by, or_else, call_checks, octets_ending, ruled_ending, arrival_at, ending_of}
use Rattle.judge.specs.declared.Ending.{Ending}
use Rattle.judge.specs.Remembered.{octets_memory, memory_of}
use Rattle.relay.specs.Received.{heard_ending, heard_memory, received_state}
use Rattle.lent_state.specs.View.{Lent, Held, lent, too_long}
use Rattle.lent_state.proofs.Same.{lent_injective}
use Rattle.answers.specs.Answers.{receive_number, taking_number}
use Rattle.harpjuniper.specs.Face.{Reading, reading_of, reading_words, reading_count, data_read, fields_out, numbers_checks, build_answer, build_output}
use Rattle.harpjuniper.proofs.Promises.{fields_in, hj_build_then_hj_read}
use Rattle.harpjuniper.proofs.RoundTrip as trip
use Rattle.page.specs.Table.{has_room, lies_far, verdict_of, more_ones, GivenBy, step_rows, local_rows, aim_at}
use Rattle.page.specs.Ends.{HeadersAs}
use Rattle.page.proofs.Exactly.{took_exactly, dropped_exactly}
use Rattle.page.proofs.Exactly as exactly
use Rattle.page.proofs.Headers.{headers_are_the_page}
use Rattle.page.proofs.Sought.{sought_taken, sought_no_route}
use Rattle.page.proofs.Verdict.{ending_by_steps, verdict_is_the_page, ones_choose}
use Rattle.contracts.specs.Promised.{Result, hj_read_words, hj_build_words}
use Rattle.contracts.proofs.Answers.{each_call_answers}
use Rattle.contracts.proofs.Rows.{says_row}
use Rattle.history.specs.Calls.{
  Order,
  set_router,
  set_port,
  set_lifetime,
  set_drop,
  set_route,
  clear_route,
  orders,
  views,
  port_word,
  router_flag,
  lifetime_word,
  drop_flag,
  record_word,
  Setting,
  set_group,
  set_path,
  clear_group,
  clear_path,
  group_word,
  path_word,
  sets,
  hears,
  takes,
  sweeps,
  looks,
  Call,
  operator,
  own,
  order_checks,
  board_left,
  checks_of,
  settle,
}
use Rattle.history.specs.Calls as look
use Rattle.history.specs.Seat.{Seat, fresh_seat, state_of, heard_by, memory_by}
use Rattle.history.specs.Outcome.{entry, of_taking, outcome, next, run_from, seat_after}
use Rattle.history.specs.Parts.{Part, the_router, the_port, the_lifetime, the_drop, the_group, the_path, About, setting_in}
use Rattle.history.specs.Line.{Copy, entry_of, taking_of, line_at}
use Rattle.history.specs.Marked.{Marked, marked_cases}
use Rattle.history.specs.Ranges.{Octets, EntryFits, CopyFits}
use Rattle.history.proofs.Domain.{WasRead, set_up_small, NamesTheSame, waiting_copies_name_the_same}
use Rattle.history.proofs.Heard.{heard_is}
use Rattle.history.proofs.Holds.{holds_until_changed}
use Rattle.history.proofs.Keys.{keys_unique}
use Rattle.history.proofs.Marked.{marked_cases_lem}
use Rattle.history.proofs.Ranges.{in_range, waiting_fits, taken_fits}
use Rattle.history.proofs.Meaning.{has_passed, arrival_set_up, stays_near, names_the_same}
use Rattle.history.proofs.Reach.{kept_after, reached}
use Rattle.history.proofs.ReadBack.{ReadBack}
use Rattle.listing.proofs.Counting.{seen_contiguous}
use Rattle.history.proofs.Takes.{take_is, is_port}
use Rattle.demands.specs.Trace.{Customer, first, second, number_of, Step, flies, mission_of, history_of, board_of, seat_of, relay_of, relay_for, Gives}
use Rattle.demands.specs.ReadOut.{own_out, took_in, dropped_in, own_in, memory_in, asks_for, part_told, Reads, Builds, header_out, wire_by}
use Rattle.demands.specs.Demand2.{ToldAs, Answered, DecidedBy, SweptAs, Demand2, ExactlyAs, WrittenAs, OnTheWire, GoesOut}
use Rattle.demands.proofs.Promised.{next_state}
use Rattle.demands.proofs.Held.{reading_left, reading_answer, build_answer_lem, build_output_lem}
use Rattle.demands.proofs.Traced.{history_more, board_is, held_words}
use Rattle.demands.proofs.Told.{gives_row, gives_board, counters, setting_told, order_told}
use Rattle.demands.proofs.Fitting.{history_passed}
use Rattle.demands.proofs.ReadOut.{told_refusal, told_value, read_out_lem}
use Rattle.demands.proofs.Output.{told, was, takes_some, header_found, as_many, others_stay}
use Rattle.demands.proofs.Remembers.{before_memory, page_memory_lem, sweep_memory, sweep_own}

-- ---- reading
reads : (s : List ℕ) → Reads s (reading_of (read_of s))
reads s =
    let lent : List ℕ = replicate reading_count 0 in
    let a = each_call_answers (hj_read_words s lent) tt in
    let row = says_row (hj_read_words s lent) a.0 a.1 in
    (a.0, (a.1, (row.answer ∙ reading_answer (reading_of (read_of s)), row.numbers ∙ reading_left (read_of s))))

-- the words of a reading, and its refusal, are the reading
abbrev reading : ℕ → ℕ → ℕ → Numbers → Reading
reading refusal length header fields = record { refusal = refusal; length = length; header = header; fields = fields }

same_parts : {n n' l l' k k' : ℕ} {f f' : Numbers} → n ≡ n' → l ≡ l' → k ≡ k' → f ≡ f' → reading n l k f ≡ reading n' l' k' f'
same_parts e f g h = rw (e, f, g, h)

cons_parts : (a b : ℕ) (l m : List ℕ) → (a ∷ l) ≡ (b ∷ m) → (a ≡ b) × (l ≡ m)
cons_parts a b l m e = (cc, cc)

same_reading : (r q : Reading) → r.refusal ≡ q.refusal → reading_words r ≡ reading_words q → r ≡ q
unfolding reading_words
same_reading r q e w =
    let one = cons_parts r.length q.length (r.header ∷ numbers_words r.fields) (q.header ∷ numbers_words q.fields) w in
    let two = cons_parts r.header q.header (numbers_words r.fields) (numbers_words q.fields) one.1 in
    same_parts e one.0 two.0 (sym (numbers_again r.fields) ∙ ap numbers_from two.1 ∙ numbers_again q.fields)

read_is : (s : List ℕ) (r : Reading) → Reads s r → r ≡ reading_of (read_of s)
read_is s r h =
    let row = says_row (hj_read_words s (replicate reading_count 0)) h.0 h.1.0 in
    same_reading r (reading_of (read_of s))
    (sym h.1.1.0 ∙ row.answer ∙ reading_answer (reading_of (read_of s)))
    (sym h.1.1.1 ∙ row.numbers ∙ reading_left (read_of s))

reads_as : (s : List ℕ) (r : Reading) → reading_of (read_of s) ≡ r → Reads s r
reads_as s r e = rw (← e) (reads s)

refusal_case : (n : ℕ) (h : Header) (t : Bool) → eqb n 0 ≡ t → (reading_of (pick t (Good h) (Refused n))).refusal ≡ n
unfolding reading_of
refusal_case n h true e = sym (eqb-true n 0 e)
refusal_case n h false e = refl

refusal_is : (s : List ℕ) → (reading_of (read_of s)).refusal ≡ first_of (read_checks s)
unfolding read_of
refusal_is s = let n = first_of (read_checks s) in refusal_case n (header_of s) (eqb n 0) refl

reader_decided : (s : List ℕ) → Decided (read_checks s)
unfolding read_checks
reader_decided s = decided (read_checks s) refl

-- ---- an answer that is this number
by_answer : {a m : ℕ} → a ≡ m → (n : ℕ) {P : Type 0} → (m ≡ n) ↔ P → (a ≡ n) ↔ P
by_answer {a} {m} said n by = (λ e. by.0 (sym said ∙ e), λ p. said ∙ by.1 p)

-- ---- building
module _ (fields : Numbers) (size : ℕ) where
  builds : (lent : List ℕ) → Builds fields size lent (build_answer fields size (length lent)) (build_output fields size lent)
  builds lent =
      let c = hj_build_words (numbers_words fields) size lent in
      let a = each_call_answers c tt in
      let row = says_row c a.0 a.1 in
      (a.0, (a.1, (row.answer ∙ build_answer_lem fields size (length lent), row.output ∙ build_output_lem fields size lent)))

  build_is : (lent left : List ℕ) (answer : ℕ) → Builds fields size lent answer left
      → (answer ≡ build_answer fields size (length lent)) × (left ≡ build_output fields size lent)
  build_is lent left answer h =
      let row = says_row (hj_build_words (numbers_words fields) size lent) h.0 h.1.0 in
      (sym h.1.1.0 ∙ row.answer ∙ build_answer_lem fields size (length lent), sym h.1.1.1 ∙ row.output ∙ build_output_lem fields size lent)

  abbrev checks : ℕ → Checks
  checks room = (lacks_room room, 17) ∷ (fields_out fields, 19) ∷ (too_much_data size, 20) ∷ []

  -- a header has at most 50 octets
  module _ (words : Words fields) (room : ℕ) where
    built_small : first_of (numbers_checks fields size room) ≡ 0 → size_of (fields_from fields) < 2 ^ 32
    unfolding numbers_checks
    built_small z =
        let none = (decided (checks room) refl).0.0 z in
        let most = (built_size (fields_from fields) (fields_in fields words none.1.0)).1 in
        omega (arith, most)

    refused_is : (n : ℕ) → n ≢ 0 → (build_answer fields size room ≡ refusal_number n) ↔ FirstHolds (numbers_checks fields size room) n
    unfolding build_answer numbers_checks
    refused_is n some =
        let m = first_of (checks room) in
        let is = told_refusal n m (size_of (fields_from fields)) (eqb m 0) refl built_small some in
        let by = (decided (checks room) refl).1 n some in
        (λ e. by.0 (is.0 e), λ h. is.1 (by.1 h))

    -- where the answer is below 2^32, nothing was refused
    passed : build_answer fields size room < 2 ^ 32 → NoneHolds (checks room)
    unfolding build_answer numbers_checks
    passed low =
        let m = first_of (checks room) in
        (decided (checks room) refl).0.0
        (told_value m (size_of (fields_from fields)) (eqb m 0) refl low)

build_then_read : (fields : Numbers) (size : ℕ) (lent left user_data : List ℕ) (answer : ℕ) → Words fields → Builds fields size lent answer left
    → answer < 2 ^ 32 → size ≤ length user_data
    → Reads (take answer left ++ user_data) (record { refusal = 0; length = answer + size; header = answer; fields = fields })
build_then_read fields size lent left user_data answer words built low enough =
    let is = build_is fields size lent left answer built in
    let none = passed fields size words (length lent) (rw is.0 at low) in
    let room = ltb-false (length lent) longest_header none.0 in
    let few = ltb-false most_data size none.1.1.0 in
    reads_as _ _ (rw (is.0, is.1) (hj_build_then_hj_read fields words size lent user_data room none.1.0 few enough))

read_then_build : (s : List ℕ) (r : Reading) (lent : List ℕ) → Octets s → Reads s r → r.refusal ≡ 0 → data_read r ≤ most_data
    → longest_header ≤ length lent → NoneShorter s
    → Builds r.fields (data_read r) lent r.header (take r.header s ++ drop r.header lent)
read_then_build s r lent octets h good few room short =
    let is = read_is s r h in
    let back = trip.read_then_build s octets r is good ((shortest_exactly s octets).1 short) few lent room in
    let b = builds r.fields (data_read r) lent in
    (b.0, (b.1.0, (b.1.1.0 ∙ back.0, b.1.1.1 ∙ back.1)))

-- ---- settings
decided_by : (checks : Checks) → Decided checks → (answer : ℕ) → answer ≡ first_of checks → DecidedBy checks answer
decided_by checks by answer said = (λ n some. by_answer said n (by.1 n some), by_answer said 0 by.0)

orders_decided : (b : Board) (o : Order) → Decided (order_checks b o)
orders_decided b (set_router x) = decided (order_checks b (set_router x)) refl
orders_decided b (set_port p address mask mtu mission) = decided (order_checks b (set_port p address mask mtu mission)) refl
orders_decided b (set_lifetime x) = decided (order_checks b (set_lifetime x)) refl
orders_decided b (set_drop x) = decided (order_checks b (set_drop x)) refl
orders_decided b (set_route rs i prefix mask port availability capabilities mission) =
    decided (order_checks b (set_route rs i prefix mask port availability capabilities mission)) refl
orders_decided b (clear_route rs i) = decided (order_checks b (clear_route rs i)) refl

settings_decided : (r : Relay) (s : Setting) → Decided (checks_of r s)
settings_decided r (set_group i address send subscribed) = decided (checks_of r (set_group i address send subscribed)) refl
settings_decided r (set_path i path send here) = decided (checks_of r (set_path i path send here)) refl
settings_decided r (clear_group i) = decided (checks_of r (clear_group i)) refl
settings_decided r (clear_path i) = decided (checks_of r (clear_path i)) refl

run_both : (cs ds : List Call) (x : Seat) → run_from x (cs ++ ds) ≡ run_from (run_from x cs) ds
run_both [] ds x = refl
run_both (c ∷ cs) ds x = run_both cs ds (next x c)

settings_hold : (who : Customer) (steps later : List Step) (part : Part) → Each (λ (c : Call). About c part → ⊥) (history_of who later)
    → setting_in (seat_of who (steps ++ later)) part ≡ setting_in (seat_of who steps) part
settings_hold who steps later part others =
    let n = number_of who in
    ap (λ (cs : List Call). setting_in (seat_after n cs) part) (history_more who steps later)
    ∙ ap (λ (x : Seat). setting_in x part) (run_both (history_of who steps) (history_of who later) (fresh_seat n))
    ∙ holds_until_changed part (history_of who later) (seat_of who steps) others

settings_back : (who : Customer) (steps : List Step) (part : Part) (word : ℕ) (x : Result) → Gives steps (asks_for who part word) x
    → x.answer ≡ part_told (seat_of who steps) part word
settings_back who steps the_router word x g = (gives_row who steps (operator (views router_flag)) x g).answer
settings_back who steps (the_port p) word x g = (gives_row who steps (operator (views (port_word p word))) x g).answer
settings_back who steps the_lifetime word x g = (gives_row who steps (operator (views lifetime_word)) x g).answer
settings_back who steps the_drop word x g = (gives_row who steps (operator (views drop_flag)) x g).answer
settings_back who steps (the_group i) word x g = (gives_row who steps (own (looks (group_word i word))) x g).answer
settings_back who steps (the_path i) word x g = (gives_row who steps (own (looks (path_word i word))) x g).answer

-- ---- takings
module _ (line : List Copy) where
  told_16 : (t : Bool) (c : Chosen Copy) → EachOf (rank_by entry_of) CopyFits c
      → (taking_number (taking_of t c) ≡ refusal_number 16) ↔ (t ≡ false)
  told_16 false c fits = (λ e. refl, λ e. refl)
  told_16 true nobody fits = (λ e. absurd (omega (arith, e)), λ e. true_false e)
  told_16 true (one x others) fits = (λ e. absurd (omega (arith, e, fits.0.0.0, fits.0.0.1)), λ e. true_false e)

  told_18 : (t : Bool) (c : Chosen Copy) → chosen (rank_by entry_of) line ≡ c → EachOf (rank_by entry_of) CopyFits c
      → (taking_number (taking_of t c) ≡ refusal_number 18) ↔ ((t ≡ true) × (line ≡ []))
  told_18 false c is fits = (λ e. absurd (omega (arith, e)), λ h. true_false (sym h.0))
  told_18 true nobody is fits = (λ e. (refl, (chosen_nobody (rank_by entry_of) line).0 is), λ h. refl)
  told_18 true (one x others) is fits = (
    λ e. absurd (omega (arith, e, fits.0.0.0, fits.0.0.1)),
    λ h. true_false (cc (is, (chosen_nobody (rank_by entry_of) line).1 h.1)),
  )

-- ---- a datagram that is not refused was read
size_read : (r : Relay) (at when : ℕ) (octets : List ℕ) (room : ℕ) → (ending_of r at when octets room).refusal ≡ 0
    → (ending_of r at when octets room).size ≡ (header_of octets).size
size_read r at when octets room z =
    let n = first_of (step_rows r at when octets room) in
    let is = ending_by_steps r at when octets room in
    ap (λ (e : Ending). e.size) is ∙ by (eqb n 0) n refl (sym (ap (λ (e : Ending). e.refusal) is) ∙ z)
  where
    by : (t : Bool) (n : ℕ) → eqb n 0 ≡ t → (pick t (ruled_ending r (arrival_at r at) (header_of octets)) (refused_by n)).refusal ≡ 0
        → (pick t (ruled_ending r (arrival_at r at) (header_of octets)) (refused_by n)).size ≡ (header_of octets).size
    by true n e z = refl
    by false n e z = absurd (eqb-false n 0 e z)

-- ---- after a trace
module _ (who : Customer) (steps : List Step) where
  abbrev h : List Call
  h = history_of who steps

  abbrev m : ℕ
  m = number_of who

  abbrev seat : Seat
  seat = seat_of who steps

  abbrev r : Relay
  r = relay_of who steps

  -- a datagram
  module _ (rs : List Record) (at : ℕ) (slot : Slot) (when : ℕ) (octets output : List ℕ) (x : Result) (g : Gives steps (flies who (hears rs at slot when octets output)) x) where
    abbrev e : Ending
    e = heard_by seat rs at when octets (length output)

    answered : ReadBack x.answer e
    answered = told who steps rs at slot when octets output x g

    -- with a list that is not too long: page 01's relay, as the customer sees it
    module _ (short : too_long rs ≡ false) where
      abbrev q : Relay
      q = relay_for who steps rs

      abbrev p : Ending
      p = ending_of q at when octets (length output)

      is : e ≡ p
      is = heard_is seat rs at when octets (length output) false short

      seen : ReadBack x.answer p
      seen = subst (ReadBack x.answer) is answered

      contiguous : Contiguous q.routes
      contiguous = seen_contiguous seat.board rs seat.number

      told_as : ToldAs octets x (verdict_of q at when octets (length output))
      told_as =
          let page = verdict_is_the_page q contiguous at when octets (length output) in
          record {
            refusal = seen.refusal ∙ page.refusal;
            local = seen.local ∙ page.ruling.local;
            onward = seen.onward ∙ page.ruling.onward;
            took = λ i inside. ap (in_set i) seen.took ∙ page.ruling.took i inside;
            dropped = λ i inside. ap (in_set i) seen.dropped ∙ page.ruling.dropped i inside;
            data_from_lem = λ z. seen.size ∙ size_read q at when octets (length output) (sym seen.refusal ∙ z);
            above = answered.above;
            alone = λ some. answered.alone (λ z. some (answered.refusal ∙ z)) ∙ sym answered.refusal;
          }

      exactly_as : ExactlyAs q at when octets (length output) x
      exactly_as =
          record {
            refusal = subst (GivenBy (step_rows q at when octets (length output))) (sym seen.refusal) (exactly.refusal_exactly q at when octets (length output));
            local = λ none.
                subst (GivenBy (local_rows q at (aim_at q at octets) (header_of octets).fields)) (sym seen.local)
                (exactly.local_exactly q at when octets (length output) none);
            onward = λ none n.
                by_answer seen.onward n
                (exactly.onward_exactly q at when octets (length output) more_ones (ones_choose q contiguous) none n);
          }

      granted : (i : ℕ) → i < port_count → (in_set i (took_in x) || in_set i (dropped_in x)) ≡ true → in_set i p.ruling.granted ≡ true
      granted i inside some =
          ⊎_elim
          (λ took.
          (and_true (in_set i p.ruling.granted) (has_room q i)
          (sym (took_exactly q at when octets (length output) i inside) ∙ ap (in_set i) (sym seen.took) ∙ took)).0)
          (λ dropped.
          (and_true (in_set i p.ruling.granted) (not (has_room q i))
          (sym (dropped_exactly q at when octets (length output) i inside) ∙ ap (in_set i) (sym seen.dropped) ∙ dropped)).0)
          (or_true (in_set i (took_in x)) (in_set i (dropped_in x)) some)

      abbrev code : ℕ
      code = (verdict_of q at when octets (length output)).code

      headers : HeadersAs q at octets p (verdict_of q at when octets (length output))
      headers = headers_are_the_page q contiguous at when octets (length output)

      in_took : (i : ℕ) → in_set i (took_in x) ≡ true → in_set i p.ruling.took ≡ true
      in_took i took = ap (in_set i) (sym seen.took) ∙ took

      header_is : (i : ℕ) → i < port_count → in_set i (took_in x) ≡ true → header_out x i ≡ next_header (lies_far q at i) (port_in q at).address.0 code octets
      header_is i inside took =
          header_found who steps rs at slot when octets output x g i (ap (in_set i) (sym answered.took) ∙ took)
          ∙ ap (λ (y : Ending). header_for y.legs octets i) is
          ∙ headers.header i inside (in_took i took)

      written_as : WrittenAs q at octets output code x
      written_as =
          record {
            header = header_is;
            rewritten = λ i inside.
                ap (in_set i) seen.rewritten
                ∙ headers.rewritten i inside
                ∙ ap (λ (took : ℕ). in_set i took && rewrites (lies_far q at i) code (header_of octets).fields) (sym seen.took);
            as_many = as_many who steps rs at slot when octets output x g;
            others = others_stay who steps rs at slot when octets output x g;
          }

      verdict : ToldAs octets x (verdict_of q at when octets (length output)) × (ExactlyAs q at when octets (length output) x × WrittenAs q at octets output code x)
      verdict = (told_as, (exactly_as, written_as))

      -- what goes out by port i
      module _ (i : ℕ) (inside : i < port_count) (took : in_set i (took_in x) ≡ true) where
        abbrev far : Bool
        far = lies_far q at i

        abbrev arrival : ℕ
        arrival = (port_in q at).address.0

        was_read : WasRead octets e
        was_read =
            was who steps rs at slot when octets output x g
            (takes_some who steps rs at slot when octets output x g i (ap (in_set i) (sym answered.took) ∙ took))

        abbrev k : Header
        k = was_read.header

        grants : in_set i p.ruling.granted ≡ true
        grants = granted i inside (ap (λ (t : Bool). t || in_set i (dropped_in x)) took)

        -- the arrival port is set up, and so has an address of 32 bits
        arrival-small : arrival < 2 ^ 32
        arrival-small =
            set_up_small seat (kept_after m h) at
            (arrival_set_up more_ones q (ones_choose q contiguous) i inside at when octets (length output) k was_read.read grants)

        on_the_wire : OnTheWire q at i octets code (wire_by x octets i)
        on_the_wire =
            let fits = has_passed more_ones q (ones_choose q contiguous) i inside at when octets (length output) k was_read.read grants in
            let names = names_the_same more_ones q (ones_choose q contiguous) i inside at when octets (length output) k was_read.read grants in
            record {
              came = k;
              read = was_read.read;
              goes = record { fields = next_fields far arrival code k.fields; length = next_length far arrival code k; size = next_size far arrival code k };
              reads = rw (header_is i inside took, answered.size, was_read.size)
                  (read_next far arrival code octets k g.passes.1.0 arrival-small was_read.read fits.short);
              aim = names.0;
              origin = names.1;
              domain = stays_near more_ones q (ones_choose q contiguous) i inside at when octets (length output) k was_read.read grants;
              fields = refl;
              long = next_length_parts far arrival code k (read_bounds octets k g.passes.1.0 was_read.read).1.1.0;
              fits = fits.mtu;
            }

  -- two datagrams that are read alike
  module _ (rs : List Record) (at : ℕ) (slot : Slot) (when : ℕ) (output : List ℕ) where
    abbrev ending : List ℕ → Ending
    ending octets = heard_by seat rs at when octets (length output)

    read_alike : (s t : List ℕ) → read_of t ≡ read_of s → ending t ≡ ending s
    unfolding heard_ending ending_of
    read_alike s t same =
        let q = relay_for who steps rs in
        ap (λ (z : Read). or_else (pick (too_long rs) 21 0) (or_else (first_of (call_checks q at when (length output))) (octets_ending q (arrival_at q at) z))) same

    remembers_alike : (s t : List ℕ) → read_of t ≡ read_of s
        → memory_by seat rs at when t (length output) ≡ memory_by seat rs at when s (length output)
    unfolding heard_memory memory_of
    remembers_alike s t same =
        let q = relay_for who steps rs in
        ap
        (λ (z : Read).
        pick (too_long rs) seat.memory
        (pick (eqb (first_of (call_checks q at when (length output))) 0) (octets_memory q (arrival_at q at) when z) seat.memory)) same

    hears_alike : (s t : List ℕ) (x y : Result) → read_of t ≡ read_of s → Gives steps (flies who (hears rs at slot when s output)) x
        → Gives steps (flies who (hears rs at slot when t output)) y → (y.answer ≡ x.answer) × (y.left.mission ≡ x.left.mission)
    hears_alike s t x y same g k =
        let one = gives_row who steps (own (hears rs at slot when s output)) x g in
        let two = gives_row who steps (own (hears rs at slot when t output)) y k in
        let is = read_alike s t same in
        let left : Memory → Ending → Lent State =
        λ (k : Memory) (e : Ending). Held (received_state seat.board (state_of seat (counters who steps)) slot k e) in (
          two.answer ∙ ap receive_number is ∙ sym one.answer,
          lent_injective y.left.mission x.left.mission (two.mission ∙ ap₂ left (remembers_alike s t same) is ∙ sym one.mission),
        )

  -- a setting of the customer's
  set_left : (s : Setting) (x : Result) → lent x.left.mission ≡ Held (next_state seat (counters who steps) (own (sets s)))
      → own_in x.left.mission ≡ (settle r s).mission
  set_left s x is =
      ap (λ (t : State). t.mission) (held_words x.left.mission (next_state seat (counters who steps) (own (sets s))) is).1

  settled : (s : Setting) (x : Result) → Gives steps (flies who (sets s)) x → own_in x.left.mission ≡ (settle r s).mission
  settled (set_group i address send subscribed) x g =
      let s = set_group i address send subscribed in
      set_left s x (gives_row who steps (own (sets s)) x g).mission
  settled (set_path i path send here) x g = set_left (set_path i path send here) x (gives_row who steps (own (sets (set_path i path send here))) x g).mission
  settled (clear_group i) x g = set_left (clear_group i) x (gives_row who steps (own (sets (clear_group i))) x g).mission
  settled (clear_path i) x g = set_left (clear_path i) x (gives_row who steps (own (sets (clear_path i))) x g).mission

  -- a take
  module _ (p : ℕ) (x : Result) (g : Gives steps (flies who (takes p)) x) where
    fits : EachOf (rank_by entry_of) CopyFits (chosen (rank_by entry_of) (line_at p m h))
    fits = chosen_each (rank_by entry_of) CopyFits (line_at p m h) (waiting_fits p m h (history_passed who steps g.begun.passed))

    handed : x.answer ≡ taking_number (taking_of (port_set_up r p) (chosen (rank_by entry_of) (line_at p m h)))
    handed = (gives_row who steps (own (takes p)) x g).answer ∙ ap taking_number (take_is m h p)

    takings : ((x.answer ≡ refusal_number 16) ↔ (port_set_up r p ≡ false))
        × ((x.answer ≡ refusal_number 18) ↔ ((port_set_up r p ≡ true) × (line_at p m h ≡ [])))
    takings = (
      by_answer handed (refusal_number 16) (told_16 (line_at p m h) (port_set_up r p) (chosen (rank_by entry_of) (line_at p m h)) fits),
      by_answer handed (refusal_number 18) (told_18 (line_at p m h) (port_set_up r p) (chosen (rank_by entry_of) (line_at p m h)) refl fits),
    )

    taken_entry : (t : Taking) (e : Entry) → (of_taking p t).answer ≡ entry e → t ≡ Good e
    taken_entry (Good y) e is = let same : y ≡ e = cc in ap Good same
    taken_entry (Refused n) e is = true_false cc

    takings_fit : (e : Entry) → own_out (takes p) x.answer ≡ entry e → EntryFits e
    takings_fit e is =
        taken_fits p m h (history_passed who steps g.begun.passed) e (taken_entry (take_outcome r p) e (sym (read_out_lem who steps (own (takes p)) x g) ∙ is))

    -- the copy that goes out
    same_header : (a b : Header) → Good a ≡ Good b → a ≡ b
    same_header a b e = cc

    goes_case : (up : Bool) → port_set_up r p ≡ up → (c : Chosen Copy) → chosen (rank_by entry_of) (line_at p m h) ≡ c → (e : Entry)
        → taking_of up c ≡ Good e → GoesOut r p (line_at p m h) e
    goes_case false is c out e handed = true_false cc
    goes_case true is nobody out e handed = true_false cc
    goes_case true is (one c others) out e handed =
        let inside = is_port r p is in
        let names = (rw out at (chosen_each (rank_by entry_of) (NamesTheSame (port_in r p)) (line_at p m h) (waiting_copies_name_the_same p inside m h (history_passed who steps g.begun.passed)))).0 in
        record {
          copy = c;
          others = others;
          first = out;
          entry = cc handed;
          came = names.came;
          read = names.read;
          goes = names.goes;
          reads = names.reads;
          domain = names.domain;
          aim = names.aim;
          origin = names.origin;
        }

    out_goes : (e : Entry) → own_out (takes p) x.answer ≡ entry e → GoesOut r p (line_at p m h) e
    out_goes e is =
        goes_case (port_set_up r p) refl (chosen (rank_by entry_of) (line_at p m h)) refl e
        (sym (take_is m h p) ∙ taken_entry (take_outcome r p) e (sym (read_out_lem who steps (own (takes p)) x g) ∙ is))

-- ---- a sweep
module _ (lifetime when : ℕ) (k : Memory) where
  -- one that is refused
  refused_sweep : first_of (sweep_checks k when) ≢ 0 → swept_memory lifetime when k ≡ k
  unfolding swept_memory
  refused_sweep some = rw (ne_eqb (first_of (sweep_checks k when)) 0 some)

  -- and one that is not
  module _ (taken : first_of (sweep_checks k when) ≡ 0) where
    taken_sweep : swept_memory lifetime when k ≡ swept lifetime when k
    unfolding swept_memory
    taken_sweep = rw (eq-eqb (first_of (sweep_checks k when)) 0 taken)

    taken_last : (swept_memory lifetime when k).last ≡ when
    unfolding swept
    taken_last = ap (λ (y : Memory). y.last) taken_sweep

    taken_frees : (i : ℕ) → is_free (pair_at k i) ≡ false
        → (is_free (pair_at (swept_memory lifetime when k) i) ≡ true) ↔ (lifetime < when - (pair_at k i).second)
    taken_frees i held =
        let x = pair_at k i in
        let old = is_old lifetime when x in
        let is : is_free (pair_at (swept_memory lifetime when k) i) ≡ (old || is_free x) =
        ap (λ (y : Memory). is_free (pair_at y i)) taken_sweep ∙ free_after lifetime when k i in (
          λ e. ⊎_elim (λ o. ((old_is lifetime when x).0 o).1) (λ f. true_false (sym f ∙ held)) (or_true old (is_free x) (sym is ∙ e)),
          λ l. is ∙ ap (λ (t : Bool). t || is_free x) ((old_is lifetime when x).1 (eqb-false x.pair.format 0 held, l)),
        )

    taken_leaves : (i : ℕ) → (is_free (pair_at k i) ≡ true) ⊎ (when - (pair_at k i).second ≤ lifetime) → pair_at (swept_memory lifetime when k) i ≡ pair_at k i
    taken_leaves i so =
        let x = pair_at k i in
        ap (λ (y : Memory). pair_at y i) taken_sweep
        ∙ young_stays lifetime when k i
        (refuted (is_old lifetime when x) (λ o.
        let is = (old_is lifetime when x).0 o in
        ⊎_elim (λ free. is.0 (eqb-true x.pair.format 0 free)) (λ young. omega (arith, is.1, young)) so))

module _ (who : Customer) (steps : List Step) (when : ℕ) (x : Result) (g : Gives steps (flies who (sweeps when)) x) where
  abbrev kept : Memory
  kept = (seat_of who steps).memory

  abbrev lifetime : ℕ
  lifetime = (seat_of who steps).board.lifetime

  answer : x.answer ≡ first_of (sweep_checks kept when)
  answer = (gives_row who steps (own (sweeps when)) x g).answer

  left : memory_in x.left.mission ≡ swept_memory lifetime when kept
  left = sweep_memory who steps when x g

  of_seat : SweptAs kept lifetime when x
  of_seat =
      record {
        decided = decided_by (sweep_checks kept when) (decided (sweep_checks kept when) refl) x.answer answer;
        refused = λ some. left ∙ refused_sweep lifetime when kept (λ z. some (answer ∙ z));
        last = λ z. ap (λ (k : Memory). k.last) left ∙ taken_last lifetime when kept (sym answer ∙ z);
        freed = λ z i held. rw left (taken_frees lifetime when kept (sym answer ∙ z) i held);
        others = λ z i so. ap (λ (k : Memory). pair_at k i) left ∙ taken_leaves lifetime when kept (sym answer ∙ z) i so;
      }

  swept_as : SweptAs (memory_in (mission_of who g.before)) (board_of steps).lifetime when x
  swept_as =
      subst (λ (k : Memory). SweptAs k (board_of steps).lifetime when x) (sym (before_memory who steps (flies who (sweeps when)) x g))
      (subst (λ (b : Board). SweptAs kept b.lifetime when x) (board_is who steps) of_seat)

-- ---- the marked cases
below_two : (who : Customer) → number_of who < 2
below_two first = omega arith
below_two second = omega arith

marked : (who : Customer) → Each (Answered who) (marked_cases (number_of who))
marked who =
    let n = number_of who in
    each_so {P = λ (c : Marked). (outcome (seat_after n c.calls) c.asked).answer ≡ c.answer} {Q = Answered who} (marked_cases n)
    (λ c is steps x same g. read_out_lem who steps c.asked x g ∙ ap (λ (cs : List Call). (outcome (seat_after n cs) c.asked).answer) same ∙ is)
    (marked_cases_lem n (below_two who))

-- ---- a search
short_search : (t : Bool) (n : ℕ) → t ≡ false → pick t 21 n ≡ n
short_search true n e = true_false e
short_search false n e = refl

pub demand_2 : Demand2
demand_2 =
    record {
      reads = reads;
      reads_refuses = λ s r read n some. by_answer (ap (λ (y : Reading). y.refusal) (read_is s r read) ∙ refusal_is s) n ((reader_decided s).1 n some);
      reads_no_further = λ s t n r long control AgreeAt read. reads_as t r (trip.hj_read_agrees s t n long control AgreeAt ∙ sym (read_is s r read));
      builds = builds;
      builds_refuses = λ fields size lent left answer n words built some.
          rw (build_is fields size lent left answer built).0 (refused_is fields size words (length lent) n some);
      builds_shortest = λ fields size lent left answer words octets built low.
          let is = build_is fields size lent left answer built in
          let small = rw is.0 at low in
          rw is.1 (trip.built_none_shorter fields words size lent octets small, (trip.built_is_shortest fields words size lent small).1);
      build_then_read = build_then_read;
      read_then_build = read_then_build;
      verdict = verdict;
      memory = page_memory_lem;
      sweeps = λ who steps when x g. (swept_as who steps when x g, sweep_own who steps when x g);
      hears_no_further = λ who steps rs at slot when s t output n x y long control AgreeAt g k.
          hears_alike who steps rs at slot when output s t x y (agree_up_to_the_length s t n long control AgreeAt) g k;
      on_the_wire = λ who steps rs at slot when octets output x g short p inside took. on_the_wire who steps rs at slot when octets output x g short p inside took;
      marked = marked;
      orders_follow = λ steps o x g.
          let told = order_told first steps x o g in (
            decided_by (order_checks (board_of steps) o) (orders_decided (board_of steps) o) x.answer told.0,
            (gives_board first steps (operator (orders o)) x g ∙ ap (λ (b : Board). board_left b o) (board_is first steps), told.1),
          );
      settings = λ who steps s x g. (
        decided_by (checks_of (relay_of who steps) s) (settings_decided (relay_of who steps) s) x.answer (setting_told who steps x s g),
        settled who steps s x g,
      );
      settings_hold = settings_hold;
      settings_back = settings_back;
      record_back = λ steps rs i word x g. (gives_row first steps (operator (views (record_word rs i word))) x g).answer;
      settings_good = λ who steps.
          let n = number_of who in
          let cs = history_of who steps in
          (reached n cs, (keys_unique n cs, in_range n cs));
      takings = takings;
      takings_fit = λ who steps p x e g. takings_fit who steps p x g e;
      route_taken = λ who steps rs at slot when octets output a p x g short sought inside some.
          let seat = seat_of who steps in
          sought_taken (relay_for who steps rs) at when octets (length output) a sought (seen_contiguous seat.board rs seat.number) p inside
          (granted who steps rs at slot when octets output x g short p inside some);
      no_route = λ who steps rs at slot when octets output a x g short sought.
          by_answer (seen who steps rs at slot when octets output x g short).onward 11 (sought_no_route (relay_for who steps rs) at when octets (length output) a sought);
      search = λ who steps rs a x g short.
          subst (LongestOrNo (relay_for who steps rs) a)
          (sym ((gives_row who steps (own (looks (look.search rs a))) x g).answer ∙ short_search (too_long rs) _ short))
          (search_names_the_longest (seat_of who steps) rs short a);
      class = λ who steps a x small g. (class_of a.0, ((gives_row who steps (own (looks (look.class a))) x g).answer, class_row a.0 small));
      domain = λ who steps p x e g. out_goes who steps p x g e;
    }
