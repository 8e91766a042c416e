-- How long a copy waits, over histories (page 02, W-213). The theorem is `foretold_over_histories`: take number k after the placing hands the copy
-- out exactly where k is r + h + 1 and that many takes are made. It is the law of lines (crate queue), since calls do to a port's line what deeds do.
-- Beside it: what is handed out is what the takes of the port answer (`answers_are_handed`, `foretold_answer`); r is what stands before the copy in the queue (`stands_behind`); refused calls and other ports' traffic count nothing
-- (`idle_counts_nothing`, `other_take_idle`, `refused_idle`); a call places at most one copy on a port (`taken_once`); and laws near to it are false
-- (`all_mistaken`). Assumes nothing.
use native.Mathlib.Omega.{arith}
use Prim.Native.Nat.{ℕ, suc, ◌+◌, ◌≤◌, ◌<◌, ◌*◌}
use mathlib.Core.Path.{◌≡◌, refl, sym, ap, ◌∙◌}
use mathlib.Core.Logic.{◌↔◌}
use mathlib.Core.Bool.{Bool, true, false}
use mathlib.Core.List.{List, [], ◌∷◌, ◌++◌, map, append-nil, append_assoc, map-append}
use lib.ListN.{length, length-append, length-map, replicate}
use lib.Dec.{eqb, ltb, leb}
use borrow.Author.Tests.{eqb-true, ne_eqb, eqb-false}
use Rattle.checks.specs.Order.{pick, first_of}
use Rattle.checks.proofs.Bools.{true_false}
use Rattle.checks.proofs.Laws.{either}
use Rattle.sets.specs.Sets.{in_set}
use Rattle.address.specs.Octets.{dotted}
use Rattle.address.specs.Class.{family_of, scps_class, class_in, class_of}
use Rattle.address.specs.Mask.{ones_below, ones_of, mask_form}
use Rattle.address.specs.declared.Slot.{Slot}
use Rattle.header.specs.Build.{checksum_octets}
use Rattle.header.specs.Onward.{lessened, sent_body, header_sent_on}
use Rattle.header.specs.Form.{control_of, forbidden, address_size, stamp_size, layout_of}
use Rattle.header.specs.Read.{addresses_of, qos_of, octet_of, length_of, fields_of, header_of, read_checks, read_of}
use Rattle.queue.specs.Order.{Each, insert_by, Placed}
use Rattle.queue.specs.Queue.{waiting, precedence_of, fresh as fresh_queue, put_of, take_of}
use Rattle.queue.specs.Waits.{Chosen, nobody, one, chosen, ordered, rank_by}
use Rattle.queue.specs.Foretold.{Deed, enters, hands_out, entered, takes_in, how_many, out, left, AtTake, handed, standing_before, Other, is_out, while_waits as while_line}
use Rattle.queue.proofs.Each.{each_so, each_append}
use Rattle.queue.proofs.Order.{insert_placed, insert_map}
use Rattle.queue.proofs.Waits.{chosen_asked, ordered_enters}
use Rattle.queue.proofs.Foretold.{foretold, stand_before}
use Rattle.networks.specs.Networks.{subnet_broadcast}
use Rattle.settings.specs.Refusals.{other_class, ones_refused, form_refused, port_mask_refused}
use Rattle.meaning.specs.Names.{aim_of, origin_of}
use Rattle.verdict.specs.Rule.{target_of, plain_line, line_of, granted_of, copies_of, ruling_of}
use Rattle.routes.specs.declared.Record.{Record}
use Rattle.records.specs.Owned.{seen_port}
use Rattle.state.specs.Relay.{queue_at, among_ports, port_set_up}
use Rattle.state.specs.Seen.{fresh_board, fresh_mission, fresh_memory, ports_seen}
use Rattle.survey.specs.Survey.{named_below, own_broadcast, survey_below}
use Rattle.taking.specs.Taking.{take_outcome, taken_relay, Taking}
use Rattle.checks.specs.Told.{Good, Refused}
use Rattle.floods.specs.Memory.{flood_of, remembering}
use Rattle.judge.specs.Ruling.{ruled_by, rule_target, rule_of, legs_for}
use Rattle.next_leg.specs.Leg.{rewrites, next_length, next_header, legs_of}
use Rattle.judge.specs.Ending.{ending_of, output_room, call_checks, header_ending}
use Rattle.judge.specs.Remembered.{header_memory, memory_of}
use Rattle.relay.specs.Outgoing.{entered_if, entered_all}
use Rattle.relay.specs.Received.{received_relay, heard_ending, heard_memory}
use Rattle.history.specs.Seat.{Seat, fresh_seat, relay_in}
use Rattle.history.specs.Calls.{
  set_router,
  set_port,
  OperatorCall,
  orders,
  views,
  Setting,
  Look,
  sets,
  hears,
  echoes,
  takes,
  sweeps,
  looks,
  Call,
  operator,
  own,
}
use Rattle.history.specs.Outcome.{is_refusal, Out, nothing, from, of_taking, outcome, next, run_from, seat_after, sum_from}
use Rattle.history.specs.Ledger.{one as one_if, out_by, handed_out}
use Rattle.history.specs.Line.{Copy, entry_of, taken_by, handed_by, left_by, line_by, line_from, taken_from, handed_from, line_at, taken_at, taking_of, times, InTurn}
use Rattle.history.specs.Foretold.{and_then, handed_since, takes_since, answered_by, answered_from, answered_since, before, Idle, is_handed, waits_from, higher_enter, CountsNothing, taken_since, while_waits}
use Rattle.history.proofs.Line.{queue_waits, taken_turn, taken_later, taken_in_turn, line_turns}
use Rattle.survey.proofs.Bits.{in_none}
use Rattle.history.proofs.Replying.{reply_took_none}
use Rattle.history.proofs.Untaken.{took_none}
use Rattle.history.proofs.Takes.{take_is}

abbrev rank : Copy → ℕ
rank = rank_by entry_of

abbrev turn_of : Copy → ℕ
turn_of x = x.turn

module _ (p : ℕ) where
  -- ---- calls are deeds: a handing out, then what enters
  abbrev out_deed : Out → List (Deed Copy)
  out_deed nothing = []
  out_deed (from q e) = pick (eqb q p) (hands_out ∷ []) []

  abbrev deeds_from : ℕ → Seat → List Call → List (Deed Copy)
  deeds_from n seat [] = []
  deeds_from n seat (c ∷ cs) = out_deed (outcome seat c).out ++ (map enters (taken_by p n seat c) ++ deeds_from (suc n) (next seat c) cs)

  -- ---- what enters
  entered_out : (o : Out) (es : List (Deed Copy)) → entered (out_deed o ++ es) ≡ entered es
  entered_out nothing es = refl
  entered_out (from q e) es = either (λ (ds : List (Deed Copy)). entered (ds ++ es) ≡ entered es) (eqb q p) refl refl

  entered_in : (ts : List Copy) (es : List (Deed Copy)) → entered (map enters ts ++ es) ≡ ts ++ entered es
  entered_in [] es = refl
  entered_in (y ∷ ts) es = ap (λ (l : List Copy). y ∷ l) (entered_in ts es)

  entered_deeds : (cs : List Call) (n : ℕ) (seat : Seat) → entered (deeds_from n seat cs) ≡ taken_from p n seat cs
  entered_deeds [] n seat = refl
  entered_deeds (c ∷ cs) n seat =
      entered_out (outcome seat c).out _
      ∙ entered_in (taken_by p n seat c) _
      ∙ ap (λ (l : List Copy). taken_by p n seat c ++ l) (entered_deeds cs (suc n) (next seat c))

  -- ---- the takes that hand out
  takes_out : (o : Out) (es : List (Deed Copy)) → takes_in (out_deed o ++ es) ≡ out_by p o + takes_in es
  takes_out nothing es = omega arith
  takes_out (from q e) es = by (eqb q p)
    where
      by : (t : Bool) → takes_in (pick t (hands_out ∷ []) [] ++ es) ≡ pick t 1 0 + takes_in es
      by true = omega arith
      by false = omega arith

  takes_in_lem : (ts : List Copy) (es : List (Deed Copy)) → takes_in (map enters ts ++ es) ≡ takes_in es
  takes_in_lem [] es = refl
  takes_in_lem (y ∷ ts) es = takes_in_lem ts es

  takes_deeds : (cs : List Call) (n : ℕ) (seat : Seat) → takes_in (deeds_from n seat cs) ≡ sum_from (handed_out p) seat cs
  takes_deeds [] n seat = refl
  takes_deeds (c ∷ cs) n seat =
      takes_out (outcome seat c).out _
      ∙ ap (λ (k : ℕ). out_by p (outcome seat c).out + k) (takes_in_lem (taken_by p n seat c) _ ∙ takes_deeds cs (suc n) (next seat c))

  -- ---- what is handed out
  none_wait : (line : List Copy) → chosen rank line ≡ nobody → line ≡ []
  none_wait line is = rw is at (chosen_asked rank line)

  handed_out_lem : (line : List Copy) (o : Out) (es : List (Deed Copy))
      → handed rank line (out_deed o ++ es) ≡ handed_by p o (chosen rank line) ++ handed rank (left_by p o line (chosen rank line)) es
  unfolding handed
  handed_out_lem line nothing es = refl
  handed_out_lem line (from q e) es = by (chosen rank line) refl
    where
      at_none : chosen rank line ≡ nobody → (t : Bool) → handed rank line (pick t (hands_out ∷ []) [] ++ es) ≡ handed rank line es
      at_none is true =
          ap (λ (c : Chosen Copy). out c ++ handed rank (left c) es) is ∙ ap (λ (l : List Copy). handed rank l es) (sym (none_wait line is))
      at_none is false = refl

      at_one : (y : Copy) (others : List Copy) → chosen rank line ≡ one y others → (t : Bool)
          → handed rank line (pick t (hands_out ∷ []) [] ++ es) ≡ pick t (y ∷ []) [] ++ handed rank (pick t others line) es
      at_one y others is true = ap (λ (c : Chosen Copy). out c ++ handed rank (left c) es) is
      at_one y others is false = refl

      by : (c : Chosen Copy) → chosen rank line ≡ c
          → handed rank line (out_deed (from q e) ++ es) ≡ handed_by p (from q e) c ++ handed rank (left_by p (from q e) line c) es
      by nobody is = at_none is (eqb q p)
      by (one y others) is = at_one y others is (eqb q p)

  handed_in : (ts line : List Copy) (es : List (Deed Copy)) → handed rank line (map enters ts ++ es) ≡ handed rank (line ++ ts) es
  unfolding handed
  handed_in [] line es = ap (λ (l : List Copy). handed rank l es) (sym (append-nil line))
  handed_in (y ∷ ts) line es = handed_in ts (line ++ (y ∷ [])) es ∙ ap (λ (l : List Copy). handed rank l es) (append_assoc line (y ∷ []) ts)

  handed_deeds : (cs : List Call) (n : ℕ) (seat : Seat) (line : List Copy) → handed rank line (deeds_from n seat cs) ≡ handed_from p n seat line cs
  unfolding handed
  handed_deeds [] n seat line = refl
  handed_deeds (c ∷ cs) n seat line =
      handed_out_lem line (outcome seat c).out _
      ∙ ap (λ (l : List Copy). handed_by p (outcome seat c).out (chosen rank line) ++ l)
      (handed_in (taken_by p n seat c) (left_by p (outcome seat c).out line (chosen rank line)) _ ∙ handed_deeds cs (suc n) (next seat c) (line_by p n seat c line))

  -- ---- while x waits
  module _ (x : Copy) where
    while_out : (line : List Copy) (o : Out) (es : List (Deed Copy))
        → while_line rank turn_of x line (out_deed o ++ es)
        ≡ pick (is_handed p x (handed_by p o (chosen rank line))) [] (out_deed o ++ while_line rank turn_of x (left_by p o line (chosen rank line)) es)
    unfolding while_line
    while_out line nothing es = refl
    while_out line (from q e) es = by (chosen rank line) refl
      where
        stops : Chosen Copy → List (Deed Copy)
        stops c = pick (is_out turn_of x c) [] (hands_out ∷ while_line rank turn_of x (left c) es)

        at_none : chosen rank line ≡ nobody → (t : Bool)
            → while_line rank turn_of x line (pick t (hands_out ∷ []) [] ++ es) ≡ pick t (hands_out ∷ []) [] ++ while_line rank turn_of x line es
        at_none is true = ap stops is ∙ ap (λ (l : List Copy). hands_out ∷ while_line rank turn_of x l es) (sym (none_wait line is))
        at_none is false = refl

        at_one : (y : Copy) (others : List Copy) → chosen rank line ≡ one y others → (t : Bool)
            → while_line rank turn_of x line (pick t (hands_out ∷ []) [] ++ es)
            ≡ pick (is_handed p x (pick t (y ∷ []) [])) [] (pick t (hands_out ∷ []) [] ++ while_line rank turn_of x (pick t others line) es)
        at_one y others is true = ap stops is
        at_one y others is false = refl

        by : (c : Chosen Copy) → chosen rank line ≡ c
            → while_line rank turn_of x line (out_deed (from q e) ++ es)
            ≡ pick (is_handed p x (handed_by p (from q e) c)) [] (out_deed (from q e) ++ while_line rank turn_of x (left_by p (from q e) line c) es)
        by nobody is = at_none is (eqb q p)
        by (one y others) is = at_one y others is (eqb q p)

    while_in : (ts line : List Copy) (es : List (Deed Copy))
        → while_line rank turn_of x line (map enters ts ++ es) ≡ map enters ts ++ while_line rank turn_of x (line ++ ts) es
    unfolding while_line
    while_in [] line es = ap (λ (l : List Copy). while_line rank turn_of x l es) (sym (append-nil line))
    while_in (y ∷ ts) line es =
        ap (λ (ds : List (Deed Copy)). enters y ∷ ds)
        (while_in ts (line ++ (y ∷ [])) es ∙ ap (λ (l : List Copy). map enters ts ++ while_line rank turn_of x l es) (append_assoc line (y ∷ []) ts))

    while_deeds : (cs : List Call) (n : ℕ) (seat : Seat) (line : List Copy)
        → while_line rank turn_of x line (deeds_from n seat cs) ≡ deeds_from n seat (waits_from p x n seat line cs)
    unfolding while_line
    while_deeds [] n seat line = refl
    while_deeds (c ∷ cs) n seat line =
        while_out line (outcome seat c).out _
        ∙ ap (λ (ds : List (Deed Copy)). pick (is_handed p x (handed_by p (outcome seat c).out (chosen rank line))) [] (out_deed (outcome seat c).out ++ ds))
        (while_in (taken_by p n seat c) (left_by p (outcome seat c).out line (chosen rank line)) _
        ∙ ap (λ (ds : List (Deed Copy)). map enters (taken_by p n seat c) ++ ds) (while_deeds cs (suc n) (next seat c) (line_by p n seat c line)))
        ∙ stops (is_handed p x (handed_by p (outcome seat c).out (chosen rank line))) _
      where
        stops : (t : Bool) (ds : List Call)
            → pick t [] (out_deed (outcome seat c).out ++ (map enters (taken_by p n seat c) ++ deeds_from (suc n) (next seat c) ds))
            ≡ deeds_from n seat (pick t [] (c ∷ ds))
        stops true ds = refl
        stops false ds = refl

  -- ---- a call that places a copy hands nothing out
  placing_hands_nothing : (n : ℕ) (seat : Seat) (c : Call) (x : Copy) → taken_by p n seat c ≡ x ∷ [] → (outcome seat c).out ≡ nothing
  placing_hands_nothing n seat (operator c) x is = absurd (omega (arith, ap length is))
  placing_hands_nothing n seat (own (sets s)) x is = refl
  placing_hands_nothing n seat (own (hears rs port slot second octets output)) x is = refl
  placing_hands_nothing n seat (own (echoes rs port slot octets output)) x is = refl
  placing_hands_nothing n seat (own (takes port)) x is = absurd (omega (arith, ap length is))
  placing_hands_nothing n seat (own (sweeps second)) x is = refl
  placing_hands_nothing n seat (own (looks l)) x is = refl

  placed_last : (n : ℕ) (seat : Seat) (c : Call) (x : Copy) (line : List Copy) → taken_by p n seat c ≡ x ∷ [] → line_by p n seat c line ≡ line ++ (x ∷ [])
  placed_last n seat c x line is =
      ap (λ (o : Out). left_by p o line (chosen rank line) ++ taken_by p n seat c) (placing_hands_nothing n seat c x is)
      ∙ ap (λ (l : List Copy). line ++ l) is

  -- ---- the law, from any line of which each has an earlier turn
  foretold_from : (n : ℕ) (seat : Seat) (line : List Copy) → Each (λ (y : Copy). y.turn < n) line → (c : Call) (x : Copy) → taken_by p n seat c ≡ x ∷ []
      → (ds : List Call) (k : ℕ)
      → AtTake k x (handed_from p (suc n) (next seat c) (line_by p n seat c line) ds)
      ↔ ((k
      ≡ standing_before rank x line
      + how_many (λ (y : Copy). ltb (rank x) (rank y)) (taken_from p (suc n) (next seat c) (waits_from p x (suc n) (next seat c) (line_by p n seat c line) ds))
      + 1)
      × (k ≤ sum_from (handed_out p) (next seat c) ds))
  foretold_from n seat line earlier c x is ds k =
      let deeds = deeds_from (suc n) (next seat c) ds in
      let here : x.turn ≡ n = (rw is at (taken_turn p n seat c)).0 in
      let others : Each (Other turn_of x) (line ++ entered deeds) =
      each_append (Other turn_of x) line (entered deeds)
      (each_so line (λ y h same. omega (arith, here)) earlier)
      (rw (entered_deeds ds (suc n) (next seat c)) (each_so (taken_from p (suc n) (next seat c) ds) (λ y h same. omega (arith, here)) (taken_later p ds (suc n) (next seat c)))) in
      rw (
        placed_last n seat c x line is,
        ← handed_deeds ds (suc n) (next seat c) (line ++ (x ∷ [])),
        ← takes_deeds ds (suc n) (next seat c),
        ← entered_deeds (waits_from p x (suc n) (next seat c) (line ++ (x ∷ [])) ds) (suc n) (next seat c),
        ← while_deeds x ds (suc n) (next seat c) (line ++ (x ∷ [])),
      )
      (foretold rank turn_of x line deeds others k)

  -- ---- a history and one call more
  line_then : (cs : List Call) (n : ℕ) (seat : Seat) (line : List Copy) (c : Call)
      → line_from p n seat line (and_then cs c) ≡ line_by p (n + length cs) (run_from seat cs) c (line_from p n seat line cs)
  line_then [] n seat line c = ap (λ (k : ℕ). line_by p k seat c line) (omega arith)
  line_then (d ∷ cs) n seat line c =
      line_then cs (suc n) (next seat d) (line_by p n seat d line) c
      ∙ ap (λ (k : ℕ). line_by p k (run_from seat (d ∷ cs)) c (line_from p n seat line (d ∷ cs))) (omega arith)

  line_at_then : (m : ℕ) (cs : List Call) (c : Call) → line_at p m (and_then cs c) ≡ line_by p (length cs) (seat_after m cs) c (line_at p m cs)
  line_at_then m cs c = line_then cs 0 (fresh_seat m) [] c ∙ ap (λ (k : ℕ). line_by p k (seat_after m cs) c (line_at p m cs)) (omega arith)

pub seat_then : (cs : List Call) (seat : Seat) (c : Call) → run_from seat (and_then cs c) ≡ next (run_from seat cs) c
seat_then [] seat c = refl
seat_then (d ∷ cs) seat c = seat_then cs (next seat d) c

length_then : (cs : List Call) (c : Call) → length (and_then cs c) ≡ suc (length cs)
length_then cs c = omega (arith, length-append cs (c ∷ []))

-- ---- what is handed out is what the takes answer
module _ (p m : ℕ) where
  handed_by_line : (cs : List Call) (q : ℕ) (t : Bool) (u : Bool) → eqb q p ≡ u → (a : Chosen Copy) → chosen rank (line_at q m cs) ≡ a
      → map entry_of (handed_by p (of_taking q (taking_of t a)).out (chosen rank (line_at p m cs))) ≡ answered_by p (own (takes q)) (of_taking q (taking_of t a)).answer
  handed_by_line cs q false u same a is = refl
  handed_by_line cs q true u same nobody is = refl
  handed_by_line cs q true true same (one y others) is =
      let here : chosen rank (line_at p m cs) ≡ one y others = ap (λ (k : ℕ). chosen rank (line_at k m cs)) (sym (eqb-true q p same)) ∙ is in
      rw (here, same) refl
  handed_by_line cs q true false same (one y others) is = rw same (other (chosen rank (line_at p m cs)))
    where
      other : (a : Chosen Copy) → map entry_of (handed_by p (from q y.entry) a) ≡ []
      other nobody = refl
      other (one z rest) = rw same refl

  handed_answered : (cs : List Call) (c : Call)
      → map entry_of (handed_by p (outcome (seat_after m cs) c).out (chosen rank (line_at p m cs))) ≡ answered_by p c (outcome (seat_after m cs) c).answer
  handed_answered cs (operator (orders o)) = refl
  handed_answered cs (operator (views v)) = refl
  handed_answered cs (own (sets s)) = refl
  handed_answered cs (own (hears rs port slot second octets output)) = refl
  handed_answered cs (own (echoes rs port slot octets output)) = refl
  handed_answered cs (own (takes q)) =
      rw (take_is m cs q) (handed_by_line cs q (port_set_up (relay_in (seat_after m cs)) q) (eqb q p) refl (chosen rank (line_at q m cs)) refl)
  handed_answered cs (own (sweeps second)) = refl
  handed_answered cs (own (looks l)) = refl

  -- The copies that are handed out after any history are, entry by entry, what the takes of the port answer.
  pub answers_are_handed : (ds cs : List Call) → map entry_of (handed_since p m cs ds) ≡ answered_since p m cs ds
  answers_are_handed [] cs = refl
  answers_are_handed (d ∷ ds) cs =
      let further : map entry_of (handed_from p (suc (length cs)) (next (seat_after m cs) d) (line_by p (length cs) (seat_after m cs) d (line_at p m cs)) ds)
      ≡ answered_from p (next (seat_after m cs) d) ds =
      rw (length_then cs d, seat_then cs (fresh_seat m) d, line_at_then p m cs d) at (answers_are_handed ds (and_then cs d)) in
      map-append entry_of (handed_by p (outcome (seat_after m cs) d).out (chosen rank (line_at p m cs))) _
      ∙ cc (handed_answered cs d, further)

-- ---- W-213

module _ (p m : ℕ) (cs : List Call) (c : Call) (x : Copy) (placed : taken_by p (length cs) (seat_after m cs) c ≡ x ∷ []) where
  -- W-213: a copy x that call c places on port p after any history of mission m is handed out by take number k of that port, of those that hand out after
  -- the placing, exactly where k is r + h + 1 and that many are made
  pub foretold_over_histories : (ds : List Call) (k : ℕ)
      → AtTake k x (handed_since p m (and_then cs c) ds)
      ↔ ((k ≡ before p m x cs + higher_enter p m x (and_then cs c) ds + 1) × (k ≤ takes_since p m (and_then cs c) ds))
  foretold_over_histories ds k =
      rw (length_then cs c, seat_then cs (fresh_seat m) c, line_at_then p m cs c)
      (foretold_from p (length cs) (seat_after m cs) (line_at p m cs) (line_turns p m cs) c x placed ds k)

  -- If that many takes are made, the answer numbered r + h + 1 of the port's takes after the placing is the entry of x.
  pub foretold_answer : (ds : List Call) → before p m x cs + higher_enter p m x (and_then cs c) ds + 1 ≤ takes_since p m (and_then cs c) ds
      → AtTake (before p m x cs + higher_enter p m x (and_then cs c) ds + 1) (entry_of x) (answered_since p m (and_then cs c) ds)
  foretold_answer ds made =
      let at = (foretold_over_histories ds _).1 (refl, made) in
      record {
        earlier = map entry_of at.earlier;
        later = map entry_of at.later;
        are = sym (answers_are_handed p m ds (and_then cs c)) ∙ ap (map entry_of) at.are ∙ map-append entry_of at.earlier (x ∷ at.later);
        number = at.number ∙ ap (λ (n : ℕ). n + 1) (sym (length-map at.earlier entry_of));
      }

  -- r is how many stand before x in the queue when it is placed, just ahead of the first of lower precedence.
  pub stands_behind : p < 8
      → (at : Placed precedence_of (entry_of x) (waiting (queue_at (seat_after m cs).mission p)) (waiting (queue_at (seat_after m (and_then cs c)).mission p)))
      × (length at.before ≡ before p m x cs)
  stands_behind inside = (at, stand_before entry_of (queue_waits p inside m cs) x at)
    where
      now : waiting (queue_at (seat_after m (and_then cs c)).mission p) ≡ insert_by precedence_of (entry_of x) (waiting (queue_at (seat_after m cs).mission p))
      now =
          (queue_waits p inside m (and_then cs c)).same
          ∙ ap (λ (l : List Copy). map entry_of (ordered rank l)) (line_at_then p m cs c ∙ placed_last p (length cs) (seat_after m cs) c x (line_at p m cs) placed)
          ∙ ap (map entry_of) (ordered_enters rank x (line_at p m cs))
          ∙ insert_map precedence_of entry_of x (ordered rank (line_at p m cs))
          ∙ ap (insert_by precedence_of (entry_of x)) (sym (queue_waits p inside m cs).same)

      at : Placed precedence_of (entry_of x) (waiting (queue_at (seat_after m cs).mission p)) (waiting (queue_at (seat_after m (and_then cs c)).mission p))
      at = rw now (insert_placed precedence_of (entry_of x) (waiting (queue_at (seat_after m cs).mission p)))

-- ---- refused calls and other ports' traffic count nothing
module _ (p m : ℕ) where
  nothing_out : (o : Out) (line : List Copy) (a : Chosen Copy) → out_by p o ≡ 0 → (handed_by p o a ≡ []) × (left_by p o line a ≡ line)
  nothing_out nothing line a idle = (refl, refl)
  nothing_out (from q e) line nobody idle = (refl, refl)
  nothing_out (from q e) line (one y others) idle = by (eqb q p) idle
    where
      by : (t : Bool) → one_if t ≡ 0 → (pick t (y ∷ []) [] ≡ []) × (pick t others line ≡ line)
      by true h = absurd (omega arith)
      by false h = (refl, refl)

  -- A call that is idle on the port counts nothing, at any point of any history.
  pub idle_counts_nothing : (x : Copy) (cs : List Call) (c : Call) (ds : List Call) → Idle p m cs c → CountsNothing p m x cs c ds
  idle_counts_nothing x cs c ds idle =
      let none = nothing_out (outcome (seat_after m cs) c).out (line_at p m cs) (chosen rank (line_at p m cs)) idle.1 in
      record {
        line = line_at_then p m cs c ∙ rw (none.1, idle.0) (append-nil (line_at p m cs));
        handed = rw (length_then cs c, seat_then cs (fresh_seat m) c, line_at_then p m cs c, none.0) refl;
        takes = rw (seat_then cs (fresh_seat m) c) (omega (arith, idle.1));
        higher = rw (length_then cs c, seat_then cs (fresh_seat m) c, line_at_then p m cs c, none.0, idle.0) refl;
      }

  -- What is idle: the operator's call, a setting, a sweep and a look,
  pub operator_idle : (cs : List Call) (c : OperatorCall) → Idle p m cs (operator c)
  operator_idle cs (orders o) = (refl, refl)
  operator_idle cs (views v) = (refl, refl)

  pub setting_idle : (cs : List Call) (s : Setting) → Idle p m cs (own (sets s))
  setting_idle cs s = (refl, refl)

  pub sweep_idle : (cs : List Call) (second : ℕ) → Idle p m cs (own (sweeps second))
  sweep_idle cs second = (refl, refl)

  pub look_idle : (cs : List Call) (l : Look) → Idle p m cs (own (looks l))
  look_idle cs l = (refl, refl)

  -- a datagram of which the port took no entry,
  pub not_taken_idle : (cs : List Call) (rs : List Record) (port : ℕ) (slot : Slot) (second : ℕ) (octets output : List ℕ)
      → in_set p (outcome (seat_after m cs) (own (hears rs port slot second octets output))).took ≡ false → Idle p m cs (own (hears rs port slot second octets output))
  not_taken_idle cs rs port slot second octets output not_in = (rw not_in refl, refl)

  -- a reply that the port did not take,
  pub not_replied_idle : (cs : List Call) (rs : List Record) (port : ℕ) (slot : Slot) (octets output : List ℕ)
      → in_set p (outcome (seat_after m cs) (own (echoes rs port slot octets output))).took ≡ false → Idle p m cs (own (echoes rs port slot octets output))
  not_replied_idle cs rs port slot octets output not_in = (rw not_in refl, refl)

  -- a take of another port,
  pub other_take_idle : (cs : List Call) (q : ℕ) → (q ≡ p → ⊥) → Idle p m cs (own (takes q))
  other_take_idle cs q other = (refl, by (take_outcome (relay_in (seat_after m cs)) q))
    where
      by : (t : Taking) → out_by p (of_taking q t).out ≡ 0
      by (Good e) = rw (ne_eqb q p other) refl
      by (Refused n) = refl

  -- and whatever is refused.
  pub refused_idle : (cs : List Call) (c : Call) → is_refusal (outcome (seat_after m cs) c).answer ≡ true → Idle p m cs c
  refused_idle cs (operator c) refused = operator_idle cs c
  refused_idle cs (own (sets s)) refused = setting_idle cs s
  refused_idle cs (own (hears rs port slot second octets output)) refused =
      not_taken_idle cs rs port slot second octets output (ap (in_set p) (took_none (seat_after m cs) rs port second octets (length output) refused) ∙ in_none p)
  refused_idle cs (own (echoes rs port slot octets output)) refused =
      not_replied_idle cs rs port slot octets output (ap (in_set p) (reply_took_none (seat_after m cs) rs port octets (length output) refused) ∙ in_none p)
  refused_idle cs (own (takes q)) refused = (refl, by (take_outcome (relay_in (seat_after m cs)) q) refused)
    where
      by : (t : Taking) → is_refusal (of_taking q t).answer ≡ true → out_by p (of_taking q t).out ≡ 0
      by (Good e) h = true_false (sym h)
      by (Refused n) h = refl
  refused_idle cs (own (sweeps second)) refused = sweep_idle cs second
  refused_idle cs (own (looks l)) refused = look_idle cs l

-- ---- a call places at most one copy on a port
module _ (n : ℕ) where
  none_of_turn : (l : List Copy) → Each (λ (y : Copy). n < y.turn) l → times n l ≡ 0
  none_of_turn [] all = refl
  none_of_turn (y ∷ l) all = rw (ne_eqb y.turn n (λ same. omega (arith, all.0))) (omega (arith, none_of_turn l all.1))

  once_in_turn : (l : List Copy) → InTurn l → times n l ≤ 1
  once_in_turn [] h = omega arith
  once_in_turn (y ∷ l) h = by (once_in_turn l h.1) (eqb y.turn n) refl
    where
      by : times n l ≤ 1 → (t : Bool) → eqb y.turn n ≡ t → pick t 1 0 + times n l ≤ 1
      by few true same = omega (arith, none_of_turn l (each_so l (λ z later. omega (arith, eqb-true y.turn n same)) h.0))
      by few false same = omega arith

module _ (p n m : ℕ) where
  pub taken_once : (cs : List Call) → times n (taken_at p m cs) ≤ 1
  taken_once cs = once_in_turn n (taken_at p m cs) (taken_in_turn p m cs)

-- ---- laws near to it that are false, each with a history of mission 0 that breaks it

-- the number of a take: by the port, the copy, the calls before its placing, these and the placing, and the calls since
abbrev pub Rule : Type 0
Rule = ℕ → Copy → List Call → List Call → List Call → ℕ

-- whatever take hands x out has that number
abbrev pub Holds : Rule → Type 0
Holds rule =
    (p : ℕ) (cs : List Call) (c : Call) (x : Copy) → taken_by p (length cs) (seat_after 0 cs) c ≡ x ∷ [] → (ds : List Call) (k : ℕ)
    → AtTake k x (handed_since p 0 (and_then cs c) ds) → k ≡ rule p x cs (and_then cs c) ds

pub true_rule : Holds (λ p x cs placed ds. before p 0 x cs + higher_enter p 0 x placed ds + 1)
true_rule p cs c x placed ds k h = ((foretold_over_histories p 0 cs c x placed ds k).0 h).0

-- ---- a router with two ports in one domain: what comes in by one, to all of the domain, goes out by the other
abbrev setup : List Call
setup =
    operator (orders (set_router 1))
    ∷ operator (orders (set_port 0 (record { 0 = dotted 10 4 9 14 }) (record { 0 = dotted 255 255 255 0 }) 100 0))
    ∷ operator (orders (set_port 1 (record { 0 = dotted 10 4 9 16 }) (record { 0 = dotted 255 255 255 0 }) 100 0))
    ∷ []

-- seven octets and no data: to 10.4.9.255, from 10.4.9.20, basic QOS with the precedence
abbrev datagram : ℕ → List ℕ
datagram precedence = 32 ∷ 7 ∷ 26 ∷ 66 ∷ 255 ∷ 20 ∷ 16 * precedence ∷ []

abbrev heard : ℕ → ℕ → Call
heard port precedence = own (hears [] port (record { 0 = 7 }) 0 (datagram precedence) (replicate output_room 0))

-- the copy on port 1 of what call n brought by port 0
abbrev copy : ℕ → ℕ → Copy
copy n precedence =
    record {
      turn = n;
      arrival = record { 0 = dotted 10 4 9 14 };
      octets = datagram precedence;
      size = 7;
      header = datagram precedence;
      entry = record { slot = record { 0 = 7 }; precedence = precedence };
    }

-- a rule, and the history that breaks it: one of precedence 5 is placed on port 1 after some calls, others follow, and so many go out before it
pub record Mistake : Type 0 where
  pub rule : Rule
  pub calls : List Call
  pub since : List Call
  pub earlier : List Copy
  pub later : List Copy
  pub says : ℕ

abbrev five : Mistake → Copy
five m = copy (length m.calls) 5

abbrev until : Mistake → List Call
until m = and_then m.calls (heard 0 5)

abbrev Breaks : Mistake → Type 0
Breaks m =
    (taken_by 1 (length m.calls) (seat_after 0 m.calls) (heard 0 5) ≡ five m ∷ [])
    × (handed_since 1 0 (until m) m.since ≡ m.earlier ++ five m ∷ m.later)
    × (m.rule 1 (five m) m.calls (until m) m.since ≡ m.says)
    × (eqb (length m.earlier + 1) m.says ≡ false)

refuted : (m : Mistake) → Breaks m → Holds m.rule → ⊥
refuted m b law =
    let at : AtTake (length m.earlier + 1) (five m) (handed_since 1 0 (until m) m.since) =
    record { earlier = m.earlier; later = m.later; are = b.1; number = refl } in
    eqb-false _ _ b.3 (law 1 m.calls (heard 0 5) (five m) b.0 m.since _ at ∙ b.2)

abbrev not_lower : Copy → Copy → Bool
not_lower x y = leb (rank x) (rank y)

abbrev higher : Copy → Copy → Bool
higher x y = ltb (rank x) (rank y)

abbrev pub mistakes : List Mistake
mistakes =
    -- a higher one that enters counts
    record {
      rule = λ p x cs placed ds. before p 0 x cs + 1;
      calls = setup;
      since = heard 0 6 ∷ own (takes 1) ∷ own (takes 1) ∷ [];
      earlier = copy 4 6 ∷ [];
      later = [];
      says = 1;
    }
    -- one of the same precedence that enters does not
    ∷ record {
      rule = λ p x cs placed ds. before p 0 x cs + how_many (not_lower x) (taken_since p 0 placed (while_waits p 0 x placed ds)) + 1;
      calls = setup;
      since = heard 0 5 ∷ own (takes 1) ∷ own (takes 1) ∷ [];
      earlier = [];
      later = copy 4 5 ∷ [];
      says = 2;
    }
    -- nor does a higher one that enters when it is out
    ∷ record {
      rule = λ p x cs placed ds. before p 0 x cs + how_many (higher x) (taken_since p 0 placed ds) + 1;
      calls = setup;
      since = own (takes 1) ∷ heard 0 6 ∷ [];
      earlier = [];
      later = [];
      says = 2;
    }
    -- nor one that enters another port
    ∷ record {
      rule = λ p x cs placed ds. before p 0 x cs + higher_enter p 0 x placed ds + how_many (higher x) (taken_since 0 0 placed (while_waits p 0 x placed ds)) + 1;
      calls = setup;
      since = heard 1 6 ∷ own (takes 0) ∷ own (takes 1) ∷ [];
      earlier = [];
      later = [];
      says = 2;
    }
    -- of those that waited already, a lower one does not count
    ∷ record {
      rule = λ p x cs placed ds. length (line_at p 0 cs) + higher_enter p 0 x placed ds + 1;
      calls = and_then setup (heard 0 4);
      since = own (takes 1) ∷ own (takes 1) ∷ [];
      earlier = [];
      later = copy 3 4 ∷ [];
      says = 2;
    }
    ∷ []

breaks : Each Breaks mistakes
unfolding first_of heard_ending heard_memory ending_of memory_of call_checks among_ports ports_seen seen_port other_class class_of class_in family_of scps_class port_mask_refused form_refused mask_form ones_of ones_below ones_refused fresh_board fresh_mission fresh_memory fresh_queue read_of read_checks control_of forbidden length_of layout_of address_size stamp_size header_ending header_memory remembering flood_of header_of fields_of qos_of addresses_of aim_of origin_of rule_of rule_target ruled_by ruling_of granted_of plain_line line_of target_of survey_below own_broadcast named_below subnet_broadcast octet_of copies_of take_outcome received_relay entered_all entered_if put_of take_of insert_by chosen taken_relay rewrites next_length next_header legs_for legs_of lessened sent_body header_sent_on checksum_octets
breaks = ((refl, refl, refl, refl), ((refl, refl, refl, refl), ((refl, refl, refl, refl), ((refl, refl, refl, refl), ((refl, refl, refl, refl), tt)))))

pub all_mistaken : Each (λ (m : Mistake). Holds m.rule → ⊥) mistakes
all_mistaken = each_so mistakes refuted breaks
