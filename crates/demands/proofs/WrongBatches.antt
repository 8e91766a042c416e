-- Wrong relays for batches (page 02, W-201), each told by what it would give back to C. None of them is a relay whose calls keep their contracts: there
-- is a batch, most often after steps that set up five ports, for which it would have to give back something else. Assumes nothing.
use native.Mathlib.Omega.{arith}
use Prim.Native.Nat.{ℕ, suc, ◌+◌, ◌*◌, ◌%◌, ◌^◌, ◌<◌}
use mathlib.Core.Path.{◌≡◌, refl, sym, ap, ◌∙◌}
use mathlib.Core.List.{List, [], ◌∷◌, ◌++◌}
use lib.ListN.{length, get_or, replicate, drop}
use Rattle.address.specs.declared.Slot.{Slot}
use Rattle.sets.specs.Limits.{route_places}
use Rattle.routes.specs.Records.{empty_record}
use Rattle.routes.specs.declared.Record.{Record}
use Rattle.state.proofs.Fresh.{fresh_board_length, fresh_length}
use Rattle.judge.specs.Ending.{output_room}
use Rattle.answers.specs.Answers.{part_at}
use Rattle.words.specs.Cut.{total}
use Rattle.batch.specs.Items.{Lists, start_of, room_at}
use Rattle.contracts.specs.Promised.{Things, Result}
use Rattle.contracts.specs.Stated.{Says}
use Rattle.contracts.proofs.Answers.{each_call_answers}
use Rattle.history.specs.Calls.{MissionCall, hears}
use Rattle.history.proofs.Marked.{opened}
use Rattle.demands.specs.Trace.{first, Step, flies, Words, mission_of, made, words_after, AllPass, Begun, Gives}
use Rattle.demands.specs.ReadOut.{ended_by, counter_at}
use Rattle.demands.specs.Batches.{batch, hearing, many_by, called, ActPasses, Fits, AsSingles}
use Rattle.demands.proofs.Lasts.{passable, begun_lasts}
use Rattle.demands.proofs.Over.{begun_on}
use Rattle.demands.proofs.Output.{told}
use Rattle.demands.proofs.Demand1.{demand_1}
use Rattle.demands.proofs.Singles.{item_passes}
use Rattle.demands.proofs.Batches.{batches_hold}
use Rattle.demands.proofs.WrongRelays.{blank, ours, ports_pass, octets_pass}

-- ---- two items without octets, by these ports in these seconds
abbrev two : ℕ → ℕ → ℕ → ℕ → Lists
two p q when later = record { lengths = 0 ∷ 0 ∷ []; ports = p ∷ q ∷ []; slots = 1 ∷ 1 ∷ []; seconds = when ∷ later ∷ []; octets = [] }

abbrev places : List ℕ
places = replicate 2 0

abbrev rooms : List ℕ
rooms = replicate (output_room * 2) 0

-- the words after the steps
set_up_lem : (v : Words) × Begun blank ours v
set_up_lem = begun_lasts blank fresh_board_length (fresh_length 0) (fresh_length 0) ours ports_pass

abbrev v : Words
v = set_up_lem.0

module _ (p q when later : ℕ) (h : when < 2 ^ 32) (k : later < 2 ^ 32) where
  abbrev x : Lists
  x = two p q when later

  fits : ActPasses (batch first [] x places rooms)
  fits = ((omega arith, (omega arith, tt)), ((h, (k, tt)), λ i. omega arith))

  given : (y : Result) × Says (called v (batch first [] x places rooms)) y
  given = each_call_answers (called v (batch first [] x places rooms)) fits.0

  heard : given.0.answer ≡ 0
  unfolding total
  heard =
      (batches_hold.answered v.board (mission_of first v) [] x places rooms given.0 given.1).1.1.1
      (refl, record { ports = refl; slots = refl; seconds = refl; answers = refl; octets = omega arith; few = omega arith; output = omega arith })

  singly : AsSingles first v [] x rooms given.0
  singly = batches_hold.as_singles first v [] x places rooms given.0 fits.0 given.1 heard

  -- the first item's call, and the second's on the words that it left
  abbrev one : Result
  one = singly.calls.0

  abbrev other : Result
  other = singly.calls.1.1.0

  abbrev then : Words
  then = words_after v (hearing first [] x rooms 0) one

  gives_one : Gives ours (hearing first [] x rooms 0) one
  gives_one =
      record { lent = blank; before = v; begun = set_up_lem.1; says = singly.calls.1.0; passes = item_passes first [] x places rooms fits 0 }

  gives_next : (c : MissionCall) (z : Result) → Says (made then (flies first c)) z → AllPass (flies first c ∷ [])
      → Gives (ours ++ (hearing first [] x rooms 0 ∷ [])) (flies first c) z
  gives_next c z says pass =
      record {
        lent = blank;
        before = then;
        begun =
            begun_on blank v then ours (hearing first [] x rooms 0 ∷ []) set_up_lem.1 (one, (singly.calls.1.0, refl))
            (item_passes first [] x places rooms fits 0, tt);
        says = says;
        passes = pass.0;
      }

  second_answer : get_or given.0.left.numbers 1 0 ≡ other.answer
  second_answer = ap (λ (l : List ℕ). get_or l 1 0) singly.answers

-- a counter that counts one is not as it was
moves : (n : ℕ) → n ≡ (n + 1) % 2 ^ 32 → ⊥
moves n e = omega (arith, e)

-- ---- what is refused
-- It does not test the lists only after the first item was done.
pub refusing_after_the_first_item :
    ((steps : List Step) (w v : Words) (rs : List Record) (x : Lists) (n o : List ℕ) (y z : Result) → Begun w steps v
    → Says (called v (batch first rs x n o)) y → y.answer ≡ 27 → Says (made v (hearing first rs x o 0)) z → y.left.mission ≡ z.left.mission)
    → ⊥
unfolding opened
refusing_after_the_first_item wrong =
    let x : Lists = record { lengths = 0 ∷ 0 ∷ []; ports = 4 ∷ 4 ∷ []; slots = 1 ∷ []; seconds = 0 ∷ 0 ∷ []; octets = [] } in
    let a = each_call_answers (called v (batch first [] x places rooms)) (omega arith, tt) in
    let unequal : a.0.answer ≡ 27 =
    (batches_hold.answered v.board (mission_of first v) [] x places rooms a.0 a.1).1.0.1 (refl, λ f. omega (arith, f.slots)) in
    let c = hearing first [] x rooms 0 in
    let pass = item_passes first [] x places rooms ((omega arith, tt), ((omega arith, (omega arith, tt)), λ i. omega arith)) 0 in
    let z = each_call_answers (made v c) (passable v c pass) in
    let same = wrong ours blank v [] x places rooms a.0 z.0 set_up_lem.1 a.1 unequal z.1 in
    let stays =
    batches_hold.refused_leaves v.board (mission_of first v) [] x places rooms a.0 a.1 (λ e. omega (arith, e, unequal)) in
    let counted : counter_at z.0.left.mission 0 ≡ (counter_at (mission_of first v) 0 + 1) % 2 ^ 32 =
    demand_1.counters_move first ours (hears [] 4 (record { 0 = 1 }) 0 [] (room_at rooms 0)) z.0
    (record { lent = blank; before = v; begun = set_up_lem.1; says = z.1; passes = pass }) 0 (omega arith) in
    moves (counter_at (mission_of first v) 0) (ap (λ (m : List ℕ). counter_at m 0) (sym (ap (λ (u : Things). u.mission) stays) ∙ same) ∙ counted)

-- It does not say 27 first: a list of routes that is too long is 21, whatever the other lists are.
pub refusing_the_lists_first :
    ((b m : List ℕ) (rs : List Record) (x : Lists) (n o : List ℕ) (y : Result) → Says (many_by b m rs x n o) y → (Fits x n o → ⊥) → y.answer ≡ 27) → ⊥
refusing_the_lists_first wrong =
    let x : Lists = record { lengths = 0 ∷ []; ports = 4 ∷ []; slots = []; seconds = 0 ∷ []; octets = [] } in
    let long = replicate (suc route_places) empty_record in
    let a = each_call_answers (many_by [] [] long x [] []) tt in
    let lists = wrong [] [] long x [] [] a.0 a.1 (λ f. omega (arith, f.slots)) in
    let routes : a.0.answer ≡ 21 = (batches_hold.answered [] [] long x [] [] a.0 a.1).0.1 refl in omega (arith, lists, routes)

-- ---- what is heard
-- It does not skip an item: two leave other words than the second alone.
pub skipping_the_first_item :
    ((steps : List Step) (w v : Words) (rs : List Record) (x : Lists) (n o : List ℕ) (y z : Result) → Begun w steps v → length x.lengths ≡ 2
    → Says (called v (batch first rs x n o)) y → y.answer ≡ 0 → Says (made v (hearing first rs x o 1)) z → y.left.mission ≡ z.left.mission)
    → ⊥
unfolding opened gives_one gives_next
skipping_the_first_item wrong =
    let low : 0 < 2 ^ 32 = omega arith in
    let x = two 4 4 0 0 in
    let a = given 4 4 0 0 low low in
    let c = hears [] 4 (record { 0 = 1 }) 0 [] (room_at rooms 1) in
    let pass = item_passes first [] x places rooms (fits 4 4 0 0 low low) 1 in
    let z = each_call_answers (made v (flies first c)) (passable v (flies first c) pass) in
    let same = wrong ours blank v [] x places rooms a.0 z.0 set_up_lem.1 refl a.1 (heard 4 4 0 0 low low) z.1 in
    let t = (singly 4 4 0 0 low low).calls in
    let after = words_after v (hearing first [] x rooms 0) t.0 in
    let alone : counter_at z.0.left.mission 0 ≡ (counter_at (mission_of first v) 0 + 1) % 2 ^ 32 =
    demand_1.counters_move first ours c z.0 (record { lent = blank; before = v; begun = set_up_lem.1; says = z.1; passes = pass }) 0 (omega arith) in
    let first_counted : counter_at (mission_of first after) 0 ≡ (counter_at (mission_of first v) 0 + 1) % 2 ^ 32 =
    demand_1.counters_move first ours (hears [] 4 (record { 0 = 1 }) 0 [] (room_at rooms 0)) t.0 (gives_one 4 4 0 0 low low) 0 (omega arith) in
    let both : counter_at t.1.1.0.left.mission 0 ≡ (counter_at (mission_of first after) 0 + 1) % 2 ^ 32 =
    demand_1.counters_move first (ours ++ (hearing first [] x rooms 0 ∷ [])) c t.1.1.0
    (gives_next 4 4 0 0 low low c t.1.1.0 t.1.1.1.0 (pass, tt)) 0 (omega arith) in
    let left : a.0.left.mission ≡ t.1.1.0.left.mission = ap (mission_of first) t.1.1.1.1 in
    moves (counter_at (mission_of first after) 0)
    (first_counted ∙ sym alone ∙ ap (λ (m : List ℕ). counter_at m 0) (sym same ∙ left) ∙ both)

-- It does not give the answers one place late. The first item is refused by 1, and the second, by a port that is not set up, by 16.
pub shifting_answers :
    ((steps : List Step) (w v : Words) (rs : List Record) (x : Lists) (n o : List ℕ) (y z : Result) → Begun w steps v → 1 < length x.lengths
    → Says (called v (batch first rs x n o)) y → y.answer ≡ 0 → Says (made v (hearing first rs x o 0)) z → get_or y.left.numbers 1 0 ≡ z.answer)
    → ⊥
unfolding opened
shifting_answers wrong =
    let low : 0 < 2 ^ 32 = omega arith in
    let x = two 4 5 0 0 in
    let slot : Slot = record { 0 = 1 } in
    let a = given 4 5 0 0 low low in
    let t = (singly 4 5 0 0 low low).calls in
    let late =
    sym (second_answer 4 5 0 0 low low)
    ∙ wrong ours blank v [] x places rooms a.0 t.0 set_up_lem.1 (omega arith) a.1 (heard 4 5 0 0 low low) t.1.0 in
    let empty : ended_by t.0 ≡ 1 = (told first ours [] 4 slot 0 [] (room_at rooms 0) t.0 (gives_one 4 5 0 0 low low)).refusal in
    let c = hears [] 5 slot 0 [] (room_at rooms 1) in
    let pass = item_passes first [] x places rooms (fits 4 5 0 0 low low) 1 in
    let no_port_lem : ended_by t.1.1.0 ≡ 16 =
    (told first (ours ++ (hearing first [] x rooms 0 ∷ [])) [] 5 slot 0 [] (room_at rooms 1) t.1.1.0
    (gives_next 4 5 0 0 low low c t.1.1.0 t.1.1.1.0 (pass, tt))).refusal in
    let same : ◌≡◌ {A = ℕ} 16 1 = sym no_port_lem ∙ ap (part_at 0) late ∙ empty in omega (arith, same)

-- It does not hear an item in the second of the one before: the second here lies before the first, and is refused by 29.
abbrev seconds_late : Lists → Lists
seconds_late x =
    record { lengths = x.lengths; ports = x.ports; slots = x.slots; seconds = get_or x.seconds 0 0 ∷ x.seconds; octets = x.octets }

pub hearing_in_the_second_before :
    ((steps : List Step) (w v : Words) (rs : List Record) (x : Lists) (n o : List ℕ) (y z q : Result) → Begun w steps v → 1 < length x.lengths
    → Says (called v (batch first rs x n o)) y → y.answer ≡ 0 → Says (made v (hearing first rs x o 0)) z
    → Says (made (words_after v (hearing first rs x o 0) z) (hearing first rs (seconds_late x) o 1)) q → get_or y.left.numbers 1 0 ≡ q.answer)
    → ⊥
unfolding opened
hearing_in_the_second_before wrong =
    let five : 5 < 2 ^ 32 = omega arith in
    let three : 3 < 2 ^ 32 = omega arith in
    let x = two 4 4 5 3 in
    let slot : Slot = record { 0 = 1 } in
    let a = given 4 4 5 3 five three in
    let t = (singly 4 4 5 3 five three).calls in
    let after = words_after v (hearing first [] x rooms 0) t.0 in
    let steps = ours ++ (hearing first [] x rooms 0 ∷ []) in
    let late = hears [] 4 slot 5 [] (room_at rooms 1) in
    let octets : (i : ℕ) → get_or {A = ℕ} [] i 0 < 256 = λ i. omega arith in
    let one : 1 < 65536 = omega arith in
    let q = each_call_answers (made after (flies first late)) (passable after (flies first late) (one, (octets, five))) in
    let same =
    sym (second_answer 4 4 5 3 five three)
    ∙ wrong ours blank v [] x places rooms a.0 t.0 q.0 set_up_lem.1 (omega arith) a.1 (heard 4 4 5 3 five three) t.1.0 q.1 in
    let early : ended_by t.1.1.0 ≡ 29 =
    (told first steps [] 4 slot 3 [] (room_at rooms 1) t.1.1.0
    (gives_next 4 4 5 3 five three (hears [] 4 slot 3 [] (room_at rooms 1)) t.1.1.0 t.1.1.1.0 ((one, (octets, three)), tt))).refusal in
    let taken : ended_by q.0 ≡ 1 =
    (told first steps [] 4 slot 5 [] (room_at rooms 1) q.0 (gives_next 4 4 5 3 five three late q.0 q.1 ((one, (octets, five)), tt))).refusal in
    let numbers : ◌≡◌ {A = ℕ} 29 1 = sym early ∙ ap (part_at 0) same ∙ taken in omega (arith, numbers)

-- It does not read an item from the front of the octets: the first here is of another version, refused by 2, and the second has control bits that
-- are not allowed, refused by 4.
abbrev at_front : Lists → Lists
at_front x =
    record { lengths = 0 ∷ drop 1 x.lengths; ports = x.ports; slots = x.slots; seconds = x.seconds; octets = x.octets }

abbrev laid : Lists
laid =
    record {
      lengths = 3 ∷ 3 ∷ [];
      ports = 4 ∷ 4 ∷ [];
      slots = 1 ∷ 1 ∷ [];
      seconds = 0 ∷ 0 ∷ [];
      octets = 0 ∷ 0 ∷ 0 ∷ 32 ∷ 0 ∷ 0 ∷ [];
    }

laid_passes : ActPasses (batch first [] laid places rooms)
laid_passes = ((omega arith, (omega arith, tt)), ((omega arith, (omega arith, tt)), octets_pass laid.octets refl))

pub reading_from_the_front :
    ((steps : List Step) (w v : Words) (rs : List Record) (x : Lists) (n o : List ℕ) (y z q : Result) → Begun w steps v → 1 < length x.lengths
    → Says (called v (batch first rs x n o)) y → y.answer ≡ 0 → Says (made v (hearing first rs x o 0)) z
    → Says (made (words_after v (hearing first rs x o 0) z) (hearing first rs (at_front x) o 1)) q → get_or y.left.numbers 1 0 ≡ q.answer)
    → ⊥
unfolding opened start_of total
reading_from_the_front wrong =
    let low : 0 < 2 ^ 32 = omega arith in
    let slot : Slot = record { 0 = 1 } in
    let one : 1 < 65536 = omega arith in
    let x = laid in
    let pass = laid_passes in
    let a = each_call_answers (called v (batch first [] x places rooms)) pass.0 in
    let done =
    (batches_hold.answered v.board (mission_of first v) [] x places rooms a.0 a.1).1.1.1
    (refl, record { ports = refl; slots = refl; seconds = refl; answers = refl; octets = omega arith; few = omega arith; output = omega arith }) in
    let t = batches_hold.as_singles first v [] x places rooms a.0 pass.0 a.1 done in
    let z = t.calls.0 in
    let c = hearing first [] x rooms 0 in
    let after = words_after v c z in
    let then : Begun blank (ours ++ (c ∷ [])) after =
    begun_on blank v after ours (c ∷ []) set_up_lem.1 (z, (t.calls.1.0, refl)) (item_passes first [] x places rooms pass 0, tt) in
    let front = hears [] 4 slot 0 (0 ∷ 0 ∷ 0 ∷ []) (room_at rooms 1) in
    let q = each_call_answers (made after (flies first front)) one in
    let same =
    sym (ap (λ (l : List ℕ). get_or l 1 0) t.answers)
    ∙ wrong ours blank v [] x places rooms a.0 z q.0 set_up_lem.1 (omega arith) a.1 done t.calls.1.0 q.1 in
    let own : ended_by t.calls.1.1.0 ≡ 4 =
    (told first (ours ++ (c ∷ [])) [] 4 slot 0 (32 ∷ 0 ∷ 0 ∷ []) (room_at rooms 1) t.calls.1.1.0
    (record { lent = blank; before = after; begun = then; says = t.calls.1.1.1.0; passes = item_passes first [] x places rooms pass 1 })
    ).refusal in
    let others : ended_by q.0 ≡ 2 =
    (told first (ours ++ (c ∷ [])) [] 4 slot 0 (0 ∷ 0 ∷ 0 ∷ []) (room_at rooms 1) q.0
    (record { lent = blank; before = after; begun = then; says = q.1; passes = (one, (octets_pass (0 ∷ 0 ∷ 0 ∷ []) refl, low)) })
    ).refusal in
    let numbers : ◌≡◌ {A = ℕ} 4 2 = sym own ∙ ap (part_at 0) same ∙ others in omega (arith, numbers)
