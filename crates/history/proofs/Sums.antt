-- Demand 3 for every counter in the customer's words, over whole histories: each is a count of the history's datagrams or copies. The refusal, the two
-- halves and the dropped copies of an ending give to different counters, so each is compared with the page's table by itself. Assumes nothing.
use Rattle.std.specs.Prelude.{Some, None}
use native.Mathlib.Omega.{arith}
use native.Mathlib.Nat.{add-zero, zero-add, div-eq_of_lt, mod-lt}
use Prim.Native.Nat.{ℕ, zero, suc, ◌+◌, ◌/◌, ◌%◌, ◌^◌, ◌<◌, ◌≤◌}
use mathlib.Core.Path.{◌≡◌, refl, sym, ap, ◌∙◌}
use mathlib.Core.Bool.{Bool, true, false, not, ◌||◌, and-false}
use mathlib.Core.List.{List, [], ◌∷◌}
use lib.ListN.{length, get_or}
use lib.Dec.{eqb}
use lib.Pow.{pow_mono}
use borrow.Author.Tests.{eqb-true}
use Rattle.checks.specs.Order.{pick}
use Rattle.checks.proofs.Bools.{true_false}
use Rattle.address.specs.Mask.{ones_below, ones_of}
use Rattle.routes.specs.declared.Record.{Record}
use Rattle.state.specs.Relay.{counter_in}
use Rattle.verdict.specs.Numbers.{local_number, onward_number}
use Rattle.verdict.specs.declared.Local.{Local}
use Rattle.verdict.specs.declared.Local.TheVariants.{No, Delivered, Unknown}
use Rattle.verdict.specs.declared.Onward.{Onward}
use Rattle.verdict.specs.declared.Onward.TheVariants as onward
use Rattle.taking.specs.Taking.{take_outcome, Taking}
use Rattle.checks.specs.Told.{Good, Refused}
use Rattle.tally.specs.Tally.{Move, receipt_counter, counter_for, local_counter, onward_counter, discard_counter, moves_of, made_counter, unsent_counter, reply_moves}
use Rattle.history.specs.Seat.{Seat, fresh_seat, relay_in, heard_by, replied_by}
use Rattle.history.specs.Calls.{orders, views, sets, hears, echoes, takes, sweeps, looks, Call, operator, own}
use Rattle.history.specs.Outcome.{ended, replied, Outcome, of_ending, of_reply, of_taking, outcome, next, sum_from, sum_over}
use Rattle.history.specs.Answers.{ending_rows, listed, stands}
use Rattle.history.specs.Tally.{sum_at, state_after}
use Rattle.history.specs.Ledger.{one}
use Rattle.history.specs.Sums.{ports_in, counted, given_by}
use Rattle.history.proofs.Counters.{counters}
use Rattle.history.proofs.Listed.{end_numbers, end_listed, each_obstacle, every_ending_is_listed}
use Rattle.history.proofs.Small.{sets_small}
use Rattle.history.proofs.Replying.{reply_small, reply_onward}

-- ---- eighteen numbers, one for each counter
abbrev tabled : ℕ → (ℕ → ℕ) → List ℕ
tabled zero f = []
tabled (suc n) f = f 0 ∷ tabled n (λ i. f (suc i))

tabled_at : (n : ℕ) (f : ℕ → ℕ) (i : ℕ) → i < n → get_or (tabled n f) i 0 ≡ f i
tabled_at zero f i h = absurd (omega arith)
tabled_at (suc n) f zero h = refl
tabled_at (suc n) f (suc i) h = tabled_at n (λ j. f (suc j)) i (omega arith)

-- what moves give the eighteen
abbrev given : List Move → List ℕ
given moves = tabled 18 (sum_at moves)

-- ---- what is written of each part of an ending: of a half and of the copies with 16, which counts nothing
abbrev of_refusal : ℕ → List ℕ
of_refusal n = counted (ended n 0 0 0) 0

abbrev of_local : ℕ → List ℕ
of_local local = counted (ended 16 local 0 0) 0

abbrev of_onward : ℕ → ℕ → List ℕ
of_onward onward took = counted (ended 16 0 onward took) 0

abbrev of_dropped : ℕ → List ℕ
of_dropped copies = counted (ended 16 0 0 0) copies

abbrev together : ℕ → ℕ → ℕ → ℕ → ℕ → ℕ → ℕ
together n local onward took copies i =
    get_or (of_refusal n) i 0 + (get_or (of_local local) i 0 + (get_or (of_onward onward took) i 0 + get_or (of_dropped copies) i 0))

-- the parts give to different counters
parts : (n local onward took copies : ℕ) → tabled 18 (together n local onward took copies) ≡ counted (ended n local onward took) copies
parts n local onward took copies = simp (add-zero, zero-add)

-- ---- the refusal is one of the page's numbers
-- what holds of each number of a list holds of one that is listed
abbrev AllOf : (ℕ → Type 0) → List ℕ → Type 0
AllOf P [] = Unit
AllOf P (x ∷ xs) = P x × AllOf P xs

first_or : (P : ℕ → Type 0) (x n : ℕ) (t u : Bool) → eqb n x ≡ t → P x → (u ≡ true → P n) → (t || u) ≡ true → P n
first_or P x n true u e first others h = rw (eqb-true n x e) first
first_or P x n false u e first others h = others h

of_listed : (P : ℕ → Type 0) (xs : List ℕ) (n : ℕ) → AllOf P xs → listed xs n ≡ true → P n
of_listed P [] n all h = true_false (sym h)
of_listed P (x ∷ xs) n all h = first_or P x n (eqb n x) (listed xs n) refl all.0 (of_listed P xs n all.1) h

refusal_part : (n : ℕ) → listed end_numbers n ≡ true → given ((receipt_counter n, 1) ∷ (counter_for n, 1) ∷ []) ≡ of_refusal n
unfolding counter_for
refusal_part n =
    of_listed (λ (m : ℕ). given ((receipt_counter m, 1) ∷ (counter_for m, 1) ∷ []) ≡ of_refusal m) end_numbers n
    (refl, (refl, (refl, (refl, (refl, (refl, (refl, (refl, (refl, (refl, (refl, (refl, (refl, (refl, tt))))))))))))))

-- ---- the local half
local_part : (l : Local) → given ((local_counter l, 1) ∷ []) ≡ of_local (local_number l)
unfolding counter_for
local_part No = refl
local_part Delivered = refl
local_part Unknown = refl

-- ---- 1 stands in the onward half where a port took an entry, and only there
sent_case : (refusal local onward took : ℕ) (t u : Bool) → eqb took 0 ≡ t → eqb onward 1 ≡ u
    → stands ending_rows (ended refusal local onward took) ≡ true → u ≡ not t
sent_case refusal local onward took true true h k s =
    let z : onward ≡ 1 = eqb-true onward 1 k in
    true_false (sym (simp (z, h, and-false) at s))
sent_case refusal local onward took true false h k s = refl
sent_case refusal local onward took false true h k s = refl
sent_case refusal local onward took false false h k s = true_false (sym (simp (k, h, and-false) at s))

pub sent_where_taken : (seat : Seat) (rs : List Record) (port second : ℕ) (octets : List ℕ) (room : ℕ)
    → eqb (onward_number (heard_by seat rs port second octets room).ruling.onward) 1 ≡ not (eqb (heard_by seat rs port second octets room).ruling.took 0)
sent_where_taken seat rs port second octets room =
    let e = heard_by seat rs port second octets room in
    let x = e.ruling in
    sent_case e.refusal (local_number x.local) (onward_number x.onward) x.took (eqb x.took 0) (eqb (onward_number x.onward) 1) refl refl
    (every_ending_is_listed seat rs port second octets room)

-- ---- the onward half
onward_part : (x : Onward) (took : ℕ) → eqb (onward_number x) 1 ≡ not (eqb took 0) → given ((onward_counter x, 1) ∷ []) ≡ of_onward (onward_number x) took
unfolding counter_for
onward_part onward.NotAsked took h = rw (← h)
onward_part onward.SentOn took h = rw (← h)
onward_part (onward.Refused o) took h =
    each_obstacle (λ (n : ℕ). eqb n 1 ≡ not (eqb took 0) → given ((counter_for n, 1) ∷ []) ≡ of_onward n took)
    ((λ k. rw (← k)), ((λ k. rw (← k)), ((λ k. rw (← k)), ((λ k. rw (← k)), ((λ k. rw (← k)), ((λ k. rw (← k)), (λ k. rw (← k)))))))) o h

-- ---- the ones of a set of the eight ports are its ports
bit_case : (b : ℕ) → b < 2 → one (eqb b 1) ≡ b
bit_case zero h = refl
bit_case (suc zero) h = refl
bit_case (suc (suc b)) h = absurd (omega arith)

ones_ports : (n set : ℕ) → ones_below n set ≡ ports_in n set
unfolding ones_below
ones_ports zero set = refl
ones_ports (suc p) set = rw (ones_ports p set, bit_case (set / 2 ^ p % 2) (mod-lt (set / 2 ^ p) (omega arith)))

module _ (set : ℕ) (small : set < 256) where
  one_more : (k : ℕ) → 8 ≤ k → ones_below k set ≡ ports_in 8 set → ones_below (suc k) set ≡ ports_in 8 set
  unfolding ones_below
  one_more k h e =
      let under : set < 2 ^ k = omega (arith, pow_mono {i = 8} {j = k} h) in
      let none : set / 2 ^ k ≡ 0 = div-eq_of_lt under in
      rw (e, none) (omega arith)

  abbrev further : ℕ → ℕ → ℕ
  further zero k = k
  further (suc n) k = further n (suc k)

  all_more : (n k : ℕ) → 8 ≤ k → ones_below k set ≡ ports_in 8 set → ones_below (further n k) set ≡ ports_in 8 set
  all_more zero k h e = e
  all_more (suc n) k h e = all_more n (suc k) (omega arith) (one_more k h e)

  ones_eight : ones_of set ≡ ports_in 8 set
  unfolding ones_of
  ones_eight = all_more 24 8 (omega arith) (ones_ports 8 set)

discard_case : (t : Bool) (n : ℕ) → (t ≡ true → n ≡ 0) → given ((pick t None (Some 12), n) ∷ []) ≡ of_dropped n
discard_case true n z = rw (z refl) refl
discard_case false n z = simp (add-zero)

discard_part : (set : ℕ) → set < 256 → given ((discard_counter set, ones_of set) ∷ []) ≡ of_dropped (ports_in 8 set)
discard_part set small =
    rw (ones_eight set small) (discard_case (eqb set 0) (ports_in 8 set) (λ z. ap (ports_in 8) (eqb-true set 0 z)))

-- ---- a reply
abbrev of_made : ℕ → List ℕ
of_made onward = counted (replied 0 onward 0) 0

reply_parts : (n onward took copies : ℕ) → tabled 18 (λ (k : ℕ). get_or (of_made onward) k 0 + get_or (of_dropped copies) k 0) ≡ counted (replied n onward took) copies
reply_parts n onward took copies = simp (add-zero, zero-add)

reply_part : (x : Onward) → listed (0 ∷ 1 ∷ 11 ∷ 14 ∷ 15 ∷ []) (onward_number x) ≡ true
    → given ((made_counter x, 1) ∷ (unsent_counter x, 1) ∷ []) ≡ of_made (onward_number x)
unfolding counter_for
reply_part onward.NotAsked h = refl
reply_part onward.SentOn h = refl
reply_part (onward.Refused o) h =
    each_obstacle (λ (n : ℕ). listed (0 ∷ 1 ∷ 11 ∷ 14 ∷ 15 ∷ []) n ≡ true → given ((Some 17, 1) ∷ (counter_for n, 1) ∷ []) ≡ of_made n)
    ((λ k. true_false (sym k)), ((λ k. true_false (sym k)), ((λ k. refl), ((λ k. true_false (sym k)), ((λ k. refl), ((λ k. refl), (λ k. true_false (sym k)))))))) o h

-- ---- one call
module _ (i : ℕ) (inside : i < 18) where
  part_at : (moves : List Move) (l : List ℕ) → given moves ≡ l → sum_at moves i ≡ get_or l i 0
  part_at moves l e = sym (tabled_at 18 (sum_at moves) i inside) ∙ ap (λ (x : List ℕ). get_or x i 0) e

  parts_at : (n local onward took copies : ℕ) → together n local onward took copies i ≡ get_or (counted (ended n local onward took) copies) i 0
  parts_at n local onward took copies =
      sym (tabled_at 18 (together n local onward took copies) i inside)
      ∙ ap (λ (x : List ℕ). get_or x i 0) (parts n local onward took copies)

  reply_parts_at : (n onward took copies : ℕ)
      → get_or (of_made onward) i 0 + get_or (of_dropped copies) i 0 ≡ get_or (counted (replied n onward took) copies) i 0
  reply_parts_at n onward took copies =
      sym (tabled_at 18 (λ (k : ℕ). get_or (of_made onward) k 0 + get_or (of_dropped copies) k 0) i inside)
      ∙ ap (λ (x : List ℕ). get_or x i 0) (reply_parts n onward took copies)

  ending_gives : (seat : Seat) (rs : List Record) (port second : ℕ) (octets : List ℕ) (room : ℕ)
      → sum_at (moves_of (heard_by seat rs port second octets room)) i ≡ given_by i (of_ending (heard_by seat rs port second octets room))
  ending_gives seat rs port second octets room =
      let e = heard_by seat rs port second octets room in
      let x = e.ruling in
      let n = local_number x.local in
      let m = onward_number x.onward in
      omega (
        arith,
        part_at ((receipt_counter e.refusal, 1) ∷ (counter_for e.refusal, 1) ∷ []) _ (refusal_part e.refusal (end_listed seat rs port second octets room)),
        part_at ((local_counter x.local, 1) ∷ []) _ (local_part x.local),
        part_at ((onward_counter x.onward, 1) ∷ []) _ (onward_part x.onward x.took (sent_where_taken seat rs port second octets room)),
        part_at ((discard_counter x.dropped, ones_of x.dropped) ∷ []) _ (discard_part x.dropped (sets_small seat rs port second octets room).dropped),
        parts_at e.refusal n m x.took (ports_in 8 x.dropped),
      )

  reply_gives : (seat : Seat) (rs : List Record) (port : ℕ) (octets : List ℕ) (room : ℕ)
      → sum_at (reply_moves (replied_by seat rs port octets room).ruling) i ≡ given_by i (of_reply (replied_by seat rs port octets room))
  reply_gives seat rs port octets room =
      let e = replied_by seat rs port octets room in
      let x = e.ruling in
      let m = onward_number x.onward in
      let small = (reply_small seat rs port octets room).dropped in
      omega (
        arith,
        part_at ((made_counter x.onward, 1) ∷ (unsent_counter x.onward, 1) ∷ []) _ (reply_part x.onward (reply_onward seat rs port octets room)),
        part_at ((discard_counter x.dropped, ones_of x.dropped) ∷ []) _ (discard_part x.dropped small),
        reply_parts_at e.refusal m x.took (ports_in 8 x.dropped),
      )

  taking_gives : (p : ℕ) (x : Taking) → sum_at (of_taking p x).moves i ≡ given_by i (of_taking p x)
  taking_gives p (Good e) = refl
  taking_gives p (Refused n) = refl

  one_call : (seat : Seat) (c : Call) → sum_at (outcome seat c).moves i ≡ given_by i (outcome seat c)
  one_call seat (operator (orders o)) = refl
  one_call seat (operator (views v)) = refl
  one_call seat (own (sets s)) = refl
  one_call seat (own (hears rs port slot second octets output)) = ending_gives seat rs port second octets (length output)
  one_call seat (own (echoes rs port slot octets output)) = reply_gives seat rs port octets (length output)
  one_call seat (own (takes port)) = taking_gives port (take_outcome (relay_in seat) port)
  one_call seat (own (sweeps second)) = refl
  one_call seat (own (looks l)) = refl

  all_calls : (cs : List Call) (seat : Seat) → sum_from (λ (o : Outcome). sum_at o.moves i) seat cs ≡ sum_from (given_by i) seat cs
  all_calls [] seat = refl
  all_calls (c ∷ cs) seat = rw (one_call seat c, all_calls cs (next seat c))

-- What a call moves counter i by is what the page's table says of its outcome.
pub moves_as_written : (seat : Seat) (c : Call) (i : ℕ) → i < 18 → sum_at (outcome seat c).moves i ≡ given_by i (outcome seat c)
moves_as_written seat c i inside = one_call i inside seat c

-- After any history of mission m counter i is the sum of what the page's table says of each outcome, modulo 2^32.
pub counted_as_written : (i : ℕ) → i < 18 → (m : ℕ) (cs : List Call) → counter_in (state_after m cs).counters i ≡ sum_over (given_by i) m cs % 2 ^ 32
counted_as_written i inside m cs = counters i inside m cs ∙ ap (λ (n : ℕ). n % 2 ^ 32) (all_calls i inside cs (fresh_seat m))
