-- Floods over every history of one mission: page 02, W-207. What the memory holds is what the rules keep (`held_is_listed`, `one_place_each`, `at_most_64`);
-- the last second is the greatest that was accepted, and accepted seconds never fall (`last_is_greatest`, `seconds_never_fall`); a pair is flooded on at most
-- once until a sweep frees it (`flooded_once`, `held_not_flooded`); a held pair goes to nobody, whatever port it comes by (`held_never_sent`); and "no" with
-- "not asked" is said of a held pair alone (`unsaid_is_held`). Assumes nothing.
use Rattle.std.specs.Prelude.{Option, None}
use native.Mathlib.Omega.{arith}
use native.Mathlib.Nat.{le_trans, le-max_left, max-zero, zero-max, max-eq_right}
use native.Mathlib.Decide.{dec_le}
use Prim.Native.Nat.{ℕ, ◌+◌, ◌≤◌, ◌<◌, max}
use mathlib.Core.Path.{◌≡◌, refl, sym, ap, ap₂, subst, ◌∙◌}
use mathlib.Core.Logic.{◌⊎◌, inl, inr, ◌↔◌, ⊎_elim, by_cases}
use mathlib.Core.Bool.{Bool, true, false, not, ◌&&◌, ◌||◌}
use mathlib.Core.List.{List, [], ◌∷◌, ◌++◌}
use lib.ListN.{length, get_or, set}
use lib.Seq.{get_or-set_same}
use lib.Dec.{eqb}
use borrow.Author.Tests.{eq-eqb, ne_eqb, eqb-true, eqb-false, ltb-false}
use Rattle.checks.specs.Order.{pick, first_of, NoneHolds}
use Rattle.checks.proofs.Bools.{true_false, refuted, and_true, or_false}
use Rattle.sets.specs.Sets.{in_set, any_below}
use Rattle.sets.proofs.Anywhere.{any_found}
use Rattle.sets.proofs.Members.{in_none}
use Rattle.header.specs.Read.{header_of}
use Rattle.header.specs.declared.Fields.{Fields}
use Rattle.header.specs.declared.Header.{Header}
use Rattle.header.proofs.Refusals.{read_good}
use Rattle.meaning.specs.Flood.{is_flooded, pair_of}
use Rattle.meaning.specs.declared.Aim.{Aim}
use Rattle.meaning.specs.declared.Aim.TheVariants as aim
use Rattle.queue.specs.Order.{Each, InOrder}
use Rattle.queue.proofs.Each.{each_so}
use Rattle.records.specs.Fresh.{fresh_pair}
use Rattle.records.specs.Held.{same_pair, holds_pair, is_free}
use Rattle.records.specs.declared.Pair.{Pair}
use Rattle.records.specs.declared.PairPlace.{PairPlace}
use Rattle.records.proofs.Pairs.{same_self, same_told}
use Rattle.routes.specs.Search.{longer_mask}
use Rattle.routes.specs.declared.Record.{Record}
use Rattle.state.specs.Relay.{Memory, pair_at, put_last, put_pair, Relay}
use Rattle.state.specs.Seen.{fresh_memory}
use Rattle.lent_state.specs.View.{too_long}
use Rattle.verdict.specs.Numbers.{local_number, onward_number}
use Rattle.verdict.specs.Rule.{target_of, local_of, except_by, line_of, granted_of, copies_of, ruling_of}
use Rattle.verdict.specs.declared.Target.{Target}
use Rattle.verdict.specs.declared.Target.TheVariants.{Path, Route}
use Rattle.verdict.specs.declared.Place.{Place}
use Rattle.verdict.specs.declared.Way.{Way}
use Rattle.verdict.specs.declared.Flood.TheVariants.{Plain, Unsent}
use Rattle.verdict.specs.declared.Case.{Case}
use Rattle.verdict.specs.declared.Survey.{Survey}
use Rattle.verdict.specs.declared.Wish.{Wish}
use Rattle.verdict.specs.declared.Wish.TheVariants as wish
use Rattle.verdict.specs.declared.Obstacle.TheVariants.{QueuesFull}
use Rattle.verdict.specs.declared.Local.{Local}
use Rattle.verdict.specs.declared.Local.TheVariants.{No}
use Rattle.verdict.specs.declared.Onward.TheVariants as onward
use Rattle.verdict.specs.declared.Onward.TheVariants.{NotAsked}
use Rattle.verdict.proofs.Promises.{no_is_asked}
use Rattle.verdict.specs.declared.Ruling.{Ruling}
use Rattle.floods.specs.Memory.{is_held, sought_pair, unless_here, flood_of, remembering}
use Rattle.floods.specs.Sweep.{is_old, is_past, swept, sweep_checks, swept_memory}
use Rattle.floods.proofs.Held.{held_at, at_held, still_held}
use Rattle.floods.proofs.Swept.{swept_held}
use Rattle.judge.specs.Ruling.{case_of, flood_for, survey_for, ruled_by, rule_target, rule_aim, rule_of}
use Rattle.judge.specs.Ending.{refused_by, arrival_at, ending_of}
use Rattle.judge.specs.Remembered.{memory_of, is_unheard}
use Rattle.judge.specs.declared.ruling.Arrival.{Arrival}
use Rattle.judge.specs.declared.Ending.{Ending}
use Rattle.address.specs.Class.{class_of}
use Rattle.lookup.specs.Lookup.{path_place}
use Rattle.lookup.specs.ForTarget.{place_for, way_for}
use Rattle.page.specs.Table.{aim_at, step_rows, destination_is, equals_port, is_limited, is_host, is_ours, local_rows, local_half, Line, not_asked, refused, onward_line, line_number, line_grants, pair_held, some_free, some_port, nobody}
use Rattle.page.specs.Memory.{lowest_free, kept_place}
use Rattle.page.specs.Sought.{FloodSought, FloodNew, FloodNumber}
use Rattle.page.proofs.Sets.{empty_is}
use Rattle.page.proofs.Verdict.{masks_choose}
use Rattle.page.proofs.Exactly.{refusal_number_lem, passed, local_exactly, onward_number_lem, granted_line}
use Rattle.page.proofs.Floods.{flood_sought, flood_held, flood_full, flood_new, new_kept, free_place_lem, kept_held}
use Rattle.relay.specs.Received.{heard_memory}
use Rattle.history.specs.Seat.{Seat, fresh_seat, relay_with, heard_by, memory_by}
use Rattle.history.specs.Calls.{sets, hears, echoes, takes, sweeps, looks, Call, operator, own}
use Rattle.history.specs.Outcome.{outcome, next, run_from, seat_after}
use Rattle.history.specs.Answers.{listed}
use Rattle.history.specs.Ledger.{one}
use Rattle.history.specs.Floods.{
  pair_in,
  Among,
  HeldIn,
  held_after,
  accepted_by,
  accepted_from,
  accepted_seconds,
  greatest,
  is_flooded_on,
  floods_by,
  floods_from,
  frees_by,
  NoneFrees,
}
use Rattle.history.proofs.Heard.{heard_is, heard_so, hearing_so}
use Rattle.history.proofs.Remembered.{flood_keeping, remembering_so}
use Rattle.history.proofs.Reach.{Kept, one_kept, kept_after}
use Rattle.history.proofs.Refusals.{refused_grants_nothing}
use Rattle.history.proofs.Listed.{granted_keeps}
use Rattle.history.proofs.Small.{sets_small}
use Rattle.history.proofs.Transport.{ruling_local}
use Rattle.history.proofs.Many.{many_at, some_at, many_two}
use Rattle.history.proofs.Tracked.{has_it, holding, Tracks, at_most, pair_held_is, tracks_after}

-- ---- the pairs that are held
-- a pair with its second, told from others
equals : PairPlace → PairPlace → Bool
equals x y = same_pair y.pair x.pair && eqb y.second x.second

equals_told : (x y : PairPlace) → equals x y ≡ true → y ≡ x
unfolding equals
equals_told x y h =
    let both = and_true (same_pair y.pair x.pair) (eqb y.second x.second) h in
    ap₂ (λ (q : Pair) (n : ℕ). record { pair = q; second = n }) (same_told y.pair x.pair both.0) (eqb-true y.second x.second both.1)

equals_self : (x y : PairPlace) → y ≡ x → equals x y ≡ true
unfolding equals
equals_self x y e = rw (e, same_self x.pair) (eq-eqb x.second x.second refl)

module _ (k : Memory) (held : List PairPlace) (t : Tracks k held) where
  listed_held : (x : PairPlace) → Among x held → HeldIn x k
  listed_held x at =
      let some = many_at (equals x) fresh_pair held at.0 at.1 (equals_self x _ at.2) in
      let there = some_at (holding (equals x)) fresh_pair k.pairs (omega (arith, some, t.same (equals x))) in
      let both = and_true (not (is_free (pair_at k there.0))) (equals x (pair_at k there.0)) there.2 in
      (there.0, omega (arith, there.1, t.long), (not_free (is_free (pair_at k there.0)) both.0, equals_told x _ both.1))
    where
      not_free : (u : Bool) → not u ≡ true → u ≡ false
      not_free true h = true_false (sym h)
      not_free false h = refl

  held_listed : (x : PairPlace) → HeldIn x k → Among x held
  held_listed x at =
      let passes : holding (equals x) (pair_at k at.0) ≡ true = rw at.2.0 (equals_self x _ at.2.1) in
      let some = many_at (holding (equals x)) fresh_pair k.pairs at.0 (omega (arith, at.1, t.long)) passes in
      let there = some_at (equals x) fresh_pair held (omega (arith, some, t.same (equals x))) in
      (there.0, there.1, equals_told x _ there.2)

  -- two places of one pair are one
  apart : (i j : ℕ) → i < j → j < 64 → is_free (pair_at k i) ≡ false → (pair_at k j).pair ≡ (pair_at k i).pair → ⊥
  apart i j less inside filled e =
      let q = (pair_at k i).pair in
      let first : holding (has_it q) (pair_at k i) ≡ true = rw filled (same_self q) in
      let also : holding (has_it q) (pair_at k j) ≡ true = rw e (rw filled (same_self q)) in
      let two = many_two (holding (has_it q)) fresh_pair k.pairs i j less (omega (arith, inside, t.long)) first also in
      omega (arith, two, t.same (has_it q), t.once q)

module _ (m : ℕ) (cs : List Call) where
  abbrev memory : Memory
  memory = (seat_after m cs).memory

  -- A pair with its second is in the list that the rules give exactly where some place of the memory holds it, ..
  pub held_is_listed : (x : PairPlace) → Among x (held_after m cs) ↔ HeldIn x (seat_after m cs).memory
  held_is_listed x = (listed_held memory (held_after m cs) (tracks_after m cs) x, held_listed memory (held_after m cs) (tracks_after m cs) x)

  -- .. each pair in one place only, ..
  pub one_place_each : (i j : ℕ) → i < 64 → j < 64 → is_free (pair_at (seat_after m cs).memory i) ≡ false
      → (pair_at (seat_after m cs).memory i).pair ≡ (pair_at (seat_after m cs).memory j).pair → i ≡ j
  one_place_each i j hi hj filled e =
      let t = tracks_after m cs in
      by_cases (dec_le i j)
      (λ le. by_cases (dec_le j i) (λ ge. omega arith) (λ less. absurd (apart memory (held_after m cs) t i j (omega (arith, less)) hj filled (sym e))))
      (λ more. absurd (apart memory (held_after m cs) t j i (omega (arith, more)) hi (sym (ap (λ (q : Pair). eqb q.format 0) e) ∙ filled) e))

  -- .. and the list has at most 64.
  pub at_most_64 : length (held_after m cs) ≤ 64
  at_most_64 = at_most memory (held_after m cs) (tracks_after m cs)

-- ---- the seconds
-- what the last second was, what is accepted then, and what it is now
abbrev Moves : ℕ → List ℕ → ℕ → Type 0
Moves last [] now = now ≡ last
Moves last (s ∷ rest) now = (now ≡ s) × ((last ≤ s) × (rest ≡ []))

module _ (seat : Seat) where
  abbrev last : ℕ
  last = seat.memory.last

  one_moves : (c : Call) → Moves last (accepted_by c (outcome seat c).answer) (next seat c).memory.last
  unfolding swept_memory swept first_of
  one_moves (operator c) = refl
  one_moves (own (sets s)) = refl
  one_moves (own (hears rs port slot second octets output)) =
      hearing_so seat rs port second octets (λ e k. Moves last (pick (is_unheard e.refusal) [] (second ∷ [])) k.last)
      (λ n un. rw un refl)
      (λ now n some heard. rw heard (refl, (ltb-false second last now, refl)))
      (λ now h is good.
      remembering_so (λ (k : Memory). Moves last (second ∷ []) k.last) seat.memory second (refl, (ltb-false second last now, refl)) _ _
      (λ place new. (refl, (ltb-false second last now, refl))))
      (length output)
  one_moves (own (echoes rs port slot octets output)) = refl
  one_moves (own (takes port)) = refl
  one_moves (own (sweeps second)) = by (is_past seat.memory second) refl
    where
      by : (t : Bool) → is_past seat.memory second ≡ t
          → Moves last (pick (eqb (pick t 29 0) 0) (second ∷ []) [])
          (pick (eqb (pick t 29 0) 0) (swept seat.board.lifetime second seat.memory) seat.memory).last
      by true past = refl
      by false now = (refl, (ltb-false second last now, refl))
  one_moves (own (looks l)) = refl

last_from : (cs : List Call) (seat : Seat) → (run_from seat cs).memory.last ≡ max seat.memory.last (greatest (accepted_from seat cs))
last_from [] seat = sym (max-zero seat.memory.last)
last_from (c ∷ cs) seat = by (accepted_by c (outcome seat c).answer) (one_moves seat c) (last_from cs (next seat c))
  where
    rest : List ℕ
    rest = accepted_from (next seat c) cs

    by : (l : List ℕ) → Moves seat.memory.last l (next seat c).memory.last
        → (run_from (next seat c) cs).memory.last ≡ max (next seat c).memory.last (greatest rest)
        → (run_from (next seat c) cs).memory.last ≡ max seat.memory.last (greatest (l ++ rest))
    by [] moved e = e ∙ ap (λ (n : ℕ). max n (greatest rest)) moved
    by (s ∷ l) moved e =
        e
        ∙ ap (λ (n : ℕ). max n (greatest rest)) moved.0
        ∙ sym (max-eq_right (le_trans moved.1.0 (le-max_left s (greatest rest))))
        ∙ ap (λ (z : List ℕ). max seat.memory.last (max s (greatest (z ++ rest)))) (sym moved.1.1)

-- from the last second on, none is under one before it
abbrev Rising : ℕ → List ℕ → Type 0
Rising last l = Each (λ (s : ℕ). last ≤ s) l × InOrder (λ (a b : ℕ). a ≤ b) l

rising_from : (cs : List Call) (seat : Seat) → Rising seat.memory.last (accepted_from seat cs)
rising_from [] seat = (tt, tt)
rising_from (c ∷ cs) seat = by (accepted_by c (outcome seat c).answer) (one_moves seat c) (rising_from cs (next seat c))
  where
    rest : List ℕ
    rest = accepted_from (next seat c) cs

    by : (l : List ℕ) → Moves seat.memory.last l (next seat c).memory.last → Rising (next seat c).memory.last rest
        → Rising seat.memory.last (l ++ rest)
    by [] moved r = subst (λ (n : ℕ). Rising n rest) moved r
    by (s ∷ l) moved r =
        let on : Rising s rest = subst (λ (n : ℕ). Rising n rest) moved.0 r in
        let all : Rising s (l ++ rest) = subst (λ (z : List ℕ). Rising s (z ++ rest)) (sym moved.1.1) on in
        ((moved.1.0, each_so (l ++ rest) (λ a h. le_trans moved.1.0 h) all.0), all)

-- After any history the last second is the greatest that was accepted, 0 where none was, ..
pub last_is_greatest : (m : ℕ) (cs : List Call) → (seat_after m cs).memory.last ≡ greatest (accepted_seconds m cs)
unfolding fresh_memory
last_is_greatest m cs = last_from cs (fresh_seat m) ∙ zero-max (greatest (accepted_seconds m cs))

-- .. and the seconds that are accepted never fall.
pub seconds_never_fall : (m : ℕ) (cs : List Call) → InOrder (λ (a b : ℕ). a ≤ b) (accepted_seconds m cs)
seconds_never_fall m cs = (rising_from cs (fresh_seat m)).1

-- ---- a datagram
abbrev sent_numbers : List ℕ
sent_numbers = 1 ∷ 10 ∷ 11 ∷ 13 ∷ 14 ∷ 15 ∷ []

module _ (seat : Seat) (rs : List Record) (port second : ℕ) (octets : List ℕ) (room : ℕ) where
  abbrev r : Relay
  r = relay_with seat rs

  abbrev h : Header
  h = header_of octets

  abbrev x : Aim
  x = aim_at r port octets

  abbrev own_address : Bool
  own_address = equals_port r x || destination_is x is_limited

  abbrev line : Line
  line = onward_line longer_mask r port x h.fields

  -- what is for this node, and all that a host hears, has no port wanted
  abbrev Quiet : Line → Type 0
  Quiet l = (listed sent_numbers (line_number r port h l) ≡ false) × ((p : ℕ) → line_grants r port h l p ≡ false)

  quiet_case : (mine host heard : Bool) (rest : Line) → (mine || host) ≡ true
      → Quiet (pick mine not_asked (pick (host && heard) not_asked (pick host (refused 9) rest)))
  quiet_case true host heard rest e = (refl, λ p. refl)
  quiet_case false true true rest e = (refl, λ p. refl)
  quiet_case false true false rest e = (refl, λ p. refl)
  quiet_case false false heard rest e = true_false (sym e)

  quiet_line : (own_address || is_host r) ≡ true → Quiet line
  unfolding onward_line
  quiet_line e = quiet_case own_address (is_host r) (not (eqb (local_half r port x h.fields) 0)) _ e

  own_case : (mine : Bool) (rest : Line) → mine ≡ true → pick mine not_asked rest ≡ not_asked
  own_case true rest e = refl
  own_case false rest e = true_false (sym e)

  own_line : own_address ≡ true → line ≡ not_asked
  unfolding onward_line
  own_line e = own_case own_address _ e

  abbrev ending : Ending
  ending = ending_of r port second octets room

  -- nothing refused it, or nothing became of it
  judged_or : (P : Ruling → Type 0) → P (refused_by 0).ruling → (ending.refusal ≡ 0 → P ending.ruling) → P ending.ruling
  judged_or P none judged = by (eqb ending.refusal 0) refl
    where
      by : (t : Bool) → eqb ending.refusal 0 ≡ t → P ending.ruling
      by true e = judged (eqb-true ending.refusal 0 e)
      by false e = rw (refused_grants_nothing r port second octets room (eqb-false ending.refusal 0 e)) none

  module _ (flooded : is_flooded (header_of octets).fields ≡ true) where
    sought : ending.refusal ≡ 0 → (own_address || is_host r) ≡ false → FloodSought r port second octets room
    sought none other =
        let both = or_false own_address (is_host r) other in
        flood_sought r port second octets room none both.1 flooded both.0

    -- one that has ports wanted is new
    page_new : ending.refusal ≡ 0 → listed sent_numbers (onward_number ending.ruling.onward) ≡ true → FloodNew r port second octets room
    page_new none sent = by (own_address || is_host r) refl
      where
        judged : line_number r port h line ≡ onward_number ending.ruling.onward
        judged =
            sym (onward_number_lem r port second octets room longer_mask (masks_choose r)
            ((passed r port second octets room).0 (sym (refusal_number_lem r port second octets room) ∙ none)))

        by_free : (s : FloodSought r port second octets room) → pair_held r port h.fields ≡ false → (t : Bool) → some_free r ≡ t → FloodNew r port second octets room
        by_free s other true e = record { sought = s; not_held = other; free = e }
        by_free s other false e = true_false (sym sent ∙ ap (listed sent_numbers) (flood_full r port second octets room s other e).0)

        by_pair : FloodSought r port second octets room → (t : Bool) → pair_held r port h.fields ≡ t → FloodNew r port second octets room
        by_pair s true e = true_false (sym sent ∙ ap (listed sent_numbers) (flood_held r port second octets room s e).0)
        by_pair s false e = by_free s e (some_free r) refl

        by : (t : Bool) → (own_address || is_host r) ≡ t → FloodNew r port second octets room
        by true e = true_false (sym sent ∙ ap (listed sent_numbers) (sym judged) ∙ (quiet_line e).0)
        by false e = by_pair (sought none e) (pair_held r port h.fields) refl

    -- and one whose pair is held goes to nobody
    abbrev Unwanted : Ruling → Type 0
    Unwanted y = ((p : ℕ) → p < 8 → in_set p y.granted ≡ false) × (is_host r ≡ false → onward_number y.onward ≡ 0)

    page_unsent : pair_held r port h.fields ≡ true → ending.refusal ≡ 0 → Unwanted ending.ruling
    page_unsent held none = by (own_address || is_host r) refl
      where
        all : NoneHolds (step_rows r port second octets room)
        all = (passed r port second octets room).0 (sym (refusal_number_lem r port second octets room) ∙ none)

        own-or : (mine host : Bool) → (mine || host) ≡ true → host ≡ false → mine ≡ true
        own-or true host e f = refl
        own-or false host e f = true_false (sym e ∙ f)

        by : (t : Bool) → (own_address || is_host r) ≡ t → Unwanted ending.ruling
        by true e = (
          λ p inside. granted_line r port second octets room longer_mask (masks_choose r) p inside all ∙ (quiet_line e).1 p,
          λ router.
              onward_number_lem r port second octets room longer_mask (masks_choose r) all
              ∙ ap (line_number r port h) (own_line (own-or own_address (is_host r) e router)),
        )
        by false e = let is = flood_held r port second octets room (sought none e) held in (is.1, λ router. is.0)

  -- A flooded datagram whose pair is held has granted nobody, whatever port it comes by, and on a router it is not asked.
  pub held_never_sent : is_flooded (header_of octets).fields ≡ true → is_held seat.memory (pair_in seat port octets) ≡ true
      → ((heard_by seat rs port second octets room).ruling.granted ≡ 0)
      × ((seat.board.router ≡ 0 → ⊥) → onward_number (heard_by seat rs port second octets room).ruling.onward ≡ 0)
  unfolding some_port
  held_never_sent flooded held =
      let none : Unwanted flooded (refused_by 0).ruling = ((λ p inside. in_none p), (λ router. refl)) in
      let unsent =
      heard_so seat rs port second octets room (λ (e : Ending). Unwanted flooded e.ruling) none
      (judged_or (Unwanted flooded) none (page_unsent flooded (pair_held_is seat rs port octets ∙ held))) in (
        eqb-true (heard_by seat rs port second octets room).ruling.granted 0
            (empty_is (heard_by seat rs port second octets room).ruling.granted nobody (sets_small seat rs port second octets room).granted unsent.0),
        λ router. unsent.1 (ne_eqb seat.board.router 0 router),
      )

-- ---- a pair that is flooded on
module _ (q : Pair) where
  -- it was not held, and is now
  record Floods (seat : Seat) (left : Memory) : Type 0 where
    new : is_held seat.memory q ≡ false
    now : is_held left q ≡ true
    dated : q.format ≡ 0 → ⊥

  module _ (seat : Seat) (k : Kept seat) (rs : List Record) (port second : ℕ) (octets : List ℕ) (room : ℕ) where
    kept_now : (l : Memory) → FloodNew (relay_with seat rs) port second octets room → pair_in seat port octets ≡ q
        → l.pairs ≡ set seat.memory.pairs (lowest_free (relay_with seat rs)) (kept_place (relay_with seat rs) port second octets)
        → Floods seat l
    unfolding holds_pair
    kept_now l is same e =
        let r = relay_with seat rs in
        let place = free_place_lem r port second octets room is.free in
        let stands : pair_at l (lowest_free r) ≡ kept_place r port second octets =
        ap (λ (z : List PairPlace). get_or z (lowest_free r) fresh_pair) e
        ∙ get_or-set_same seat.memory.pairs (lowest_free r) _ fresh_pair (omega (arith, place.0, k.pairs)) in
        record {
          new = ap (is_held seat.memory) (sym same) ∙ sym (pair_held_is seat rs port octets) ∙ is.not_held;
          now = at_held l q (lowest_free r) place.0 (ap (λ (y : PairPlace). same_pair y.pair q) stands ∙ rw same (same_self q));
          dated = λ z. eqb-false (pair_in seat port octets).format 0 (kept_held r port second octets room is.sought) (ap (λ (y : Pair). y.format) same ∙ z);
        }

    heard_floods : is_flooded_on q seat rs port second octets room ≡ true → Floods seat (memory_by seat rs port second octets room)
    unfolding heard_memory
    heard_floods on =
        let flood = and_true (is_flooded (header_of octets).fields) _ on in
        let both = and_true (same_pair (pair_in seat port octets) q) _ flood.1 in
        by flood.0 (same_told (pair_in seat port octets) q both.0) both.1 (too_long rs) refl
      where
        ended : Ending
        ended = ending_of (relay_with seat rs) port second octets room

        by : is_flooded (header_of octets).fields ≡ true → pair_in seat port octets ≡ q
            → listed sent_numbers (onward_number (heard_by seat rs port second octets room).ruling.onward) ≡ true
            → (t : Bool) → too_long rs ≡ t → Floods seat (pick t seat.memory (memory_of (relay_with seat rs) port second octets room))
        by flooded same sent true long =
            true_false
            (sym sent ∙ ap (λ (e : Ending). listed sent_numbers (onward_number e.ruling.onward)) (heard_is seat rs port second octets room true long))
        by flooded same sent false short =
            let was : listed sent_numbers (onward_number ended.ruling.onward) ≡ true =
            ap (λ (e : Ending). listed sent_numbers (onward_number e.ruling.onward)) (sym (heard_is seat rs port second octets room false short)) ∙ sent in
            judged_or seat rs port second octets room
            (λ (y : Ruling). listed sent_numbers (onward_number y.onward) ≡ true → Floods seat (memory_of (relay_with seat rs) port second octets room))
            (λ z. true_false (sym z))
            (λ none z.
            let is = page_new seat rs port second octets room flooded none z in
            kept_now (memory_of (relay_with seat rs) port second octets room) is same (new_kept (relay_with seat rs) port second octets room is))
            was

  -- each call floods it on or does not
  abbrev FloodsOr : Seat → Call → Type 0
  FloodsOr seat c = (floods_by q seat c ≡ 0) ⊎ ((floods_by q seat c ≡ 1) × Floods seat (next seat c).memory)

  one_floods : (seat : Seat) → Kept seat → (c : Call) → FloodsOr seat c
  one_floods seat k (operator c) = inl refl
  one_floods seat k (own (sets s)) = inl refl
  one_floods seat k (own (hears rs port slot second octets output)) =
      by (is_flooded_on q seat rs port second octets (length output)) (heard_floods seat k rs port second octets (length output))
    where
      by : (t : Bool) → (t ≡ true → Floods seat (memory_by seat rs port second octets (length output)))
          → (one t ≡ 0) ⊎ ((one t ≡ 1) × Floods seat (memory_by seat rs port second octets (length output)))
      by true floods = inr (refl, floods refl)
      by false floods = inl refl
  one_floods seat k (own (echoes rs port slot octets output)) = inl refl
  one_floods seat k (own (takes port)) = inl refl
  one_floods seat k (own (sweeps second)) = inl refl
  one_floods seat k (own (looks l)) = inl refl

  -- ---- a held pair stays held, unless a sweep frees it
  module _ (dated : q.format ≡ 0 → ⊥) where
    accepted_held : (k : Memory) (second : ℕ) → is_held k q ≡ true → is_held (put_last k second) q ≡ true
    unfolding is_held
    accepted_held k second held = held

    kept_held_still : (k : Memory) (second place : ℕ) (p : Pair) → is_free (pair_at k place) ≡ true → is_held k q ≡ true
        → is_held (put_pair (put_last k second) place (record { pair = p; second = second })) q ≡ true
    unfolding remembering
    kept_held_still k second place p free held = still_held k place p second q free dated held

    stays_held : (seat : Seat) (c : Call) → is_held seat.memory q ≡ true → frees_by q seat c ≡ false → is_held (next seat c).memory q ≡ true
    unfolding swept_memory
    stays_held seat (operator c) held unfreed = held
    stays_held seat (own (sets s)) held unfreed = held
    stays_held seat (own (hears rs port slot second octets output)) held unfreed =
        hearing_so seat rs port second octets (λ e k. is_held k q ≡ true) (λ n un. held) (λ now n some heard. accepted_held seat.memory second held)
        (λ now h is good.
        remembering_so (λ (k : Memory). is_held k q ≡ true) seat.memory second (accepted_held seat.memory second held) _ _
        (λ place new.
        kept_held_still seat.memory second place _ (flood_keeping seat.memory _ h.fields good.1.1.1.1.0 place _ _ new).free held))
        (length output)
    stays_held seat (own (echoes rs port slot octets output)) held unfreed = held
    stays_held seat (own (takes port)) held unfreed = held
    stays_held seat (own (sweeps second)) held unfreed = by (eqb (first_of (sweep_checks seat.memory second)) 0) unfreed
      where
        freed : ℕ → Bool
        freed i = holds_pair (pair_at seat.memory i) q && is_old seat.board.lifetime second (pair_at seat.memory i)

        by : (t : Bool) → (t && any_below freed 64) ≡ false
            → is_held (pick t (swept seat.board.lifetime second seat.memory) seat.memory) q ≡ true
        by true none =
            let at = held_at seat.memory q held in
            let young : is_old seat.board.lifetime second (pair_at seat.memory at.0) ≡ false =
            refuted _ (λ is. true_false (sym (any_found freed at.0 64 at.1 (rw at.2 is)) ∙ none)) in
            (swept_held seat.board.lifetime second seat.memory q dated).1 (at.0, at.1, (young, at.2))
        by false none = held
    stays_held seat (own (looks l)) held unfreed = held

    -- ---- all calls
    once_from : (cs : List Call) (seat : Seat) → Kept seat → NoneFrees q seat cs
        → (is_held seat.memory q ≡ true → floods_from q seat cs ≡ 0) × (floods_from q seat cs ≤ 1)
    once_from [] seat k none = ((λ held. refl), omega arith)
    once_from (c ∷ cs) seat k none = by (one_floods seat k c) (once_from cs (next seat c) (one_kept seat c k) none.1)
      where
        rest : ℕ
        rest = floods_from q (next seat c) cs

        by : FloodsOr seat c → (is_held (next seat c).memory q ≡ true → rest ≡ 0) × (rest ≤ 1)
            → (is_held seat.memory q ≡ true → floods_by q seat c + rest ≡ 0) × (floods_by q seat c + rest ≤ 1)
        by (inl z) after = ((λ held. omega (arith, z, after.0 (stays_held seat c held none.0))), omega (arith, z, after.1))
        by (inr is) after = ((λ held. true_false (sym held ∙ is.1.new)), omega (arith, is.0, after.0 is.1.now))

  -- a pair without a timestamp is never flooded on
  undated_none : q.format ≡ 0 → (cs : List Call) (seat : Seat) → Kept seat → floods_from q seat cs ≡ 0
  undated_none undated [] seat k = refl
  undated_none undated (c ∷ cs) seat k = by (one_floods seat k c) (undated_none undated cs (next seat c) (one_kept seat c k))
    where
      by : FloodsOr seat c → floods_from q (next seat c) cs ≡ 0 → floods_by q seat c + floods_from q (next seat c) cs ≡ 0
      by (inl z) after = omega (arith, z, after)
      by (inr is) after = absurd (is.1.dated undated)

-- After any history cs, of the calls ds among which no sweep frees the pair, at most one is flooded on with it, ..
module _ (m : ℕ) (cs ds : List Call) (q : Pair) (none : NoneFrees q (seat_after m cs) ds) where
  once_case : (t : Bool) → eqb q.format 0 ≡ t
      → (is_held (seat_after m cs).memory q ≡ true → floods_from q (seat_after m cs) ds ≡ 0) × (floods_from q (seat_after m cs) ds ≤ 1)
  once_case true e =
      let never = undated_none q (eqb-true q.format 0 e) ds (seat_after m cs) (kept_after m cs) in
      ((λ held. never), omega (arith, never))
  once_case false e = once_from q (eqb-false q.format 0 e) ds (seat_after m cs) (kept_after m cs) none

  pub flooded_once : floods_from q (seat_after m cs) ds ≤ 1
  flooded_once = (once_case (eqb q.format 0) refl).1

  -- .. and none where it is held after cs.
  pub held_not_flooded : is_held (seat_after m cs).memory q ≡ true → floods_from q (seat_after m cs) ds ≡ 0
  held_not_flooded = (once_case (eqb q.format 0) refl).0

-- ---- "no" with "not asked"
abbrev is_asked : Wish → Bool
is_asked wish.NotAsked = false
is_asked (wish.Refused o) = true
is_asked (wish.Wanted set) = true

abbrev Asked : Wish → Type 0
Asked l = is_asked l ≡ true

granted_asked : (l : Wish) (c : Case) (s : Survey) → Asked l → Asked (granted_of l c s)
granted_asked = granted_keeps Asked refl refl refl (λ set. refl)

ruling_asked : (local : Local) (l : Wish) (full : ℕ) → Asked l → (ruling_of local l full).onward ≡ NotAsked → ⊥
unfolding ruling_of copies_of
ruling_asked local wish.NotAsked full e o = true_false (sym e)
ruling_asked local (wish.Refused n) full e o = true_false cc
ruling_asked local (wish.Wanted set) full e o = by (eqb (except_by set full) 0) o
  where
    by : (t : Bool) → pick t (onward.Refused QueuesFull) onward.SentOn ≡ NotAsked → ⊥
    by true k = true_false cc
    by false k = true_false cc

line_not : (l : Wish) → (Asked l → ⊥) → l ≡ wish.NotAsked
line_not wish.NotAsked never = refl
line_not (wish.Refused o) never = absurd (never refl)
line_not (wish.Wanted set) never = absurd (never refl)

-- a ruling that says both is that of a flood which the pairs, or the destination, keep here
ruled_unsaid : (t : Target) (p : Option Place) (w : Option Way) (c : Case) (s : Survey) → (ruled_by t p w c s).local ≡ No → (ruled_by t p w c s).onward ≡ NotAsked
    → c.flood ≡ Unsent
unfolding ruled_by
ruled_unsaid t p w c s l o =
    let local = local_of t p c in
    let line = line_of t p w c s.ready local in
    no_is_asked t p w c s.ready (sym (ruling_local local (granted_of line c s) s.full) ∙ l)
    (line_not line (λ asked. ruling_asked local (granted_of line c s) s.full (granted_asked line c s asked) o))

aim_unsaid : (r : Relay) (x : Aim) (c : Case) (s : Survey) → (rule_aim r x c s).local ≡ No → (rule_aim r x c s).onward ≡ NotAsked → c.flood ≡ Unsent
unfolding rule_target
aim_unsaid r (aim.Node a) c s l o =
    let t = target_of (class_of a.0) s in
    ruled_unsaid t (place_for r t a c.arrival) (way_for r t a) c s l o
aim_unsaid r (aim.Path y) c s l o = ruled_unsaid Path (path_place r y) None c s l o
aim_unsaid r aim.Uncarried c s l o = ruled_unsaid Route None None c s l o

rule_unsaid : (r : Relay) (at : Arrival) (x : Aim) (h : Header) → (rule_of r at x h).local ≡ No → (rule_of r at x h).onward ≡ NotAsked
    → flood_for r at x h ≡ Unsent
unfolding rule_of
rule_unsaid r at x h l o = aim_unsaid r x (case_of r.router at.set h.fields (flood_for r at x h)) (survey_for r at x h) l o

unsent_flooded : (router : ℕ) (t : Target) (k : Memory) (port : ℕ) (f : Fields) → flood_of router t k port f ≡ Unsent
    → (is_flooded f ≡ true) × (eqb router 0 ≡ false)
unfolding flood_of
unsent_flooded router t k port f e = by (is_flooded f) (eqb router 0) e
  where
    by : (u v : Bool) → pick (u && not v) (unless_here t (sought_pair k (pair_of port f))) Plain ≡ Unsent → (u ≡ true) × (v ≡ false)
    by true true z = true_false cc
    by true false z = (refl, refl)
    by false v z = true_false cc

never_none : (n : ℕ) → FloodNumber n → n ≡ 0 → ⊥
never_none n is z =
    ⊎_elim (λ e. omega (arith, e, z))
    (λ e. ⊎_elim (λ e. omega (arith, e, z))
    (λ e. ⊎_elim (λ e. omega (arith, e, z))
    (λ e. ⊎_elim (λ e. omega (arith, e, z)) (λ e. ⊎_elim (λ e. omega (arith, e, z)) (λ e. omega (arith, e, z)) e) e) e) e) is

-- what is not ours is no port's address and not limited broadcast
not_ours : (r : Relay) (at : ℕ) (x : Aim) (f : Fields) → is_ours r at x f ≡ false → (equals_port r x || destination_is x is_limited) ≡ false
unfolding is_ours
not_ours r at x f e = (or_false _ _ (or_false _ _ (or_false _ _ (or_false _ _ e).0).0).0).0

module _ (seat : Seat) (rs : List Record) (port second : ℕ) (octets : List ℕ) (room : ℕ) where
  -- both halves empty, and nothing refused
  abbrev Unsaid : Ending → Type 0
  Unsaid e = (e.refusal ≡ 0) × ((e.ruling.local ≡ No) × (e.ruling.onward ≡ NotAsked))

  unsaid_flooded : Unsaid (heard_by seat rs port second octets room) → (is_flooded (header_of octets).fields ≡ true) × (is_host (relay_with seat rs) ≡ false)
  unsaid_flooded =
      hearing_so seat rs port second octets (λ e k. Unsaid e → (is_flooded (header_of octets).fields ≡ true) × (is_host (relay_with seat rs) ≡ false))
      (λ n un u. true_false (sym un ∙ ap is_unheard u.0))
      (λ now n some heard u. absurd (some u.0))
      (λ now g is good u.
      let e = unsent_flooded _ _ _ _ g.fields (rule_unsaid (relay_with seat rs) (arrival_at (relay_with seat rs) port) _ g u.1.0 u.1.1) in
      (ap (λ (z : Header). is_flooded z.fields) (sym ((read_good octets g).0 is).1) ∙ e.0, e.1))
      room

  page_unsaid : is_flooded (header_of octets).fields ≡ true → is_host (relay_with seat rs) ≡ false
      → Unsaid (ending_of (relay_with seat rs) port second octets room) → pair_held (relay_with seat rs) port (header_of octets).fields ≡ true
  unfolding local_rows
  page_unsaid flooded router u = by_pair (pair_held (relay_with seat rs) port (header_of octets).fields) refl
    where
      none : NoneHolds (step_rows (relay_with seat rs) port second octets room)
      none =
          (passed (relay_with seat rs) port second octets room).0 (sym (refusal_number_lem (relay_with seat rs) port second octets room) ∙ u.0)

      other : is_ours (relay_with seat rs) port (aim_at (relay_with seat rs) port octets) (header_of octets).fields ≡ false
      other = ((local_exactly (relay_with seat rs) port second octets room none).0.0 (ap local_number u.1.0)).1.0

      s : FloodSought (relay_with seat rs) port second octets room
      s = flood_sought (relay_with seat rs) port second octets room u.0 router flooded (not_ours (relay_with seat rs) port _ _ other)

      number : onward_number (ending_of (relay_with seat rs) port second octets room).ruling.onward ≡ 0
      number = ap onward_number u.1.1

      by_free : pair_held (relay_with seat rs) port (header_of octets).fields ≡ false → (t : Bool) → some_free (relay_with seat rs) ≡ t → ⊥
      by_free new true e = never_none _ (flood_new (relay_with seat rs) port second octets room (record { sought = s; not_held = new; free = e })).0 number
      by_free new false e = let thirty = (flood_full (relay_with seat rs) port second octets room s new e).0 in omega (arith, number, thirty)

      by_pair : (t : Bool) → pair_held (relay_with seat rs) port (header_of octets).fields ≡ t → t ≡ true
      by_pair true e = refl
      by_pair false e = absurd (by_free e (some_free (relay_with seat rs)) refl)

  -- "No" with "not asked" is said of a flooded datagram on a router alone, and of one whose pair is held.
  pub unsaid_is_held : (heard_by seat rs port second octets room).refusal ≡ 0
      → (heard_by seat rs port second octets room).ruling.local ≡ No
      → (heard_by seat rs port second octets room).ruling.onward ≡ NotAsked
      → (seat.board.router ≡ 0 → ⊥) × ((is_flooded (header_of octets).fields ≡ true) × (is_held seat.memory (pair_in seat port octets) ≡ true))
  unsaid_is_held none l o =
      let is = unsaid_flooded (none, (l, o)) in
      let held =
      heard_so seat rs port second octets room (λ (e : Ending). Unsaid e → pair_held (relay_with seat rs) port (header_of octets).fields ≡ true)
      (λ u. absurd (eqb-false 21 0 refl u.0)) (page_unsaid is.0 is.1) (none, (l, o)) in
      (eqb-false seat.board.router 0 is.1, (is.0, sym (pair_held_is seat rs port octets) ∙ held))
