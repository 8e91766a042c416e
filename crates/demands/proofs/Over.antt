-- What a customer's own calls come to over a trace is what they come to over its history: each step more is a call more. The law is `over_is`. Assumes
-- nothing.
use mathlib.Core.Path.{◌≡◌, refl, ap, ap₂, subst, ◌∙◌}
use mathlib.Core.List.{List, [], ◌∷◌, ◌++◌, append-nil}
use Rattle.contracts.specs.Promised.{Result}
use Rattle.contracts.specs.Stated.{Says}
use Rattle.history.specs.Calls.{MissionCall, Call, operator, own}
use Rattle.history.specs.Seat.{Seat, fresh_seat}
use Rattle.history.specs.Outcome.{seat_after, next}
use Rattle.history.proofs.Foretold.{seat_then}
use Rattle.demands.specs.Trace.{Customer, first, second, number_of, Step, operates, flies, step_of, Words, made, words_after, Trace, Passes, AllPass, Begun, history_of, seat_of, Gives}
use Rattle.demands.specs.ReadOut.{over_own}
use Rattle.demands.proofs.Traced.{history_more}

-- ---- more steps
pub trace_on : (xs ys : List Step) (w v u : Words) → Trace w xs v → Trace v ys u → Trace w (xs ++ ys) u
trace_on [] ys w v u t s = subst (λ (z : Words). Trace z ys u) t s
trace_on (d ∷ xs) ys w v u t s = (t.0, (t.1.0, trace_on xs ys (words_after w d t.0) v u t.1.1 s))

pub pass_on : (xs ys : List Step) → AllPass xs → AllPass ys → AllPass (xs ++ ys)
pass_on [] ys all more = more
pass_on (d ∷ xs) ys all more = (all.0, pass_on xs ys all.1 more)

pub begun_on : (w v u : Words) (steps more : List Step) → Begun w steps v → Trace v more u → AllPass more → Begun w (steps ++ more) u
begun_on w v u steps more b t all =
    record {
      board = b.board;
      zero = b.zero;
      one = b.one;
      fresh_board_lem = b.fresh_board_lem;
      fresh_zero = b.fresh_zero;
      fresh_one = b.fresh_one;
      then = trace_on steps more _ v u b.then t;
      passed = pass_on steps more b.passed all;
    }

-- one step more
pub pass_more : (xs : List Step) (c : Step) → AllPass xs → Passes c → AllPass (xs ++ (c ∷ []))
pass_more xs c all p = pass_on xs (c ∷ []) all (p, tt)

begun_more : (w v : Words) (steps : List Step) (c : Step) (x : Result) → Begun w steps v → Says (made v c) x → Passes c
    → Begun w (steps ++ (c ∷ [])) (words_after v c x)
begun_more w v steps c x b says p = begun_on w v (words_after v c x) steps (c ∷ []) b (x, (says, refl)) (p, tt)

-- a step that is in the customer's history, and one that is not
module _ (who : Customer) (steps : List Step) where
  seat_more : (c : Call) → history_of who (step_of who c ∷ []) ≡ c ∷ [] → seat_of who (steps ++ (step_of who c ∷ [])) ≡ next (seat_of who steps) c
  seat_more c is =
      let n = number_of who in
      ap (seat_after n) (history_more who steps (step_of who c ∷ []) ∙ ap (λ (l : List Call). history_of who steps ++ l) is)
      ∙ seat_then (history_of who steps) (fresh_seat n) c

  seat_same : (c : Step) → history_of who (c ∷ []) ≡ [] → seat_of who (steps ++ (c ∷ [])) ≡ seat_of who steps
  seat_same c is =
      ap (seat_after (number_of who))
      (history_more who steps (c ∷ []) ∙ ap (λ (l : List Call). history_of who steps ++ l) is ∙ append-nil (history_of who steps))

-- ---- over a history, where `by` is what a call comes to by the seat before it
module _ {A : Type 0} (none : A) (join : A → A → A) (by : Seat → MissionCall → A) where
  abbrev pub over_calls : Seat → List Call → A
  over_calls x [] = none
  over_calls x (operator c ∷ cs) = over_calls (next x (operator c)) cs
  over_calls x (own c ∷ cs) = join (by x c) (over_calls (next x (own c)) cs)

-- what each call comes to is the same of the words and of the seat
abbrev pub Agree : {A : Type 0} → Customer → (Words → MissionCall → Result → A) → (Seat → MissionCall → A) → Type 0
Agree who of by = (steps : List Step) (c : MissionCall) (x : Result) (g : Gives steps (flies who c) x) → of g.before c x ≡ by (seat_of who steps) c

module _ {A : Type 0} (none : A) (join : A → A → A) (of : Words → MissionCall → Result → A) (by : Seat → MissionCall → A) where
  -- then so is what all come to
  pub over_is : (who : Customer) → Agree who of by → (ds steps : List Step) (w v u : Words) → Begun w steps v → (t : Trace v ds u) → AllPass ds
      → over_own who none join of ds v u t ≡ over_calls none join by (seat_of who steps) (history_of who ds)
  over_is who AgreeAt [] steps w v u b t all = refl
  over_is who AgreeAt (operates c ∷ ds) steps w v u b t all =
      let x = t.0 in
      let more = begun_more w v steps (operates c) x b t.1.0 all.0 in
      over_is who AgreeAt ds (steps ++ (operates c ∷ [])) w (words_after v (operates c) x) u more t.1.1 all.1
      ∙ ap (λ (z : Seat). over_calls none join by z (history_of who ds)) (seat_more who steps (operator c) refl)
  over_is first AgreeAt (flies first c ∷ ds) steps w v u b t all =
      let x = t.0 in
      let more = begun_more w v steps (flies first c) x b t.1.0 all.0 in
      ap₂ join (AgreeAt steps c x (record { lent = w; before = v; begun = b; says = t.1.0; passes = all.0 }))
      (over_is first AgreeAt ds (steps ++ (flies first c ∷ [])) w (words_after v (flies first c) x) u more t.1.1 all.1
      ∙ ap (λ (z : Seat). over_calls none join by z (history_of first ds)) (seat_more first steps (own c) refl))
  over_is first AgreeAt (flies second c ∷ ds) steps w v u b t all =
      let x = t.0 in
      let more = begun_more w v steps (flies second c) x b t.1.0 all.0 in
      over_is first AgreeAt ds (steps ++ (flies second c ∷ [])) w (words_after v (flies second c) x) u more t.1.1 all.1
      ∙ ap (λ (z : Seat). over_calls none join by z (history_of first ds)) (seat_same first steps (flies second c) refl)
  over_is second AgreeAt (flies first c ∷ ds) steps w v u b t all =
      let x = t.0 in
      let more = begun_more w v steps (flies first c) x b t.1.0 all.0 in
      over_is second AgreeAt ds (steps ++ (flies first c ∷ [])) w (words_after v (flies first c) x) u more t.1.1 all.1
      ∙ ap (λ (z : Seat). over_calls none join by z (history_of second ds)) (seat_same second steps (flies first c) refl)
  over_is second AgreeAt (flies second c ∷ ds) steps w v u b t all =
      let x = t.0 in
      let more = begun_more w v steps (flies second c) x b t.1.0 all.0 in
      ap₂ join (AgreeAt steps c x (record { lent = w; before = v; begun = b; says = t.1.0; passes = all.0 }))
      (over_is second AgreeAt ds (steps ++ (flies second c ∷ [])) w (words_after v (flies second c) x) u more t.1.1 all.1
      ∙ ap (λ (z : Seat). over_calls none join by z (history_of second ds)) (seat_more second steps (own c) refl))
