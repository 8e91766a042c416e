-- Demand 3: after any history every counter is what the rules give over that history, modulo 2^32. One theorem for all counters, `counters`,
-- at the end. Assumes nothing.
use Rattle.std.specs.Prelude.{Option, Some, None}
use native.Mathlib.Omega.{arith}
use native.Mathlib.Nat.{add-zero, add_assoc, mod-add-mod, mod-eq_of_lt, mod-lt}
use Prim.Native.Nat.{ℕ, ◌+◌, ◌%◌, ◌^◌, ◌<◌}
use mathlib.Core.Path.{◌≡◌, refl, sym, ap, ◌∙◌}
use mathlib.Core.Bool.{Bool, true, false}
use mathlib.Core.List.{List, [], ◌∷◌}
use lib.ListN.{length, length-set, get_or-replicate}
use lib.Seq.{get_or-set_same, get_or-set_other}
use lib.Dec.{eqb}
use lib.Pow.{pow_pos}
use borrow.Author.Tests.{eqb-true, eqb-false}
use Rattle.checks.specs.Order.{pick}
use Rattle.state.specs.Relay.{counter_in, added}
use Rattle.state.specs.Seen.{fresh_state}
use Rattle.tally.specs.Tally.{Move, counted_at, counted_all}
use Rattle.history.specs.Seat.{Seat, fresh_seat}
use Rattle.history.specs.Calls.{Call}
use Rattle.history.specs.Outcome.{Outcome, outcome, next, sum_from}
use Rattle.history.specs.Tally.{is_at, sum_at, tally, counters_from, state_after}

-- ---- a number added modulo 2^32
none_more : (c : ℕ) → c < 2 ^ 32 → c ≡ (c + 0) % 2 ^ 32
none_more c h = sym (ap (λ (x : ℕ). x % 2 ^ 32) (add-zero c) ∙ mod-eq_of_lt h)

then_more : (a b c d : ℕ) → b ≡ (a + c) % 2 ^ 32 → (b + d) % 2 ^ 32 ≡ (a + (c + d)) % 2 ^ 32
then_more a b c d e =
    ap (λ (x : ℕ). (x + d) % 2 ^ 32) e ∙ mod-add-mod (a + c) (2 ^ 32) d ∙ ap (λ (x : ℕ). x % 2 ^ 32) (add_assoc a c d)

-- ---- one counter among eighteen
module _ (i : ℕ) (inside : i < 18) where
  pub record Fit (l : List ℕ) : Type 0 where
    pub eighteen : length l ≡ 18
    pub small : counter_in l i < 2 ^ 32

  -- a counter that is equal to a number modulo 2^32 is below it
  fit : (l : List ℕ) (n : ℕ) → length l ≡ 18 → counter_in l i ≡ n % 2 ^ 32 → Fit l
  fit l n long e = record { eighteen = long; small = rw e (mod-lt n (pow_pos 32)) }

  -- one move counted
  move_case : (l : List ℕ) (place n : ℕ) → Fit l → (t : Bool) → eqb place i ≡ t → counter_in (added l place n) i ≡ (counter_in l i + pick t n 0) % 2 ^ 32
  move_case l place n f true h = rw (eqb-true place i h) (get_or-set_same l i _ 0 (rw f.eighteen inside))
  move_case l place n f false h =
      get_or-set_other l place i _ 0 (λ z. eqb-false place i h (sym z)) ∙ none_more (counter_in l i) f.small

  move_one : (l : List ℕ) (c : Option ℕ) (n : ℕ) → Fit l → counter_in (counted_at l c n) i ≡ (counter_in l i + pick (is_at c i) n 0) % 2 ^ 32
  unfolding counted_at
  move_one l (Some place) n f = move_case l place n f (eqb place i) refl
  move_one l None n f = none_more (counter_in l i) f.small

  move_eighteen : (l : List ℕ) (c : Option ℕ) (n : ℕ) → length l ≡ 18 → length (counted_at l c n) ≡ 18
  unfolding counted_at
  move_eighteen l (Some place) n long = length-set l place _ ∙ long
  move_eighteen l None n long = long

  move_fit : (l : List ℕ) (c : Option ℕ) (n : ℕ) → Fit l → Fit (counted_at l c n)
  move_fit l c n f = fit (counted_at l c n) _ (move_eighteen l c n f.eighteen) (move_one l c n f)

  -- all moves of a call counted
  moves_fit : (moves : List Move) (l : List ℕ) → Fit l → Fit (counted_all l moves)
  moves_fit [] l f = f
  moves_fit (move ∷ moves) l f = moves_fit moves (counted_at l move.0 move.1) (move_fit l move.0 move.1 f)

  pub moves_sum : (moves : List Move) (l : List ℕ) → Fit l → counter_in (counted_all l moves) i ≡ (counter_in l i + sum_at moves i) % 2 ^ 32
  moves_sum [] l f = none_more (counter_in l i) f.small
  moves_sum (move ∷ moves) l f =
      moves_sum moves (counted_at l move.0 move.1) (move_fit l move.0 move.1 f)
      ∙ then_more (counter_in l i) _ (pick (is_at move.0 i) move.1 0) (sum_at moves i) (move_one l move.0 move.1 f)

  -- ---- all calls
  abbrev given : Outcome → ℕ
  given o = sum_at o.moves i

  all_calls : (cs : List Call) (l : List ℕ) (seat : Seat) → Fit l
      → counter_in (counters_from l seat cs) i ≡ (counter_in l i + sum_from given seat cs) % 2 ^ 32
  all_calls [] l seat f = none_more (counter_in l i) f.small
  all_calls (c ∷ cs) l seat f =
      let moves = (outcome seat c).moves in
      all_calls cs (counted_all l moves) (next seat c) (moves_fit moves l f)
      ∙ then_more (counter_in l i) (counter_in (counted_all l moves) i) (sum_at moves i) (sum_from given (next seat c) cs) (moves_sum moves l f)

  all_fit : (cs : List Call) (l : List ℕ) (seat : Seat) → Fit l → Fit (counters_from l seat cs)
  all_fit [] l seat f = f
  all_fit (c ∷ cs) l seat f = all_fit cs (counted_all l (outcome seat c).moves) (next seat c) (moves_fit (outcome seat c).moves l f)

  -- ---- of mission m
  module _ (m : ℕ) where
    fresh_zero : counter_in (fresh_state m).counters i ≡ 0
    unfolding fresh_state
    fresh_zero = get_or-replicate {A = ℕ} 18 i 0 0 inside

    fresh_eighteen : length (fresh_state m).counters ≡ 18
    unfolding fresh_state
    fresh_eighteen = refl

    fresh_fit : Fit (fresh_state m).counters
    fresh_fit = record { eighteen = fresh_eighteen; small = omega (arith, fresh_zero) }

    pub counters_fit : (cs : List Call) → Fit (state_after m cs).counters
    counters_fit cs = all_fit cs (fresh_state m).counters (fresh_seat m) fresh_fit

    -- After any history counter i is what the rules give over the history, modulo 2^32.
    pub counters : (cs : List Call) → counter_in (state_after m cs).counters i ≡ tally m cs i % 2 ^ 32
    counters cs =
        all_calls cs (fresh_state m).counters (fresh_seat m) fresh_fit
        ∙ ap (λ (n : ℕ). n % 2 ^ 32) (let e : counter_in (fresh_state m).counters i + tally m cs i ≡ tally m cs i = omega (arith, fresh_zero) in e)
