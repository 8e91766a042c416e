-- The counters that are moved: each is one of the eighteen, or none; and one move after the other. Assumes nothing.
use Rattle.std.specs.Prelude.{Option}
use native.Mathlib.Omega.{arith}
use Prim.Native.Nat.{ℕ}
use mathlib.Core.Path.{◌≡◌, refl}
use mathlib.Core.Bool.{Bool, true, ◌&&◌}
use mathlib.Core.List.{List, [], ◌∷◌}
use lib.Dec.{eqb, ltb}
use borrow.Author.Tests.{ltb-true}
use Rattle.checks.proofs.Bools.{and_true}
use Rattle.checks.proofs.Laws.{either}
use Rattle.state.specs.Seen.{State, on_counters}
use Rattle.address.specs.Mask.{ones_of}
use Rattle.verdict.specs.Numbers.{obstacle_number}
use Rattle.verdict.specs.declared.Local.{Local}
use Rattle.verdict.specs.declared.Local.TheVariants.{No, Delivered, Unknown}
use Rattle.verdict.specs.declared.Onward.{Onward}
use Rattle.verdict.specs.declared.Onward.TheVariants.{NotAsked, SentOn, Refused}
use Rattle.verdict.specs.declared.Ruling.{Ruling}
use Rattle.sets.specs.Limits.{counter_count}
use Rattle.judge.specs.Remembered.{is_unheard}
use Rattle.judge.specs.declared.Ending.{Ending}
use Rattle.tally.specs.Tally.{CounterRow, numbered, in_table, Inside, counter_for, receipt_counter, local_counter, onward_counter, discard_counter, ruling_moves, moves_of, made_counter, unsent_counter, reply_moves, counted_at, counted_all}

-- ---- each counter is one of the eighteen, or none
abbrev all_inside : List CounterRow → Bool
all_inside [] = true
all_inside (row ∷ rows) = ltb row.1 counter_count && all_inside rows

in_table_lem : (rows : List CounterRow) (n : ℕ) → all_inside rows ≡ true → Inside (in_table rows n)
in_table_lem [] n h = tt
in_table_lem (row ∷ rows) n h =
    let both = and_true (ltb row.1 counter_count) (all_inside rows) h in
    either Inside (eqb n row.0) (ltb-true row.1 counter_count both.0) (in_table_lem rows n both.1)

number_inside : (n : ℕ) → Inside (counter_for n)
unfolding counter_for
number_inside n = in_table_lem numbered n refl

local_inside : (local : Local) → Inside (local_counter local)
local_inside No = tt
local_inside Delivered = omega arith
local_inside Unknown = number_inside 26

onward_inside : (onward : Onward) → Inside (onward_counter onward)
onward_inside NotAsked = tt
onward_inside SentOn = omega arith
onward_inside (Refused o) = number_inside (obstacle_number o)

made_inside : (onward : Onward) → Inside (made_counter onward)
made_inside NotAsked = tt
made_inside SentOn = omega arith
made_inside (Refused o) = omega arith

unsent_inside : (onward : Onward) → Inside (unsent_counter onward)
unsent_inside NotAsked = tt
unsent_inside SentOn = tt
unsent_inside (Refused o) = number_inside (obstacle_number o)

-- the same of a counter that was told
module _ {c : Option ℕ} where
  pub receipt_told : (refusal : ℕ) → c ≡ receipt_counter refusal → Inside c
  receipt_told refusal e = rw e (either Inside (is_unheard refusal) tt (omega arith))

  pub number_told : (n : ℕ) → c ≡ counter_for n → Inside c
  number_told n e = rw e (number_inside n)

  pub local_told : (local : Local) → c ≡ local_counter local → Inside c
  local_told local e = rw e (local_inside local)

  pub onward_told : (onward : Onward) → c ≡ onward_counter onward → Inside c
  onward_told onward e = rw e (onward_inside onward)

  pub discard_told : (dropped : ℕ) → c ≡ discard_counter dropped → Inside c
  discard_told dropped e = rw e (either Inside (eqb dropped 0) tt (omega arith))

  pub made_told : (onward : Onward) → c ≡ made_counter onward → Inside c
  made_told onward e = rw e (made_inside onward)

  pub unsent_told : (onward : Onward) → c ≡ unsent_counter onward → Inside c
  unsent_told onward e = rw e (unsent_inside onward)

-- ---- one counter moved after the other
pub ruling_moved :
    (s : State) (x : Ruling) {a b c : State} {local onward discard : Option ℕ} {dropped : ℕ}
    → dropped ≡ ones_of x.dropped
    → local ≡ local_counter x.local
    → a ≡ on_counters (λ l. counted_at l local 1) s
    → onward ≡ onward_counter x.onward
    → b ≡ on_counters (λ l. counted_at l onward 1) a
    → discard ≡ discard_counter x.dropped
    → c ≡ on_counters (λ l. counted_at l discard dropped) b
    → c ≡ on_counters (λ l. counted_all l (ruling_moves x)) s
ruling_moved s x e1 e2 e3 e4 e5 e6 e7 = cc

pub ending_moved :
    (s : State) (e : Ending) {a b c : State} {receipt refusal : Option ℕ}
    → receipt ≡ receipt_counter e.refusal
    → a ≡ on_counters (λ l. counted_at l receipt 1) s
    → refusal ≡ counter_for e.refusal
    → b ≡ on_counters (λ l. counted_at l refusal 1) a
    → c ≡ on_counters (λ l. counted_all l (ruling_moves e.ruling)) b
    → c ≡ on_counters (λ l. counted_all l (moves_of e)) s
ending_moved s e e1 e2 e3 e4 e5 = cc

pub reply_moved :
    (s : State) (x : Ruling) {a b c : State} {made unsent discard : Option ℕ} {dropped : ℕ}
    → dropped ≡ ones_of x.dropped
    → made ≡ made_counter x.onward
    → a ≡ on_counters (λ l. counted_at l made 1) s
    → unsent ≡ unsent_counter x.onward
    → b ≡ on_counters (λ l. counted_at l unsent 1) a
    → discard ≡ discard_counter x.dropped
    → c ≡ on_counters (λ l. counted_at l discard dropped) b
    → c ≡ on_counters (λ l. counted_all l (reply_moves x)) s
reply_moved s x e1 e2 e3 e4 e5 e6 e7 = cc
