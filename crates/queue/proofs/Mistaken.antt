-- Laws near to W-213 that are false, each with a small line that breaks it; and the true one, said in the same way. Assumes nothing.
use Prim.Native.Nat.{ℕ, ◌+◌}
use mathlib.Core.Path.{◌≡◌, refl}
use mathlib.Core.List.{List, [], ◌∷◌, ◌++◌}
use native.Mathlib.Omega.{arith}
use lib.Dec.{ltb, leb}
use lib.ListN.{length}
use Rattle.queue.specs.Order.{Each}
use Rattle.queue.specs.Waits.{chosen}
use Rattle.queue.specs.Foretold.{Deed, enters, hands_out, entered, how_many, AtTake, handed, standing_before, higher_in, Other, while_waits}
use Rattle.queue.proofs.Foretold.{foretold}

-- one that waits, by its rank and its turn alone
pub record Entered : Type 0 where
  pub rank : ℕ
  pub turn : ℕ

abbrev rank_of : Entered → ℕ
rank_of x = x.rank

abbrev turn_of : Entered → ℕ
turn_of x = x.turn

abbrev Rule : Type 0
Rule = (x : Entered) → List Entered → List (Deed Entered) → ℕ

-- any take that hands x out has the number that the rule gives
abbrev Holds : Rule → Type 0
Holds rule =
    (x : Entered) (line : List Entered) (ds : List (Deed Entered)) → Each (Other turn_of x) (line ++ entered ds) → (k : ℕ)
    → AtTake k x (handed rank_of (line ++ (x ∷ [])) ds) → k ≡ rule x line ds

abbrev meanwhile : Entered → List Entered → List (Deed Entered) → List (Deed Entered)
meanwhile x line ds = while_waits rank_of turn_of x (line ++ (x ∷ [])) ds

pub true_rule : Holds (λ x line ds. standing_before rank_of x line + higher_in rank_of x (meanwhile x line ds) + 1)
true_rule x line ds others k h = ((foretold rank_of turn_of x line ds others k).0 h).0

-- ---- one of rank 5 in turn 1, and what may stand beside it

abbrev five : Entered
five = record { rank = 5; turn = 1 }

abbrev older : ℕ → Entered
older rank = record { rank = rank; turn = 0 }

abbrev newer : ℕ → Entered
newer rank = record { rank = rank; turn = 2 }

abbrev take_after : Entered → List (Deed Entered)
take_after y = enters y ∷ hands_out ∷ hands_out ∷ []

-- the take that hands it out, by the list of what is handed out
abbrev out_after : (earlier later : List Entered) → AtTake (length earlier + 1) five (earlier ++ five ∷ later)
out_after earlier later = record { earlier = earlier; later = later; are = refl; number = refl }

one_is_not_two : ◌≡◌ {A = ℕ} 1 2 → ⊥
one_is_not_two h = omega arith

two_is_not_one : ◌≡◌ {A = ℕ} 2 1 → ⊥
two_is_not_one h = omega arith

-- a higher one that enters counts
pub not_whatever_enters : Holds (λ x line ds. standing_before rank_of x line + 1) → ⊥
unfolding handed chosen
not_whatever_enters law = two_is_not_one (law five [] (take_after (newer 6)) (λ same. omega arith, tt) 2 (out_after (newer 6 ∷ []) []))

-- one of the same rank that enters does not
pub not_equals_too : Holds (λ x line ds. standing_before rank_of x line + how_many (λ y. leb (rank_of x) (rank_of y)) (entered (meanwhile x line ds)) + 1) → ⊥
unfolding handed chosen while_waits
not_equals_too law = one_is_not_two (law five [] (take_after (newer 5)) (λ same. omega arith, tt) 1 (out_after [] (newer 5 ∷ [])))

-- nor does a higher one that enters when it is out
pub not_later_too : Holds (λ x line ds. standing_before rank_of x line + higher_in rank_of x ds + 1) → ⊥
unfolding handed chosen
not_later_too law = one_is_not_two (law five [] (hands_out ∷ take_after (newer 6)) (λ same. omega arith, tt) 1 (out_after [] (newer 6 ∷ [])))

-- of those that waited already, one of the same rank counts, and a lower one does not
pub not_higher_alone : Holds (λ x line ds. how_many (λ y. ltb (rank_of x) (rank_of y)) line + higher_in rank_of x (meanwhile x line ds) + 1) → ⊥
unfolding handed chosen while_waits
not_higher_alone law = two_is_not_one (law five (older 5 ∷ []) (hands_out ∷ hands_out ∷ []) (λ same. omega arith, tt) 2 (out_after (older 5 ∷ []) []))

pub not_all_that_wait : Holds (λ x line ds. length line + higher_in rank_of x (meanwhile x line ds) + 1) → ⊥
unfolding handed chosen while_waits
not_all_that_wait law = one_is_not_two (law five (older 4 ∷ []) (hands_out ∷ hands_out ∷ []) (λ same. omega arith, tt) 1 (out_after [] (older 4 ∷ [])))
