-- The highest is handed out first, the oldest within one (page 01, demand 3): of any line the choice is the one that the page's words
-- allow, and a queue does with its entries what puts and takes do with a line in the order of entering. Assumes nothing.
use Prim.Native.Nat.{ℕ, suc, ◌≤◌, ◌<◌}
use mathlib.Core.Bool.{Bool, true, false}
use mathlib.Core.Path.{◌≡◌, refl, sym, ap, ◌∙◌}
use mathlib.Core.Logic.{◌↔◌}
use mathlib.Core.List.{List, [], ◌∷◌, ◌++◌, map}
use native.Mathlib.Nat.{le_trans, le_of_lt}
use native.Mathlib.Omega.{arith}
use lib.Dec.{ltb}
use lib.ListN.{length, drop, length-map}
use borrow.Author.Tests.{lt-ltb, le-ltb}
use Rattle.checks.specs.Order.{pick}
use Rattle.queue.specs.Order.{Each, Sorted, insert_by}
use Rattle.queue.specs.Queue.{fresh, waiting, precedence_of, put_of, take_of, head_of, Bounded}
use Rattle.queue.specs.Waits.{Chosen, nobody, one, AsAsked, chosen_with, chosen, insert_oldest, ordered, rank_by, Waits}
use Rattle.queue.specs.declared.Entry.{Entry}
use Rattle.queue.specs.declared.Queue.{Queue}
use Rattle.queue.specs.declared.Taken.{Taken}
use Rattle.std.proofs.Common.{Some, None}
use Rattle.queue.proofs.Compare.{by_order}
use Rattle.queue.proofs.Each.{each_so, each_append}
use Rattle.queue.proofs.Order.{insert_map}
use Rattle.queue.proofs.Cases.{handed_none, take_none}
use Rattle.queue.proofs.Waiting.{count_waiting, put_waiting, take_head, take_waiting}
use Rattle.queue.proofs.Sound.{fresh_sound, put_sound, take_sound}

module _ {A : Type 0} (rank : A → ℕ) where
  -- ---- the order of going out

  oldest_passed : (x y : A) (l : List A) → rank x < rank y → insert_oldest rank x (y ∷ l) ≡ y ∷ insert_oldest rank x l
  unfolding insert_oldest
  oldest_passed x y l h = rw (lt-ltb _ _ h)

  oldest_here : (x y : A) (l : List A) → rank y ≤ rank x → insert_oldest rank x (y ∷ l) ≡ x ∷ y ∷ l
  unfolding insert_oldest
  oldest_here x y l h = rw (le-ltb _ _ h)

  -- it does not matter whether the newest or the oldest is put in first
  newest_oldest : (new old : A) (l : List A) → insert_oldest rank old (insert_by rank new l) ≡ insert_by rank new (insert_oldest rank old l)
  unfolding insert_by insert_oldest
  newest_oldest new old [] = refl
  newest_oldest new old (x ∷ l) =
      by_order (rank x) (rank new)
      (λ lower.
      by_order (rank old) (rank x)
      (λ passed. simp (lt-ltb _ _ lower, lt-ltb _ _ passed, lt-ltb _ _ (let h : rank old < rank new = omega arith in h)))
      (λ here.
      by_order (rank old) (rank new)
      (λ below. simp (lt-ltb _ _ lower, le-ltb _ _ here, lt-ltb _ _ below))
      (λ above. simp (lt-ltb _ _ lower, le-ltb _ _ here, le-ltb _ _ above))))
      (λ other.
      by_order (rank old) (rank x)
      (λ passed. simp (le-ltb _ _ other, lt-ltb _ _ passed) (ap (λ (t : List A). x ∷ t) (newest_oldest new old l)))
      (λ here. simp (le-ltb _ _ other, le-ltb _ _ here, le-ltb _ _ (let h : rank new ≤ rank old = omega arith in h))))

  pub ordered_enters : (x : A) (l : List A) → ordered rank (l ++ (x ∷ [])) ≡ insert_by rank x (ordered rank l)
  unfolding ordered insert_oldest insert_by
  ordered_enters x [] = refl
  ordered_enters x (y ∷ l) = ap (insert_oldest rank y) (ordered_enters x l) ∙ newest_oldest x y (ordered rank l)

  oldest_length : (x : A) (l : List A) → length (insert_oldest rank x l) ≡ suc (length l)
  unfolding insert_oldest
  oldest_length x [] = refl
  oldest_length x (y ∷ l) =
      by_order (rank x) (rank y)
      (λ passed. ap length (oldest_passed x y l passed) ∙ ap suc (oldest_length x l))
      (λ here. ap length (oldest_here x y l here))

  pub ordered_length : (l : List A) → length (ordered rank l) ≡ length l
  unfolding ordered
  ordered_length [] = refl
  ordered_length (x ∷ l) = oldest_length x (ordered rank l) ∙ ap suc (ordered_length l)

  oldest_each : (P : A → Type 0) (x : A) (l : List A) → P x → Each P l → Each P (insert_oldest rank x l)
  unfolding insert_oldest
  oldest_each P x [] here all = (here, tt)
  oldest_each P x (y ∷ l) first all =
      by_order (rank x) (rank y)
      (λ passed. rw (oldest_passed x y l passed) (all.0, oldest_each P x l first all.1))
      (λ here. rw (oldest_here x y l here) (first, all))

  pub ordered_each : (P : A → Type 0) (l : List A) → Each P l → Each P (ordered rank l)
  unfolding ordered
  ordered_each P [] all = tt
  ordered_each P (x ∷ l) all = oldest_each P x (ordered rank l) all.0 (ordered_each P l all.1)

  each_of_oldest : (P : A → Type 0) (x : A) (l : List A) → Each P (insert_oldest rank x l) → P x × Each P l
  unfolding insert_oldest
  each_of_oldest P x [] all = all
  each_of_oldest P x (y ∷ l) all =
      by_order (rank x) (rank y)
      (λ passed.
      let put : Each P (y ∷ insert_oldest rank x l) = rw (oldest_passed x y l passed) at all in
      let rest : P x × Each P l = each_of_oldest P x l put.1 in
      (rest.0, (put.0, rest.1)))
      (λ here. rw (oldest_here x y l here) at all)

  pub each_of_ordered : (P : A → Type 0) (l : List A) → Each P (ordered rank l) → Each P l
  unfolding ordered
  each_of_ordered P [] all = tt
  each_of_ordered P (x ∷ l) all = let h = each_of_oldest P x (ordered rank l) all in (h.0, each_of_ordered P l h.1)

  oldest_sorted : (x : A) (l : List A) → Sorted rank l → Sorted rank (insert_oldest rank x l)
  unfolding insert_oldest
  oldest_sorted x [] sorted = (tt, tt)
  oldest_sorted x (y ∷ l) sorted =
      by_order (rank x) (rank y)
      (λ passed. rw (oldest_passed x y l passed) (oldest_each _ x l (le_of_lt passed) sorted.0, oldest_sorted x l sorted.1))
      (λ here. rw (oldest_here x y l here) ((here, each_so l (λ z h. le_trans h here) sorted.0), sorted))

  pub ordered_sorted : (l : List A) → Sorted rank (ordered rank l)
  unfolding ordered
  ordered_sorted [] = tt
  ordered_sorted (x ∷ l) = oldest_sorted x (ordered rank l) (ordered_sorted l)

  -- ---- the choice is what the page asks for

  asked_with : (x : A) (l : List A) (c : Chosen A) → AsAsked rank l c → AsAsked rank (x ∷ l) (chosen_with rank x l c)
  asked_with x l nobody h = record { before = []; after = l; was = refl; leaves = refl; before_lower = tt; after_not_higher = rw h tt }
  asked_with x l (one y others) h =
      by_order (rank x) (rank y)
      (λ passed.
      rw (lt-ltb _ _ passed)
      (record {
        before = x ∷ h.before;
        after = h.after;
        was = ap (λ (t : List A). x ∷ t) h.was;
        leaves = ap (λ (t : List A). x ∷ t) h.leaves;
        before_lower = (passed, h.before_lower);
        after_not_higher = h.after_not_higher;
      }))
      (λ here.
      rw (le-ltb _ _ here)
      (record {
        before = [];
        after = l;
        was = refl;
        leaves = refl;
        before_lower = tt;
        after_not_higher =
            rw h.was
            (each_append _ h.before (y ∷ h.after)
            (each_so h.before (λ z lower. le_trans (le_of_lt lower) here) h.before_lower)
            (here, each_so h.after (λ z lower. le_trans lower here) h.after_not_higher));
      }))

  pub chosen_asked : (l : List A) → AsAsked rank l (chosen rank l)
  unfolding chosen
  chosen_asked [] = refl
  chosen_asked (x ∷ l) = asked_with x l (chosen rank l) (chosen_asked l)

  -- what holds of each in a line holds of each that a take meets
  abbrev pub EachOf : (A → Type 0) → Chosen A → Type 0
  EachOf P nobody = Unit
  EachOf P (one x others) = P x × Each P others

  each_with : (P : A → Type 0) (x : A) (l : List A) (c : Chosen A) → P x → Each P l → EachOf P c → EachOf P (chosen_with rank x l c)
  each_with P x l nobody first all h = (first, all)
  each_with P x l (one y others) first all h = by (ltb (rank x) (rank y))
    where
      by : (t : Bool) → EachOf P (pick t (one y (x ∷ others)) (one x l))
      by true = (h.0, (first, h.1))
      by false = (first, all)

  pub chosen_each : (P : A → Type 0) (l : List A) → Each P l → EachOf P (chosen rank l)
  unfolding chosen
  chosen_each P [] all = tt
  chosen_each P (x ∷ l) all = each_with P x l (chosen rank l) all.0 all.1 (chosen_each P l all.1)

  -- and nothing else is
  none_higher : (x : A) (l : List A) (c : Chosen A) → EachOf (λ (y : A). rank y ≤ rank x) c → chosen_with rank x l c ≡ one x l
  none_higher x l nobody h = refl
  none_higher x l (one y others) h = rw (le-ltb _ _ h.0)

  finds : (before : List A) (x : A) (after : List A) → Each (λ (y : A). rank y < rank x) before → Each (λ (y : A). rank y ≤ rank x) after
      → chosen rank (before ++ x ∷ after) ≡ one x (before ++ after)
  unfolding chosen
  finds [] x after h k = none_higher x after (chosen rank after) (chosen_each _ after k)
  finds (y ∷ before) x after h k = ap (chosen_with rank y (before ++ x ∷ after)) (finds before x after h.1 k) ∙ rw (lt-ltb _ _ h.0)

  pub asked_only : (l : List A) (c : Chosen A) → AsAsked rank l c → chosen rank l ≡ c
  unfolding chosen
  asked_only l nobody h = ap (chosen rank) h
  asked_only l (one x others) h =
      ap (chosen rank) h.was ∙ finds h.before x h.after h.before_lower h.after_not_higher ∙ ap (one x) (sym h.leaves)

  pub chosen_nobody : (l : List A) → (chosen rank l ≡ nobody) ↔ (l ≡ [])
  chosen_nobody l = (λ h. rw h at (chosen_asked l), asked_only l nobody)

  -- ---- the first to go out is the one chosen, and the others go out after it

  abbrev pub goes_out : Chosen A → List A
  goes_out nobody = []
  goes_out (one x others) = x ∷ ordered rank others

  goes_with : (x : A) (l : List A) (c : Chosen A) → ordered rank l ≡ goes_out c
      → insert_oldest rank x (ordered rank l) ≡ goes_out (chosen_with rank x l c)
  unfolding ordered insert_oldest
  goes_with x l nobody h = ap (insert_oldest rank x) h ∙ ap (λ (t : List A). x ∷ t) (sym h)
  goes_with x l (one y others) h =
      ap (insert_oldest rank x) h
      ∙ by_order (rank x) (rank y)
      (λ passed. rw (lt-ltb _ _ passed))
      (λ here. rw (le-ltb _ _ here) (ap (λ (t : List A). x ∷ t) (sym h)))

  pub ordered_chosen : (l : List A) → ordered rank l ≡ goes_out (chosen rank l)
  unfolding ordered chosen
  ordered_chosen [] = refl
  ordered_chosen (x ∷ l) = goes_with x l (chosen rank l) (ordered_chosen l)

-- ---- a queue does with its entries what puts and takes do with a line

module _ {A : Type 0} (entry_of : A → Entry) where
  abbrev rank : A → ℕ
  rank = rank_by entry_of

  pub waits_fresh : Waits entry_of fresh []
  unfolding fresh ordered
  waits_fresh = record { sound = fresh_sound; same = refl }

  module _ {q : Queue} {line : List A} (waits : Waits entry_of q line) where
    abbrev bounded : Bounded q
    bounded = waits.sound.bounded

    same_length : length (waiting q) ≡ length line
    same_length = ap length waits.same ∙ length-map (ordered rank line) entry_of ∙ ordered_length rank line

    pub waits_count : q.count ≡ length line
    waits_count = sym (count_waiting q bounded) ∙ same_length

    pub waits_fits : length line ≤ 32
    waits_fits = omega (arith, waits_count, bounded.fits)

    -- with fewer than 32 waiting a put appends
    pub waits_put : (x : A) → length line < 32 → Waits entry_of (put_of q (entry_of x)).queue (line ++ (x ∷ []))
    waits_put x room =
        record {
          sound = put_sound q waits.sound (entry_of x);
          same =
              put_waiting q bounded (entry_of x)
              ∙ rw (same_length, lt-ltb _ _ room, waits.same)
              (sym (insert_map precedence_of entry_of x (ordered rank line)) ∙ ap (map entry_of) (sym (ordered_enters rank x line)));
        }

    -- a take of an empty line changes nothing and hands nothing out; any other hands out the one that is chosen
    pub waits_none : line ≡ [] → take_of q ≡ handed_none q
    waits_none empty = take_none q (waits_count ∙ ap length empty)

    pub waits_take : (x : A) (others : List A) → chosen rank line ≡ one x others
        → ((take_of q).head ≡ Some (entry_of x)) × Waits entry_of (take_of q).queue others
    waits_take x others is = (take_head q bounded ∙ ap head_of out, record { sound = take_sound q waits.sound; same = rest })
      where
        out : waiting q ≡ map entry_of (x ∷ ordered rank others)
        out = waits.same ∙ ap (map entry_of) (ordered_chosen rank line ∙ ap (goes_out rank) is)

        rest : waiting (take_of q).queue ≡ map entry_of (ordered rank others)
        rest = take_waiting q bounded ∙ ap (drop 1) out

    pub waits_nothing : ((take_of q).head ≡ None) ↔ (line ≡ [])
    waits_nothing = (found (chosen rank line) refl, λ empty. ap (λ (t : Taken). t.head) (waits_none empty))
      where
        found : (c : Chosen A) → chosen rank line ≡ c → (take_of q).head ≡ None → line ≡ []
        found nobody is h = (chosen_nobody rank line).0 is
        found (one x others) is h = let z : ◌≡◌ {A = ℕ} 0 1 = cc (waits_take x others is).0 in absurd (omega arith)
