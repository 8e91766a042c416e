-- The laws of the order (page 01, "A newcomer goes just ahead of the first entry with lower precedence, else last"), for any kind of
-- thing that has a rank. Assumes nothing.
use Prim.Native.Nat.{ℕ, suc, ◌≤◌, ◌<◌}
use mathlib.Core.Bool.{Bool, true, false}
use mathlib.Core.Path.{◌≡◌, refl, sym, ap, ◌∙◌}
use mathlib.Core.List.{List, [], ◌∷◌, ◌++◌, map}
use native.Mathlib.Nat.{le_trans, le_of_lt, lt_of_le_of_lt}
use lib.ListN.{length}
use lib.Dec.{ltb}
use borrow.Author.Tests.{lt-ltb, le-ltb}
use Rattle.checks.specs.Order.{pick}
use Rattle.queue.specs.Order.{Each, InOrder, insert_by, Sorted, StartsLower, Placed}
use Rattle.queue.proofs.Compare.{by_order}
use Rattle.queue.proofs.Each.{each, each_so, order_rest, order_front}

module _ {A : Type 0} (rank : A → ℕ) (e : A) where
  abbrev insert : List A → List A
  insert = insert_by rank e

  -- the two cases of the definition
  pub insert_lower : (x : A) (rest : List A) → rank x < rank e → insert (x ∷ rest) ≡ e ∷ x ∷ rest
  unfolding insert_by
  insert_lower x rest h = rw (lt-ltb _ _ h)

  pub insert_not_lower : (x : A) (rest : List A) → rank e ≤ rank x → insert (x ∷ rest) ≡ x ∷ insert rest
  unfolding insert_by
  insert_not_lower x rest h = rw (le-ltb _ _ h)

  abbrev by_rank : {B : Type 0} (x : A) → (rank x < rank e → B) → (rank e ≤ rank x → B) → B
  by_rank x = by_order (rank x) (rank e)

  -- ---- the definition does what page 01's sentence says, and nothing else does

  goes_between : (before after : List A) → Each (λ (x : A). rank e ≤ rank x) before → StartsLower rank (rank e) after
      → insert (before ++ after) ≡ before ++ e ∷ after
  unfolding insert_by
  goes_between [] [] h s = refl
  goes_between [] (x ∷ after) h s = insert_lower x after s
  goes_between (x ∷ before) after h s = insert_not_lower x (before ++ after) h.0 ∙ ap (λ (t : List A). x ∷ t) (goes_between before after h.1 s)

  pub placed_only : {old new : List A} → Placed rank e old new → new ≡ insert old
  placed_only p = p.becomes ∙ sym (ap insert p.was ∙ goes_between p.before p.after p.before_not_lower p.after_starts_lower)

  pub insert_placed : (l : List A) → Placed rank e l (insert l)
  unfolding insert_by
  insert_placed [] = record { before = []; after = []; was = refl; becomes = refl; before_not_lower = tt; after_starts_lower = tt }
  insert_placed (x ∷ l) =
      by_rank x
      (λ lower. record { before = []; after = x ∷ l; was = refl; becomes = insert_lower x l lower; before_not_lower = tt; after_starts_lower = lower })
      (λ other.
      let p : Placed rank e l (insert l) = insert_placed l in
      record {
        before = x ∷ p.before;
        after = p.after;
        was = ap (λ (t : List A). x ∷ t) p.was;
        becomes = insert_not_lower x l other ∙ ap (λ (t : List A). x ∷ t) p.becomes;
        before_not_lower = (other, p.before_not_lower);
        after_starts_lower = p.after_starts_lower;
      })

  -- ---- what is kept

  pub insert_length : (l : List A) → length (insert l) ≡ suc (length l)
  unfolding insert_by
  insert_length [] = refl
  insert_length (x ∷ l) =
      by_rank x (λ lower. ap length (insert_lower x l lower)) (λ other. ap length (insert_not_lower x l other) ∙ ap suc (insert_length l))

  pub insert_each : (P : A → Type 0) (l : List A) → P e → Each P l → Each P (insert l)
  unfolding insert_by
  insert_each P [] here all = (here, tt)
  insert_each P (x ∷ l) here all =
      by_rank x (λ lower. rw (insert_lower x l lower) (here, all)) (λ other. rw (insert_not_lower x l other) (all.0, insert_each P l here all.1))

  -- an order that agrees with the ranks is kept, if those that are not lower than e stand so to e, and e to those that are lower
  pub insert_order : (R : A → A → Type 0) → ((x y : A) → R x y → rank y ≤ rank x) → ((x : A) → rank x < rank e → R e x)
      → (l : List A) → Each (λ (x : A). rank e ≤ rank x → R x e) l → InOrder R l → InOrder R (insert l)
  unfolding insert_by
  insert_order R falls over [] under order = (tt, tt)
  insert_order R falls over (x ∷ l) under order =
      by_rank x
      (λ lower. rw (insert_lower x l lower) ((over x lower, each_so l (λ y r. over y (lt_of_le_of_lt (falls x y r) lower)) order.0), order))
      (λ other. rw (insert_not_lower x l other) (insert_each (R x) l (under.0 other) order.0, insert_order R falls over l under.1 order.1))

  -- ---- among those that are sorted

  pub insert_sorted : (l : List A) → Sorted rank l → Sorted rank (insert l)
  insert_sorted l = insert_order (λ (x y : A). rank y ≤ rank x) (λ x y h. h) (λ x h. le_of_lt h) l (each l (λ x h. h))

  all_lower : (l : List A) → Sorted rank l → StartsLower rank (rank e) l → Each (λ (x : A). rank x < rank e) l
  all_lower [] s h = tt
  all_lower (x ∷ l) s h = (h, each_so l (λ y r. lt_of_le_of_lt r h) s.0)

  -- the newcomer is ahead of all that are lower: with `before_not_lower`, just those that are not lower stand before it
  pub after_lower : {old new : List A} → Sorted rank old → (p : Placed rank e old new) → Each (λ (x : A). rank x < rank e) p.after
  after_lower sorted p = all_lower p.after (order_rest _ p.before p.after (rw p.was at sorted)) p.after_starts_lower

  -- a newcomer of higher rank than x enters somewhere before x, and any other somewhere behind it
  pub insert_ahead : (before : List A) (x : A) (after : List A) → rank x < rank e → insert (before ++ x ∷ after) ≡ insert before ++ x ∷ after
  unfolding insert_by
  insert_ahead [] x after h = insert_lower x after h
  insert_ahead (y ∷ before) x after h =
      by_rank y
      (λ lower. insert_lower y (before ++ x ∷ after) lower ∙ sym (ap (λ (t : List A). t ++ x ∷ after) (insert_lower y before lower)))
      (λ other.
      insert_not_lower y (before ++ x ∷ after) other ∙ ap (λ (t : List A). y ∷ t) (insert_ahead before x after h)
      ∙ sym (ap (λ (t : List A). t ++ x ∷ after) (insert_not_lower y before other)))

  passes_by : (before : List A) (x : A) (after : List A) → Each (λ (y : A). rank e ≤ rank y) before → rank e ≤ rank x
      → insert (before ++ x ∷ after) ≡ before ++ x ∷ insert after
  passes_by [] x after all h = insert_not_lower x after h
  passes_by (y ∷ before) x after all h = insert_not_lower y (before ++ x ∷ after) all.0 ∙ ap (λ (t : List A). y ∷ t) (passes_by before x after all.1 h)

  pub insert_behind : (before : List A) (x : A) (after : List A) → Sorted rank (before ++ x ∷ after) → rank e ≤ rank x
      → insert (before ++ x ∷ after) ≡ before ++ x ∷ insert after
  insert_behind before x after sorted h =
      passes_by before x after (each_so before (λ y r. le_trans h r) (order_front _ before x after sorted)) h

-- what is forgotten of the things does not touch their order
pub insert_map : {A B : Type 0} (rank : B → ℕ) (f : A → B) (e : A) (l : List A)
    → map f (insert_by (λ (x : A). rank (f x)) e l) ≡ insert_by rank (f e) (map f l)
unfolding insert_by
insert_map rank f e [] = refl
insert_map {A} {B} rank f e (x ∷ l) = by (insert_map rank f e l) (ltb (rank (f x)) (rank (f e)))
  where
    by : map f (insert_by (λ (x : A). rank (f x)) e l) ≡ insert_by rank (f e) (map f l)
        → (t : Bool)
        → map f (pick t (e ∷ x ∷ l) (x ∷ insert_by (λ (x : A). rank (f x)) e l))
        ≡ pick t (f e ∷ f x ∷ map f l) (f x ∷ insert_by rank (f e) (map f l))
    by h true = refl
    by h false = ap (λ (t : List B). f x ∷ t) h
