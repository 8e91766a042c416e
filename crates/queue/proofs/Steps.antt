-- What the code's loops do, over plain lists: a newcomer's place is found, that place is opened, and all places move up. Assumes nothing.
use Prim.Native.Nat.{ℕ, zero, suc, ◌+◌, ◌-◌, ◌≤◌, ◌<◌}
use mathlib.Core.Bool.{Bool, not}
use mathlib.Core.Path.{◌≡◌, refl, sym, ap, ◌∙◌}
use mathlib.Core.List.{List, [], ◌∷◌, ◌++◌, append_assoc}
use native.Mathlib.Nat.{le_of_suc-le-suc, not-suc-le-zero, add_comm}
use native.Mathlib.Omega.{arith}
use native.Mathlib.Numerals.{add-one}
use lib.Dec.{ltb}
use lib.ListN.{length, take, drop, get_or, set, replicate, length-take, length-drop, take-append-drop, get_or-append}
use lib.Seq.{drop-cons, take-take, take-nil, drop-nil, get_or-take, get_or-drop}
use borrow.Author.Tests.{lt-ltb, le-ltb}
use Rattle.std.proofs.Common.{position, unwrap_or}
use Rattle.std.specs.List.{position_or_len}
use Rattle.std.proofs.lemmas.List.Sums.{prefix_len-le-length}
use Rattle.queue.specs.Order.{insert_by}
use Rattle.queue.proofs.Compare.{by_order}

-- ---- the place of a newcomer e among l: that of the first that is lower, else behind them all

module _ {A : Type 0} (rank : A → ℕ) (e : A) where
  abbrev lower : A → Bool
  lower x = ltb (rank x) (rank e)

  -- its place is behind the first k
  abbrev pub Place : ℕ → List A → Type 0
  Place k l = insert_by rank e l ≡ take k l ++ e ∷ drop k l

  place_first : (l : List A) → Place (position_or_len lower l) l
  unfolding insert_by
  place_first [] = refl
  place_first (x ∷ l) =
      let rest = ap (λ (t : List A). x ∷ t) (place_first l) in
      by_order (rank x) (rank e)
      (λ below. rw (lt-ltb _ _ below))
      (λ above. rw (le-ltb _ _ above, add_comm 1 (position_or_len lower l), add-one) rest)

  is_place : (l : List A) (n : ℕ) → length l ≡ n → unwrap_or (position lower l) n ≡ position_or_len lower l
  is_place l n wide =
      by_order (position_or_len lower l) (length l)
      (λ there. rw (lt-ltb _ _ there))
      (λ past. rw (le-ltb _ _ past) (omega (arith, prefix_len-le-length (λ (x : A). not (lower x)) l)))

  pub place_found : (l : List A) (n k : ℕ) → length l ≡ n → k ≡ unwrap_or (position lower l) n → (k ≤ n) × Place k l
  place_found l n k wide found =
      let at : k ≡ position_or_len lower l = found ∙ is_place l n wide in
      (rw (at, sym wide) (prefix_len-le-length _ l), rw at (place_first l))

-- ---- the opening of a place: from the last of the first n down, each goes one place on

module _ {A : Type 0} where
  -- the first i + 1 as they were, those from i to n one place on, the rest as it was
  abbrev pub shifted : List A → ℕ → ℕ → List A
  shifted xs i n = take (suc i) xs ++ (take (n - i) (drop i xs) ++ drop (suc n) xs)

  set_seam : (xs r : List A) (i : ℕ) (v : A) → i < length xs → set (take (suc i) xs ++ r) i v ≡ take i xs ++ (v ∷ r)
  set_seam [] r i v h = absurd (not-suc-le-zero h)
  set_seam (x ∷ xs) r zero v h = refl
  set_seam (x ∷ xs) r (suc i) v h = ap (λ (t : List A). x ∷ t) (set_seam xs r i v (le_of_suc-le-suc h))

  pub shift_none : (xs : List A) (n : ℕ) → xs ≡ shifted xs n n
  shift_none xs n = let z : n - n ≡ 0 = omega arith in rw (z, take-append-drop)

  module _ (xs : List A) (n : ℕ) (d : A) (fits : n < length xs) where
    shift_read : (j : ℕ) → suc j ≤ n → get_or (shifted xs (suc j) n) j d ≡ get_or xs j d
    shift_read j h =
        get_or-append (take (suc (suc j)) xs) _ d j (rw length-take (omega arith)) ∙ get_or-take (suc (suc j)) xs j d (omega arith)

    shift_more : (j : ℕ) → suc j ≤ n → set (shifted xs (suc j) n) (suc j) (get_or xs j d) ≡ shifted xs j n
    shift_more j h =
        let e : n - j ≡ suc (n - suc j) = omega arith in
        set_seam xs _ (suc j) (get_or xs j d) (omega arith) ∙ rw (e, drop-cons xs j d (omega arith))

    -- one turn, as the code writes it
    pub shift_turn : (i j : ℕ) → i ≡ j + 1 → i ≤ n → set (shifted xs i n) (j + 1) (get_or (shifted xs i n) j d) ≡ shifted xs j n
    shift_turn i j e h = rw (e, add-one j, shift_read j (omega arith)) (shift_more j (omega arith))

  drop_take : (k n : ℕ) (xs : List A) → drop k (take n xs) ≡ take (n - k) (drop k xs)
  drop_take zero n xs = let z : n - 0 ≡ n = omega arith in rw z
  drop_take (suc k) zero xs = let z : 0 - suc k ≡ 0 = omega arith in rw z
  drop_take (suc k) (suc n) [] = rw (drop-nil {A = A} (suc k), take-nil {A = A} (suc n - suc k))
  drop_take (suc k) (suc n) (x ∷ xs) = let z : suc n - suc k ≡ n - k = omega arith in rw z (drop_take k n xs)

  -- the newcomer in the place that was opened
  pub shift_end : (rank : A → ℕ) (e : A) (xs : List A) (n k : ℕ) → k ≤ n → n < length xs → Place rank e k (take n xs)
      → set (shifted xs k n) k e ≡ insert_by rank e (take n xs) ++ drop (n + 1) xs
  shift_end rank e xs n k h fits place =
      set_seam xs _ k e (omega arith) ∙ sym (rw (place, append_assoc, take-take k n xs h, drop_take k n xs, add-one n))

-- ---- the moving up: a list of free places is filled from the front with all elements but the first

module _ {A : Type 0} where
  -- i elements have moved
  abbrev pub moved : A → List A → ℕ → List A
  moved free xs i = take i (drop 1 xs) ++ drop i (replicate 32 free)

  fill : (zs ys : List A) (i : ℕ) (d : A) → i < length zs → i < length ys → set (take i ys ++ drop i zs) i (get_or ys i d) ≡ take (suc i) ys ++ drop (suc i) zs
  fill [] ys i d p q = absurd (not-suc-le-zero p)
  fill (z ∷ zs) [] i d p q = absurd (not-suc-le-zero q)
  fill (z ∷ zs) (y ∷ ys) zero d p q = refl
  fill (z ∷ zs) (y ∷ ys) (suc i) d p q = ap (λ (t : List A). y ∷ t) (fill zs ys i d (le_of_suc-le-suc p) (le_of_suc-le-suc q))

  module _ (free : A) (xs : List A) (wide : length xs ≡ 32) where
    pub move_turn : (i : ℕ) (d : A) → i < 31 → set (moved free xs i) i (get_or xs (i + 1) d) ≡ moved free xs (i + 1)
    move_turn i d h =
        let next : get_or xs (i + 1) d ≡ get_or (drop 1 xs) i d = ap (λ (k : ℕ). get_or xs k d) (add_comm i 1) ∙ sym (get_or-drop 1 xs i d) in
        rw (next, add-one i) (fill (replicate 32 free) (drop 1 xs) i d (omega arith) (rw length-drop (omega arith)))
