-- Pieces of one length: which part of the list each is, and what they are after one of them was written. Assumes nothing.
use native.Mathlib.Omega.{arith}
use native.Mathlib.Nat.{le_of_suc-le-suc, not-suc-le-zero, suc-mul, zero-mul, mul-le-mul_right}
use Prim.Native.Nat.{ℕ, zero, suc, ◌+◌, ◌*◌, ◌≤◌, ◌<◌}
use mathlib.Core.Path.{◌≡◌, refl, sym, ap, ◌∙◌}
use mathlib.Core.List.{List, [], ◌∷◌, ◌++◌, map}
use lib.ListN.{length, take, drop, get_or, set, length-map, length-drop, take-append-drop, get_or-map}
use lib.Seq.{take_at, drop_at, drop-drop, length-take-le}
use Rattle.words.specs.Cut.{part, pasted, pieces, rows, flat}
use Rattle.words.proofs.Parts.{part_before, drop_in}

-- piece i ends within the n pieces
pub ends_within : (k n i : ℕ) → i < n → i * k + k ≤ n * k
ends_within k n i h = rw (← suc-mul i k) (mul-le-mul_right k h)

further : (k i : ℕ) → suc i * k ≡ k + i * k
further k i = let z : i * k + k ≡ k + i * k = omega arith in suc-mul i k ∙ z

module _ {A : Type 0} where
  pieces_length : (k n : ℕ) (l : List A) → length (pieces k n l) ≡ n
  unfolding pieces
  pieces_length k zero l = refl
  pieces_length k (suc n) l = ap suc (pieces_length k n (drop k l))

  piece_read : (k n : ℕ) (l : List A) (i : ℕ) → i < n → get_or (pieces k n l) i [] ≡ part (i * k) k l
  unfolding pieces
  piece_read k zero l i h = absurd (not-suc-le-zero h)
  piece_read k (suc n) l zero h = rw (zero-mul k)
  piece_read k (suc n) l (suc i) h =
      piece_read k n (drop k l) i (le_of_suc-le-suc h)
      ∙ ap (take k) (drop-drop (i * k) k l ∙ ap (λ (t : ℕ). drop t l) (sym (further k i)))

  piece_written : (k n : ℕ) (l : List A) (i : ℕ) (vs : List A) → i < n → length vs ≡ k → i * k + k ≤ length l
      → pieces k n (pasted l (i * k) k vs) ≡ set (pieces k n l) i vs
  unfolding pieces
  piece_written k zero l i vs h v m = absurd (not-suc-le-zero h)
  piece_written k (suc n) l zero vs h v m =
      rw (zero-mul k)
      (ap (λ (t : List A). t ∷ pieces k n (drop k (vs ++ drop k l))) (take_at vs (drop k l) k v)
      ∙ ap (λ (t : List A). vs ∷ pieces k n t) (drop_at vs (drop k l) k v))
  piece_written k (suc n) l (suc i) vs h v m =
      let e = further k i in
      let first : take k (pasted l (k + i * k) k vs) ≡ take k l = part_before l 0 k (k + i * k) k vs (omega arith) (omega arith) in
      let rest : drop k (pasted l (k + i * k) k vs) ≡ pasted (drop k l) (i * k) k vs = drop_in l k (i * k) k vs (omega arith) in
      ap (λ (b : ℕ). pieces k (suc n) (pasted l b k vs)) e
      ∙ ap (λ (t : List A). t ∷ pieces k n (drop k (pasted l (k + i * k) k vs))) first
      ∙ ap (λ (t : List A). take k l ∷ pieces k n t) rest
      ∙ ap (λ (t : List (List A)). take k l ∷ t)
      (piece_written k n (drop k l) i vs (le_of_suc-le-suc h) v (rw length-drop (omega arith)))

-- ---- lists of records
map_set : {A B : Type 0} (f : A → B) (l : List A) (i : ℕ) (v : A) → map f (set l i v) ≡ set (map f l) i (f v)
map_set f [] i v = refl
map_set f (x ∷ l) zero v = refl
map_set f (x ∷ l) (suc i) v = ap (λ t. f x ∷ t) (map_set f l i v)

-- what stands inside a list does not depend on what is said to stand outside
inside : {A : Type 0} (l : List A) (i : ℕ) (d e : A) → i < length l → get_or l i d ≡ get_or l i e
inside [] i d e h = absurd (not-suc-le-zero h)
inside (x ∷ l) zero d e h = refl
inside (x ∷ l) (suc i) d e h = inside l i d e (le_of_suc-le-suc h)

module _ {A B : Type 0} (read : List A → B) (k n : ℕ) where
  pub rows_length : (l : List A) → length (rows read k n l) ≡ n
  rows_length l = length-map (pieces k n l) read ∙ pieces_length k n l

  pub row_read : (l : List A) (i : ℕ) (d : B) → i < n → get_or (rows read k n l) i d ≡ read (part (i * k) k l)
  row_read l i d h =
      inside (rows read k n l) i d (read []) (rw (rows_length l) h)
      ∙ get_or-map read (pieces k n l) i []
      ∙ ap read (piece_read k n l i h)

  pub row_written : (l : List A) (i : ℕ) (vs : List A) → i < n → length vs ≡ k → n * k ≤ length l
      → rows read k n (pasted l (i * k) k vs) ≡ set (rows read k n l) i (read vs)
  row_written l i vs h v m =
      let e = ends_within k n i h in
      ap (map read) (piece_written k n l i vs h v (omega arith)) ∙ map_set read (pieces k n l) i vs

-- ---- records that are read from their words, and written again, are the same words
pub flat_rows : {A B : Type 0} (read : List A → B) (write : B → List A) (k : ℕ) → ((c : List A) → length c ≡ k → write (read c) ≡ c)
    → (n : ℕ) (l : List A) → length l ≡ n * k → flat write (rows read k n l) ≡ l
unfolding flat pieces
flat_rows read write k each zero [] h = refl
flat_rows read write k each zero (x ∷ l) h = absurd (let z : 0 * k ≡ 0 = zero-mul k in omega arith)
flat_rows read write k each (suc n) l h =
    let z : suc n * k ≡ n * k + k = suc-mul n k in
    let first : write (read (take k l)) ≡ take k l = each (take k l) (length-take-le k l (omega arith)) in
    let rest : flat write (rows read k n (drop k l)) ≡ drop k l = flat_rows read write k each n (drop k l) (length-drop k l ∙ omega arith) in
    rw (first, rest) (take-append-drop k l)
