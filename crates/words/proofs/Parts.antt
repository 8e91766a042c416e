-- Parts of a list: what a part is that was not written, or written within. Assumes nothing.
use native.Mathlib.Omega.{arith}
use Prim.Native.Nat.{ℕ, zero, suc, ◌+◌, ◌-◌, ◌≤◌, ◌<◌}
use mathlib.Core.Path.{◌≡◌, sym, ap, ◌∙◌}
use mathlib.Core.List.{List, [], ◌∷◌, ◌++◌, append-nil}
use lib.ListN.{length, take, drop, get_or, set, length-drop, drop_of_length-le}
use lib.Seq.{drop_at, drop-drop, take-take, take-append-le, drop-append-le, take-append-add, take-nil, drop-nil}
use lib.Seq.{length-take-le, set_split, sets, sets-eq, get_or-take, get_or-drop, drop-cons}
use Rattle.words.specs.Cut.{part, pasted, spelled}

module _ {A : Type 0} where
  drop_take : (k n : ℕ) (l : List A) → drop k (take n l) ≡ take (n - k) (drop k l)
  drop_take zero n l = let z : n - 0 ≡ n = omega arith in rw z
  drop_take (suc k) zero l = let z : 0 - suc k ≡ 0 = omega arith in rw z
  drop_take (suc k) (suc n) [] = rw (drop-nil {A = A} (suc k), take-nil {A = A} (suc n - suc k))
  drop_take (suc k) (suc n) (x ∷ l) = let z : suc n - suc k ≡ n - k = omega arith in rw z (drop_take k n l)

  -- ---- reading
  pub part_part : (a n b m : ℕ) (l : List A) → b + m ≤ n → part b m (part a n l) ≡ part (a + b) m l
  part_part a n b m l h =
      ap (take m) (drop_take b n (drop a l))
      ∙ take-take m (n - b) (drop b (drop a l)) (omega arith)
      ∙ ap (take m) (drop-drop b a l)

  pub part_length : (a n : ℕ) (l : List A) → a + n ≤ length l → length (part a n l) ≡ n
  part_length a n l h = length-take-le n (drop a l) (rw length-drop (omega arith))

  pub part_read : (a n : ℕ) (l : List A) (i : ℕ) (d : A) → i < n → get_or (part a n l) i d ≡ get_or l (a + i) d
  part_read a n l i d h = get_or-take n (drop a l) i d h ∙ get_or-drop a l i d

  -- ---- writing: one element, and all of them
  pub stored : (l : List A) (i : ℕ) (v : A) → i < length l → set l i v ≡ pasted l i 1 (v ∷ [])
  stored l i v h =
      let e : i + 1 ≡ suc i = omega arith in
      set_split l i v h ∙ ap (λ (t : List A). take i l ++ (v ∷ t)) (sym (drop-drop 1 i l ∙ ap (λ (n : ℕ). drop n l) e))

  pub all_stored : (l vs : List A) → length l ≡ length vs → sets l 0 vs ≡ vs
  all_stored l vs h =
      let e : length l ≤ 0 + length vs = omega arith in
      sets-eq vs l 0 (omega arith) ∙ ap (λ (t : List A). vs ++ t) (drop_of_length-le l e) ∙ append-nil vs

  -- ---- a part that was not written
  pub part_before : (l : List A) (a n b k : ℕ) (vs : List A) → a + n ≤ b → b ≤ length l → part a n (pasted l b k vs) ≡ part a n l
  part_before l a n b k vs h m =
      let r = vs ++ drop k (drop b l) in
      let q : length (take b l) ≡ b = length-take-le b l m in
      let q' : length (drop a (take b l)) ≡ b - a = length-drop a (take b l) ∙ ap (λ (t : ℕ). t - a) q in
      ap (take n) (drop-append-le a (take b l) r (omega arith))
      ∙ take-append-le n (drop a (take b l)) r (omega arith)
      ∙ ap (take n) (drop_take a b l)
      ∙ take-take n (b - a) (drop a l) (omega arith)

  past_end : (l : List A) (b k : ℕ) (vs : List A) → length vs ≡ k → b ≤ length l → drop (b + k) (pasted l b k vs) ≡ drop (b + k) l
  past_end l b k vs v m =
      sym (drop-drop k b (pasted l b k vs))
      ∙ ap (drop k) (drop_at (take b l) (vs ++ drop k (drop b l)) b (length-take-le b l m))
      ∙ drop_at vs (drop k (drop b l)) k v
      ∙ drop-drop k b l

  pub drop_after : (l : List A) (a b k : ℕ) (vs : List A) → b + k ≤ a → length vs ≡ k → b ≤ length l
      → drop a (pasted l b k vs) ≡ drop a l
  drop_after l a b k vs h v m =
      let e : b + k + (a - (b + k)) ≡ a = omega arith in
      ap (λ (t : ℕ). drop t (pasted l b k vs)) (sym e)
      ∙ sym (drop-drop (a - (b + k)) (b + k) (pasted l b k vs))
      ∙ ap (drop (a - (b + k))) (past_end l b k vs v m)
      ∙ drop-drop (a - (b + k)) (b + k) l
      ∙ ap (λ (t : ℕ). drop t l) e

  -- ---- a part that was written within
  pub drop_in : (l : List A) (a j k : ℕ) (vs : List A) → a + j ≤ length l → drop a (pasted l (a + j) k vs) ≡ pasted (drop a l) j k vs
  drop_in l a j k vs m =
      let r = vs ++ drop k (drop (a + j) l) in
      let q : length (take (a + j) l) ≡ a + j = length-take-le (a + j) l m in
      let z : a + j - a ≡ j = omega arith in
      drop-append-le a (take (a + j) l) r (omega arith)
      ∙ ap (λ (t : List A). t ++ r) (drop_take a (a + j) l ∙ ap (λ (t : ℕ). take t (drop a l)) z)
      ∙ ap (λ (t : List A). take j (drop a l) ++ (vs ++ drop k t)) (sym (drop-drop j a l))

  pub take_in : (l : List A) (n j k : ℕ) (vs : List A) → length vs ≡ k → j + k ≤ n → j ≤ length l
      → take n (pasted l j k vs) ≡ pasted (take n l) j k vs
  take_in l n j k vs v h m =
      let q : length (take j l) ≡ j = length-take-le j l m in
      let e : length (take j l) + (k + (n - (j + k))) ≡ n = omega arith in
      let f : length vs + (n - (j + k)) ≡ k + (n - (j + k)) = omega arith in
      let g : n - (j + k) ≡ n - j - k = omega arith in
      ap (λ (t : ℕ). take t (pasted l j k vs)) (sym e)
      ∙ take-append-add (take j l) (vs ++ drop k (drop j l)) (k + (n - (j + k)))
      ∙ ap (λ (t : List A). take j l ++ t)
      (ap (λ (t : ℕ). take t (vs ++ drop k (drop j l))) (sym f)
      ∙ take-append-add vs (drop k (drop j l)) (n - (j + k))
      ∙ ap (λ (t : List A). vs ++ t)
      (ap (λ (t : ℕ). take t (drop k (drop j l))) g ∙ sym (ap (drop k) (drop_take j n l) ∙ drop_take k (n - j) (drop j l))))
      ∙ ap (λ (t : List A). t ++ (vs ++ drop k (drop j (take n l)))) (sym (take-take j n l (omega arith)))

-- words spelled one by one are the words
spelled_from : (k i : ℕ) (l : List ℕ) → length l ≡ i + k → spelled i k l ≡ drop i l
spelled_from zero i l h = let e : length l ≤ i = omega arith in sym (drop_of_length-le l e)
spelled_from (suc k) i l h =
    ap (λ (t : List ℕ). get_or l i 0 ∷ t) (spelled_from k (suc i) l (omega arith)) ∙ sym (drop-cons l i 0 (omega arith))

pub spelled_whole : (k : ℕ) (l : List ℕ) → length l ≡ k → spelled 0 k l ≡ l
spelled_whole k l h = spelled_from k 0 l (omega arith)
