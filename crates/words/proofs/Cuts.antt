-- Sections of a list: which part each is, that together they are the list, and what a write within one of them leaves of all of them.
-- Assumes nothing.
use native.Mathlib.Omega.{arith}
use native.Mathlib.Nat.{le_of_suc-le-suc, not-suc-le-zero, add_assoc}
use Prim.Native.Nat.{ℕ, zero, suc, ◌+◌, ◌≤◌, ◌<◌}
use mathlib.Core.Path.{◌≡◌, refl, ap, ◌∙◌}
use mathlib.Core.List.{List, [], ◌∷◌}
use lib.ListN.{length, take, drop, get_or, set, length-drop, take-append-drop}
use lib.Seq.{drop-drop}
use Rattle.words.specs.Cut.{total, start, cuts, cut, joined, part, pasted}
use Rattle.words.proofs.Parts.{part_before, part_length, drop_after, drop_in, take_in}

module _ {A : Type 0} where
  none : (l : List A) → length l ≡ 0 → [] ≡ l
  none [] h = refl
  none (x ∷ l) h = absurd (omega arith)

  pub cuts_joined : (ns : List ℕ) (l : List A) → length l ≡ total ns → joined (cuts ns l) ≡ l
  unfolding total
  cuts_joined [] l h = none l h
  cuts_joined (n ∷ ns) l h = rw (cuts_joined ns (drop n l) (length-drop n l ∙ omega arith)) (take-append-drop n l)

  pub cut_read : (ns : List ℕ) (l : List A) (c : ℕ) → c < length ns → cut ns l c ≡ part (start ns c) (get_or ns c 0) l
  cut_read [] l c h = absurd (not-suc-le-zero h)
  cut_read (n ∷ ns) l zero h = refl
  cut_read (n ∷ ns) l (suc c) h = cut_read ns (drop n l) c (le_of_suc-le-suc h) ∙ ap (take (get_or ns c 0)) (drop-drop (start ns c) n l)

  pub cut_length : (ns : List ℕ) (l : List A) (c : ℕ) → c < length ns → start ns c + get_or ns c 0 ≤ length l
      → length (cut ns l c) ≡ get_or ns c 0
  cut_length ns l c h m = ap length (cut_read ns l c h) ∙ part_length (start ns c) (get_or ns c 0) l m

  -- k elements written, j elements into section c
  pub cut_written : (ns : List ℕ) (l : List A) (c j k : ℕ) (vs : List A) → c < length ns → length vs ≡ k → j + k ≤ get_or ns c 0
      → start ns c + j + k ≤ length l → cuts ns (pasted l (start ns c + j) k vs) ≡ set (cuts ns l) c (pasted (cut ns l c) j k vs)
  cut_written [] l c j k vs h v s m = absurd (not-suc-le-zero h)
  cut_written (n ∷ ns) l zero j k vs h v s m =
      let z : 0 + j ≡ j = omega arith in
      let here : take n (pasted l j k vs) ≡ pasted (take n l) j k vs = take_in l n j k vs v s (omega arith) in
      let rest : drop n (pasted l j k vs) ≡ drop n l = drop_after l n j k vs s v (omega arith) in
      rw z
      (ap (λ (x : List A). x ∷ cuts ns (drop n (pasted l j k vs))) here
      ∙ ap (λ (x : List A). pasted (take n l) j k vs ∷ cuts ns x) rest)
  cut_written (n ∷ ns) l (suc c) j k vs h v s m =
      let at = n + (start ns c + j) in
      let here : take n (pasted l at k vs) ≡ take n l = part_before l 0 n at k vs (omega arith) (omega arith) in
      let rest : drop n (pasted l at k vs) ≡ pasted (drop n l) (start ns c + j) k vs = drop_in l n (start ns c + j) k vs (omega arith) in
      ap (λ (b : ℕ). cuts (n ∷ ns) (pasted l b k vs)) (add_assoc n (start ns c) j)
      ∙ ap (λ (x : List A). x ∷ cuts ns (drop n (pasted l at k vs))) here
      ∙ ap (λ (x : List A). take n l ∷ cuts ns x) rest
      ∙ ap (λ (x : List (List A)). take n l ∷ x)
      (cut_written ns (drop n l) c j k vs (le_of_suc-le-suc h) v s (rw length-drop (omega arith)))
