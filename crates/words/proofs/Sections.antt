-- Record i of section c, where the section is n records of k words: the one law for a record that the code reads, and the one for a
-- record that it writes, through the part from a = start + i * k to a + k. Assumes nothing.
use native.Mathlib.Omega.{arith}
use Prim.Native.Nat.{ℕ, ◌+◌, ◌-◌, ◌*◌, ◌≤◌, ◌<◌}
use mathlib.Core.Path.{◌≡◌, refl, sym, ap, ◌∙◌}
use mathlib.Core.List.{List, [], ◌∷◌, ◌++◌}
use lib.ListN.{length, take, drop, get_or, set}
use Rattle.words.specs.Cut.{start, cuts, cut, part, pasted, rows}
use Rattle.words.proofs.Parts.{part_part, part_read, stored}
use Rattle.words.proofs.Pieces.{ends_within, row_read, row_written}
use Rattle.words.proofs.Cuts.{cut_read, cut_length, cut_written}

width : (a k : ℕ) → a + k - a ≡ k
width a k = omega arith

module _ (ns w : List ℕ) (c : ℕ) (there : c < length ns) where
  module _ {A : Type 0} (read : List ℕ → A) (k n : ℕ) (whole : get_or ns c 0 ≡ n * k) where
    -- What is read from the part is the record.
    pub record_read : (i : ℕ) (d r : A) → i < n
        → r ≡ read (take (start ns c + i * k + k - (start ns c + i * k)) (drop (start ns c + i * k) w))
        → r ≡ get_or (rows read k n (cut ns w c)) i d
    record_read i d r h e =
        let a = start ns c + i * k in
        let ends : i * k + k ≤ get_or ns c 0 = rw whole (ends_within k n i h) in
        e
        ∙ ap (λ (m : ℕ). read (take m (drop a w))) (width a k)
        ∙ sym
        (row_read read k n (cut ns w c) i d h
        ∙ ap (λ (l : List ℕ). read (part (i * k) k l)) (cut_read ns w c there)
        ∙ ap read (part_part (start ns c) (get_or ns c 0) (i * k) k w ends))

    -- Once x's words are written there, the sections hold what they held, but for record i of section c, which is x. `all` reads the
    -- sections, `update` takes the records of section c anew.
    pub record_written : {R : Type 0} (all : List (List ℕ) → R) (update : List A → R)
        → ((s : List ℕ) → all (set (cuts ns w) c s) ≡ update (rows read k n s))
        → start ns c + get_or ns c 0 ≤ length w → (i : ℕ) (x : A) (vs : List ℕ) → i < n → length vs ≡ k → read vs ≡ x
        → all (cuts ns (take (start ns c + i * k) w ++ (vs ++ drop (start ns c + i * k + k - (start ns c + i * k)) (drop (start ns c + i * k) w))))
        ≡ update (set (rows read k n (cut ns w c)) i x)
    record_written all update same fits i x vs h v e =
        let a = start ns c + i * k in
        let ends : i * k + k ≤ get_or ns c 0 = rw whole (ends_within k n i h) in
        let long : n * k ≤ length (cut ns w c) = rw (cut_length ns w c there fits, whole) (omega arith) in
        ap (λ (m : ℕ). all (cuts ns (take a w ++ (vs ++ drop m (drop a w))))) (width a k)
        ∙ ap all (cut_written ns w c (i * k) k vs there v ends (omega arith))
        ∙ same (pasted (cut ns w c) (i * k) k vs)
        ∙ ap update (row_written read k n (cut ns w c) i vs h v long ∙ ap (set (rows read k n (cut ns w c)) i) e)

  -- The same of a section of single words.
  pub word_read : (i : ℕ) → i < get_or ns c 0 → get_or w (start ns c + i) 0 ≡ get_or (cut ns w c) i 0
  word_read i h = sym (ap (λ (l : List ℕ). get_or l i 0) (cut_read ns w c there) ∙ part_read (start ns c) (get_or ns c 0) w i 0 h)

  pub word_written : start ns c + get_or ns c 0 ≤ length w → (i v : ℕ) → i < get_or ns c 0
      → cuts ns (set w (start ns c + i) v) ≡ set (cuts ns w) c (set (cut ns w c) i v)
  word_written fits i v h =
      ap (cuts ns) (stored w (start ns c + i) v (omega arith))
      ∙ cut_written ns w c i 1 (v ∷ []) there refl (omega arith) (omega arith)
      ∙ ap (set (cuts ns w) c) (sym (stored (cut ns w c) i v (rw (cut_length ns w c there fits) h)))
