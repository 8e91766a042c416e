-- "Octets beyond the length field are ignored" (page 01, step 2). What is read, or refused, hangs on the octets that the length field counts and on
-- those of the control field, which is judged before the length field and may end behind it (docs/DECISIONS.md, D-2). Assumes nothing.
use native.Mathlib.Omega.{arith}
use Prim.Native.Nat.{ℕ, zero, suc, ◌+◌, ◌≤◌, ◌<◌}
use mathlib.Core.Path.{◌≡◌, refl, ap, sym, ◌∙◌}
use mathlib.Core.List.{List, [], ◌∷◌, ◌++◌}
use mathlib.Core.Bool.{Bool, true, false}
use mathlib.Core.Logic.{◌⊎◌, inl, inr}
use lib.ListN.{length, take}
use lib.Seq.{length-take-le, take_all, take-take, take_at, get_or-take}
use lib.Dec.{ltb}
use borrow.Author.Tests.{ltb-true, ltb-false, lt-ltb, le-ltb}
use Rattle.checks.specs.Order.{first_of}
use Rattle.checks.proofs.Bools.{or_false}
use Rattle.octets.specs.Octets.{octet}
use Rattle.checksum.specs.Sum.{element_of}
use Rattle.header.specs.Form.{control_of, layout_of, places_of, forbidden, stamp_size, stamp_format, has_hops, has_checksum}
use Rattle.header.specs.Read.{octet_of, length_of, fields_of, header_of, other_version, cut, misfit, wrong_checksum, read_checks, read_by, read_of}
use Rattle.header.specs.declared.Control.{Control}
use Rattle.header.specs.declared.Layout.{Layout}
use Rattle.header.specs.declared.Header.{Header}
use Rattle.checks.specs.Told.{Good}
use Rattle.header.proofs.Bounds.{control_end, Placed, placed}
use Rattle.header.proofs.Passed.{passed}
use Rattle.header.proofs.Back.{zero_or_one}
use Rattle.header.proofs.Alike.{Agree, control_alike, number_alike, octet_alike, HeaderAlike, header_alike}

-- the checksum and the header count only where no earlier check holds
by_last : (a b c d e w v : Bool) (g h : Header) → (d ≡ false → e ≡ false → (w ≡ v) × (g ≡ h))
    → read_by (first_of ((a, 1) ∷ (b, 2) ∷ (c, 1) ∷ (d, 4) ∷ (e, 3) ∷ (w, 5) ∷ [])) g ≡ read_by (first_of ((a, 1) ∷ (b, 2) ∷ (c, 1) ∷ (d, 4) ∷ (e, 3) ∷ (v, 5) ∷ [])) h
unfolding first_of
by_last true b c d e w v g h same = refl
by_last false true c d e w v g h same = refl
by_last false false true d e w v g h same = refl
by_last false false false true e w v g h same = refl
by_last false false false false true w v g h same = refl
by_last false false false false false w v g h same = let p = same refl refl in rw (p.0, p.1)

by_checks : {a a' b b' c c' d d' e e' w w' : Bool} {h h' : Header} → a' ≡ a → b' ≡ b → c' ≡ c → d' ≡ d → e' ≡ e → (d ≡ false → e ≡ false → (w' ≡ w) × (h' ≡ h))
    → read_by (first_of ((a', 1) ∷ (b', 2) ∷ (c', 1) ∷ (d', 4) ∷ (e', 3) ∷ (w', 5) ∷ [])) h' ≡ read_by (first_of ((a, 1) ∷ (b, 2) ∷ (c, 1) ∷ (d, 4) ∷ (e, 3) ∷ (w, 5) ∷ [])) h
by_checks {a} {a'} {b} {b'} {c} {c'} {d} {d'} {e} {e'} {w} {w'} {h} {h'} p q r s t same = rw (p, q, r, s, t) (by_last a b c d e w' w h' h same)

-- a timestamp's size does not hang on its first octet, or there is such an octet
stamp_either : (format p q : ℕ) → format ≤ 3 → (stamp_size format p ≡ stamp_size format q) ⊎ ((1 ≤ stamp_size format p) × (1 ≤ stamp_size format q))
unfolding stamp_size
stamp_either zero p q h = inl refl
stamp_either (suc zero) p q h = inl refl
stamp_either (suc (suc zero)) p q h = inr (omega arith, omega arith)
stamp_either (suc (suc (suc zero))) p q h = inl refl
stamp_either (suc (suc (suc (suc format)))) p q h = absurd (omega arith)

-- s and t, both at least n long, agree up to n; the length field and the control field of s end there or before
module _ (s t : List ℕ) (n : ℕ) (room : n ≤ length s) (there : n ≤ length t) (AgreeAt : take n t ≡ take n s) (long : length_of s ≤ n) (whole : (control_of s).end ≤ n) where
  abbrev k : Control
  k = control_of s

  abbrev l : Layout
  l = places_of s

  same : (i : ℕ) → i < n → octet t i ≡ octet s i
  same i below = sym (get_or-take n t i 0 below) ∙ (ap (λ (x : List ℕ). octet x i) AgreeAt ∙ get_or-take n s i 0 below)

  control_same : control_of t ≡ k
  control_same = control_alike s t (λ i above below. same i (omega arith))

  length_same : length_of t ≡ length_of s
  unfolding length_of
  length_same = rw (same 0 (omega (arith, control_end s)), same 1 (omega (arith, control_end s)))

  places : Placed s k
  places = placed s k (control_end s).1

  -- the elements stand in t where they do in s; or a P-field lies past n, and both headers end behind it
  abbrev Laid : Type 0
  Laid = (places_of t ≡ l) ⊎ ((length_of s < l.size) × (length_of s < (places_of t).size))

  past_case : n ≤ l.stamp
      → (stamp_size (stamp_format k) (octet t l.stamp) ≡ stamp_size (stamp_format k) (octet s l.stamp))
      ⊎ ((1 ≤ stamp_size (stamp_format k) (octet t l.stamp)) × (1 ≤ stamp_size (stamp_format k) (octet s l.stamp))) → Laid
  unfolding layout_of
  past_case past (inl is) = inl (rw (control_same, is))
  past_case past (inr some) = inr (omega arith, rw control_same (omega arith))

  laid_case : (p : Bool) → ltb l.stamp n ≡ p → Laid
  unfolding layout_of
  laid_case true e = inl (rw (control_same, same l.stamp (ltb-true l.stamp n e)))
  laid_case false e = past_case (ltb-false l.stamp n e) (stamp_either (stamp_format k) (octet t l.stamp) (octet s l.stamp) (omega arith))

  laid : Laid
  laid = laid_case (ltb l.stamp n) refl

  misfit_case : Laid → misfit t (places_of t) ≡ misfit s l
  misfit_case (inl e) = simp (e, length_same, le-ltb (length t) (length_of s) (omega arith), le-ltb (length s) (length_of s) (omega arith))
  misfit_case (inr b) =
      simp (length_same, le-ltb (length t) (length_of s) (omega arith), le-ltb (length s) (length_of s) (omega arith), lt-ltb (length_of s) l.size b.0, lt-ltb (length_of s) (places_of t).size b.1)

  -- the header lies before n, where it passes the checks before its checksum
  module _ (form : forbidden k ≡ false) (fits : misfit s l ≡ false) where
    near : l.size ≤ length_of s
    near = ltb-false (length_of s) l.size (or_false (ltb (length s) (length_of s)) _ fits).1

    between : (from to : ℕ) → to ≤ l.checksum → Agree s t from to
    between from to h i above below = same i (omega (arith, near, places))

    alike : HeaderAlike s t
    alike = header_alike s t form (between 0 l.hops (omega (arith, places))) (between l.stamp l.checksum (omega arith))

    sum_case : (has_checksum k ≡ 0) ⊎ (has_checksum k ≡ 1) → wrong_checksum t k l ≡ wrong_checksum s k l
    unfolding element_of
    sum_case (inl none) = simp none
    sum_case (inr one) =
        let end : l.checksum + 2 ≤ n = omega (arith, near, places) in
        let before : take l.checksum t ≡ take l.checksum s =
        sym (take-take l.checksum n t (omega arith)) ∙ (ap (take l.checksum) AgreeAt ∙ take-take l.checksum n s (omega arith)) in
        rw (before, number_alike s t l.checksum 2 (λ i above below. same i (omega arith)))

    hops_same : octet_of t (has_hops k) l.hops ≡ octet_of s (has_hops k) l.hops
    unfolding layout_of
    hops_same = octet_alike s t (has_hops k) l.hops (omega arith) (between _ _ (omega (arith, places)))

    header_same : header_of t ≡ header_of s
    unfolding header_of fields_of
    header_same = alike.header ∙ rw hops_same

    last_same : (wrong_checksum t (control_of t) (places_of t) ≡ wrong_checksum s k l) × (header_of t ≡ header_of s)
    last_same = (rw (alike.places, control_same) (sum_case (zero_or_one (has_checksum k) (omega arith))), header_same)

  read_same : read_of t ≡ read_of s
  unfolding read_of read_checks
  read_same =
      let start : ltb (length t) 3 ≡ ltb (length s) 3 = simp (le-ltb (length t) 3 (omega (arith, control_end s)), le-ltb (length s) 3 (omega (arith, control_end s))) in
      let version : other_version t ≡ other_version s = rw (same 0 (omega (arith, control_end s))) in
      let cuts : cut t (control_of t) ≡ cut s k = rw control_same (simp (le-ltb (length t) k.end (omega arith), le-ltb (length s) k.end (omega arith))) in
      by_checks start version cuts (ap forbidden control_same) (misfit_case laid) last_same

-- ---- the laws

-- octets that agree up to there are read alike, or refused by the same number
pub agree_up_to_the_length : (s t : List ℕ) (n : ℕ) → length_of s ≤ n → (control_of s).end ≤ n → take n t ≡ take n s → read_of t ≡ read_of s
agree_up_to_the_length s t n long whole AgreeAt = by (ltb (length s) n) (ltb (length t) n) refl refl
  where
    under : (x : List ℕ) → ltb (length x) n ≡ true → take n x ≡ x
    under x e = let less = ltb-true (length x) n e in take_all n x (omega arith)

    -- two of which one ends before n do not agree up to n
    ends : (x y : List ℕ) → ltb (length x) n ≡ true → ltb (length y) n ≡ false → take n x ≡ take n y → ⊥
    ends x y e g same =
        let less = ltb-true (length x) n e in
        omega (arith, ap length (sym (under x e) ∙ same), length-take-le n y (ltb-false (length y) n g))

    by : (p q : Bool) → ltb (length s) n ≡ p → ltb (length t) n ≡ q → read_of t ≡ read_of s
    by true true e g = ap read_of (sym (under t g) ∙ (AgreeAt ∙ under s e))
    by true false e g = absurd (ends s t e g (sym AgreeAt))
    by false true e g = absurd (ends t s g e AgreeAt)
    by false false e g = read_same s t n (ltb-false (length s) n e) (ltb-false (length t) n g) AgreeAt long whole

-- so the octets behind may be left out
pub beyond_the_length : (s : List ℕ) (n : ℕ) → length_of s ≤ n → (control_of s).end ≤ n → read_of (take n s) ≡ read_of s
beyond_the_length s n long whole = agree_up_to_the_length s (take n s) n long whole (take-take n n s (omega arith))

-- and where a header is read, any octets may stand behind its length field
pub whatever_follows : (s rest : List ℕ) (h : Header) → read_of s ≡ Good h → read_of (take h.length s ++ rest) ≡ Good h
unfolding header_of
whatever_follows s rest h e =
    let p = passed s h e in
    let places = placed s (control_of s) (control_end s).1 in
    let is : h.length ≡ length_of s = rw p.is in
    let inside : h.length ≤ length s = omega (arith, p.inside) in
    agree_up_to_the_length s (take h.length s ++ rest) h.length (omega arith) (omega (arith, p.fits)) (take_at (take h.length s) rest h.length (length-take-le h.length s inside))
    ∙ e
