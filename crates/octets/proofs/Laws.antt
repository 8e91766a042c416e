-- Numbers read from octets and octets made of numbers are each other's inverse, and pieces put one after the other join: the laws behind the
-- reader, the builder and the header sent on. Assumes nothing.
use Prim.Native.Nat.{ℕ, zero, suc, ◌+◌, ◌-◌, ◌*◌, ◌/◌, ◌%◌, ◌^◌, ◌≤◌, ◌<◌}
use mathlib.Core.Path.{◌≡◌, refl, ap, sym, ◌∙◌}
use mathlib.Core.List.{List, [], ◌∷◌, ◌++◌, append_assoc}
use native.Mathlib.Nat.{pow-suc, div-add-mod', div-lt_iff_lt-mul, add-zero, add_assoc}
use native.Mathlib.Numerals.{add-one}
use native.Mathlib.Omega.{arith}
use lib.Arith.{digits_lt}
use lib.ListN.{get_or, set, length, take, drop, length-append, length-take, take-append-drop, get_or-append}
use Rattle.std.specs.List.{slice_range}
use Rattle.std.proofs.lemmas.List.{get_or-take, get_or-drop}
use lib.Seq.{get_or-append_seam, take-set-le, set_split, drop-drop, take-append_seam, length-take-le, drop_at, take_at}
use Rattle.octets.specs.Octets.{octet, number, octets, pasted, fronted}

-- ---- numbers

-- one octet more, of those from a place on
pub number_more : (s : List ℕ) (at n i v : ℕ) → i < n → v ≡ number s at i → v * 256 + octet (slice_range s at (at + n)) i ≡ number s at (i + 1)
unfolding number
number_more s at n i v h p =
    let k : i < at + n - at = omega arith in
    rw (add-one, p, get_or-take, get_or-drop)

pub bound_more : (i v b : ℕ) → v < 256 ^ i → b < 256 → v * 256 + b < 256 ^ (i + 1)
bound_more i v b p q = rw (add-one, pow-suc 256 i) (digits_lt p q)

-- octets that are octets make a number below 256 ^ n
pub number_lt : (s : List ℕ) (at n : ℕ) → ((i : ℕ) → get_or s i 0 < 256) → number s at n < 256 ^ n
unfolding number
number_lt s at zero h = omega arith
number_lt s at (suc n) h = rw (sym (add-one n)) (bound_more n _ _ (number_lt s at n h) (h (at + n)))

-- an octet is the number of one octet
pub octet_number_lem : (s : List ℕ) (at : ℕ) → octet s at ≡ number s at 1
unfolding number
octet_number_lem s at = rw add-zero (omega arith)

-- four octets as two pairs
pub two_pairs : (s : List ℕ) (at x y : ℕ) → x ≡ octet s at * 256 + octet s (at + 1) → y ≡ octet s (at + 2) * 256 + octet s (at + 3) → y + x * 65536 ≡ number s at 4
unfolding number
two_pairs s at x y p q = rw (p, q, add-zero at) (omega arith)

-- eight octets as two words
pub two_words : (s : List ℕ) (at x y : ℕ) → x ≡ number s at 4 → y ≡ number s (at + 4) 4 → x * 4294967296 + y ≡ number s at 8
unfolding number
two_words s at x y p q = rw (p, q, add_assoc at 4 0, add_assoc at 4 1, add_assoc at 4 2, add_assoc at 4 3) (omega arith)

pub length_octets : (n v : ℕ) → length (octets n v) ≡ n
unfolding octets
length_octets zero v = refl
length_octets (suc n) v = simp (length-append, length_octets n (v / 256)) (omega arith)

-- what stands behind does not matter
pub number_append : (s t : List ℕ) (n : ℕ) → n ≤ length s → number (s ++ t) 0 n ≡ number s 0 n
unfolding number
number_append s t zero h = refl
number_append s t (suc n) h =
    let k : n ≤ length s = omega arith in
    let j : 0 + n < length s = omega arith in
    rw (number_append s t n k, get_or-append s t 0 (0 + n) j)

-- the number of a number's octets is that number
pub number_octets : (n v : ℕ) → v < 256 ^ n → number (octets n v) 0 n ≡ v
unfolding number octets
number_octets zero v h = omega (arith, h)
number_octets (suc n) v h =
    let q : v / 256 < 256 ^ n = (div-lt_iff_lt-mul {k = 256} {x = v} {y = 256 ^ n} (omega arith)).1 (rw (pow-suc 256 n) at h) in
    let l : n ≤ length (octets n (v / 256)) = omega (arith, length_octets n (v / 256)) in
    let e : 0 + n ≡ length (octets n (v / 256)) = omega (arith, length_octets n (v / 256)) in
    rw (number_append (octets n (v / 256)) (v % 256 ∷ []) n l, number_octets n (v / 256) q, e, get_or-append_seam (octets n (v / 256)) (v % 256) [] 0) (div-add-mod' v 256)

-- ---- octets over a list

pub pasted_none : (l : List ℕ) (at : ℕ) → pasted l at [] ≡ l
unfolding pasted
pasted_none l at = rw add-zero (take-append-drop at l)

-- the last octet of what is pasted may be stored first
pasted_last : (l xs : List ℕ) (at y : ℕ) → at + length xs < length l → pasted l at (xs ++ (y ∷ [])) ≡ pasted (set l (at + length xs) y) at xs
unfolding pasted
pasted_last l xs at y h =
    let k : ℕ = at + length xs in
    let e : set l k y ≡ take k l ++ y ∷ drop (suc k) l = set_split l k y h in
    let lt : length (take k l) ≡ k = length-take-le k l (omega arith) in
    let d : drop k (set l k y) ≡ y ∷ drop (suc k) l = rw e (drop_at (take k l) (y ∷ drop (suc k) l) k lt) in
    let t : take at (set l k y) ≡ take at l = take-set-le at l k y (omega arith) in
    let n : at + length (xs ++ (y ∷ [])) ≡ suc k = simp length-append (omega arith) in
    rw (d, t, n, append_assoc)

pub octets_step : (l : List ℕ) (at i w : ℕ) → at + i < length l → pasted l at (octets (suc i) w) ≡ pasted (set l (at + i) (w % 256)) at (octets i (w / 256))
unfolding octets
octets_step l at i w h =
    let e : length (octets i (w / 256)) ≡ i = length_octets i (w / 256) in
    let room : at + length (octets i (w / 256)) < length l = omega arith in
    rw e at (pasted_last l (octets i (w / 256)) at (w % 256) room)

-- two pieces, one after the other
pub pasted_on : (l vs ws : List ℕ) (at : ℕ) → at + length vs + length ws ≤ length l → pasted (pasted l at vs) (at + length vs) ws ≡ pasted l at (vs ++ ws)
unfolding pasted
pasted_on l vs ws at h =
    let k : ℕ = at + length vs in
    let d : List ℕ = drop k l in
    let p : List ℕ = take at l ++ vs in
    let e : take at l ++ (vs ++ d) ≡ p ++ d = sym (append_assoc (take at l) vs d) in
    let lp : length p ≡ k = simp (length-append, length-take) (omega arith) in
    let t : take k (p ++ d) ≡ p = take_at p d k lp in
    let q : drop (k + length ws) (p ++ d) ≡ drop (k + length ws) l =
    sym (drop-drop (length ws) k (p ++ d)) ∙ (ap (λ (x : List ℕ). drop (length ws) x) (drop_at p d k lp) ∙ drop-drop (length ws) k l) in
    let n : at + length (vs ++ ws) ≡ k + length ws = simp length-append (omega arith) in
    rw (e, t, q, n) (simp append_assoc)

-- the piece before may be put last
pub pasted_before : (l vs ws : List ℕ) (k : ℕ) → length vs ≡ k → k + length ws ≤ length l → pasted (pasted l k ws) 0 vs ≡ pasted l 0 (vs ++ ws)
unfolding pasted
pasted_before l vs ws k e h =
    let t : length (take k l) ≡ k = length-take-le k l (omega arith) in
    let z : 0 + length vs ≡ k = omega arith in
    let n : 0 + length (vs ++ ws) ≡ k + length ws = simp length-append (omega arith) in
    rw (z, drop_at (take k l) (ws ++ drop (k + length ws) l) k t, n) (simp append_assoc)

pub pasted_front : (l vs : List ℕ) → pasted l 0 vs ≡ fronted vs l
unfolding pasted
pasted_front l vs =
    let e : 0 + length vs ≡ length vs = omega arith in
    rw e

-- what was written is read back
pub take_front : (l vs : List ℕ) → take (length vs) (pasted l 0 vs) ≡ vs
take_front l vs = rw (pasted_front l vs) (take-append_seam vs (drop (length vs) l))

-- ---- what a call that puts a piece promises

-- m is l with vs over it from a place on, and r the place behind it
abbrev pub Put : List ℕ → List ℕ → ℕ → ℕ → List ℕ → Type 0
Put l m at r vs = (r ≡ at + length vs) × (m ≡ pasted l at vs)

-- the same of n octets of a number, as `put_number` says it
abbrev pub PutNumber : List ℕ → List ℕ → ℕ → ℕ → ℕ → ℕ → Type 0
PutNumber l m at r n v = (r ≡ at + n) × (m ≡ pasted l at (octets n v))

pub put_none : (l : List ℕ) (at : ℕ) → Put l l at at []
put_none l at = (omega arith, sym (pasted_none l at))

pub put_one : (l m : List ℕ) (at i v r : ℕ) → PutNumber l m at r i v → Put l m at r (octets i v)
put_one l m at i v r p = (omega (arith, length_octets i v, p.0), p.1)

-- two pieces put, one after the other
pub put_two : (l m m' vs ws : List ℕ) (at r r' : ℕ) → Put l m at r vs → Put m m' r r' ws → at + length vs + length ws ≤ length l → Put l m' at r' (vs ++ ws)
put_two l m m' vs ws at r r' p q h = (simp length-append (omega (arith, p.0, q.0)), q.1 ∙ rw (p.0, p.1) (pasted_on l vs ws at h))

-- two numbers put, one after the other
pub put_numbers : (l m m' : List ℕ) (at i v j w r r' : ℕ) → PutNumber l m at r i v → PutNumber m m' r r' j w → at + i + j ≤ length l
    → Put l m' at r' (octets i v ++ octets j w)
put_numbers l m m' at i v j w r r' p q h =
    put_two l m m' (octets i v) (octets j w) at r r' (put_one l m at i v r p) (put_one m m' r j w r' q) (omega (arith, length_octets i v, length_octets j w))
