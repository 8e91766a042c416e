-- The headers in the output, each in its port's stretch of 50 octets (page 02, W-214): where none is longer than its stretch, what is written for one port
-- overwrites no other's, each stands there as it was made, and every other octet stays as lent. Assumes nothing.
use native.Mathlib.Omega.{arith}
use Prim.Native.Nat.{ℕ, zero, suc, ◌+◌, ◌-◌, ◌<◌, ◌≤◌}
use mathlib.Core.Path.{◌≡◌, refl, sym, ap, ◌∙◌}
use mathlib.Core.Logic.{◌⊎◌, ⊎_elim}
use mathlib.Core.Bool.{Bool, true, false}
use mathlib.Core.List.{List, ◌++◌, append_assoc}
use lib.ListN.{get_or, length, take, drop, length-append, length-drop, take-append-drop, get_or-append}
use lib.Dec.{eqb}
use lib.Seq.{length-take-le, take-append_seam, take-append-le, drop-append-le, get_or-append-add, get_or-take, get_or-drop, drop_at}
use borrow.Author.Tests.{eqb-true, eqb-false}
use Rattle.checks.specs.Order.{pick}
use Rattle.checks.proofs.Laws.{either}
use Rattle.octets.specs.Octets.{pasted}
use Rattle.sets.specs.Sets.{in_set}
use Rattle.header.specs.Limits.{longest_header}
use Rattle.header.specs.Form.{places_of}
use Rattle.next_leg.specs.Leg.{header_for}
use Rattle.next_leg.specs.declared.Legs.{Legs}
use Rattle.relay.specs.Outgoing.{stretch_of, sent_if, sent_below}
use Rattle.batch.proofs.Sent.{next_fits, below_length}

-- ---- one piece over a list that has room for it
module _ (l vs : List ℕ) (at : ℕ) (room : at + length vs ≤ length l) where
  front : length (take at l) ≡ at
  front = length-take-le at l (omega (arith, room))

  -- the piece stands there
  pub pasted_here : take (length vs) (drop at (pasted l at vs)) ≡ vs
  unfolding pasted
  pasted_here =
      ap (take (length vs)) (drop_at (take at l) (vs ++ drop (at + length vs) l) at front) ∙ take-append_seam vs (drop (at + length vs) l)

  -- each octet before and behind it stays
  pasted_apart : (i : ℕ) → (i < at) ⊎ (at + length vs ≤ i) → get_or (pasted l at vs) i 0 ≡ get_or l i 0
  unfolding pasted
  pasted_apart i = ⊎_elim before behind
    where
      rest : List ℕ
      rest = drop (at + length vs) l

      before : i < at → get_or (take at l ++ (vs ++ rest)) i 0 ≡ get_or l i 0
      before h = get_or-append (take at l) (vs ++ rest) 0 i (omega (arith, front, h)) ∙ get_or-take at l i 0 h

      behind : at + length vs ≤ i → get_or (take at l ++ (vs ++ rest)) i 0 ≡ get_or l i 0
      behind h =
          let k = i - (at + length vs) in
          let long : length (take at l ++ vs) + k ≡ i = simp (length-append, front) (omega (arith, h)) in
          ap (λ (y : List ℕ). get_or y i 0) (sym (append_assoc (take at l) vs rest))
          ∙ ap (λ (j : ℕ). get_or ((take at l ++ vs) ++ rest) j 0) (sym long)
          ∙ get_or-append-add (take at l ++ vs) rest k 0
          ∙ get_or-drop (at + length vs) l k 0
          ∙ ap (λ (j : ℕ). get_or l j 0) (omega (arith, h))

-- what stands before a place, whatever stands from there on
part_before : (xs ys : List ℕ) (from n : ℕ) → from + n ≤ length xs → take n (drop from (xs ++ ys)) ≡ take n (drop from xs)
part_before xs ys from n h =
    ap (take n) (drop-append-le from xs ys (omega (arith, h))) ∙ take-append-le n (drop from xs) ys (omega (arith, h, length-drop from xs))

-- a piece before the one that is pasted stays
pub pasted_after : (l vs : List ℕ) (at from n : ℕ) → at ≤ length l → from + n ≤ at → take n (drop from (pasted l at vs)) ≡ take n (drop from l)
unfolding pasted
pasted_after l vs at from n inside h =
    let fits : from + n ≤ length (take at l) = omega (arith, h, length-take-le at l inside) in
    part_before (take at l) _ from n fits
    ∙ sym (part_before (take at l) (drop at l) from n fits)
    ∙ ap (λ (y : List ℕ). take n (drop from y)) (take-append-drop at l)

-- ---- the ports
module _ (took : ℕ) (l : Legs) (octets : List ℕ) (whole : (places_of octets).size ≤ length octets) where
  abbrev size : ℕ → ℕ
  size p = length (header_for l octets p)

  short : (p : ℕ) → size p ≤ longest_header
  short p = next_fits (in_set p l.far) l.arrival.0 l.code octets whole

  -- the octets of the header at port p, as they stand in the output
  abbrev found : ℕ → List ℕ → List ℕ
  found p output = take (size p) (drop (stretch_of p) output)

  abbrev Apart : ℕ → ℕ → Type 0
  Apart i p = (i < stretch_of p) ⊎ (stretch_of p + size p ≤ i)

  -- one port
  module _ (p : ℕ) (lent : List ℕ) (room : stretch_of p + longest_header ≤ length lent) where
    fits : stretch_of p + size p ≤ length lent
    fits = omega (arith, short p, room)

    one_here : in_set p took ≡ true → found p (sent_if took l octets p lent) ≡ header_for l octets p
    unfolding sent_if
    one_here is = rw is (pasted_here lent (header_for l octets p) (stretch_of p) fits)

    one_after : (q : ℕ) → q < p → found q (sent_if took l octets p lent) ≡ found q lent
    unfolding sent_if
    one_after q before =
        either (λ (y : List ℕ). found q y ≡ found q lent) (in_set p took)
        (pasted_after lent (header_for l octets p) (stretch_of p) (stretch_of q) (size q) (omega (arith, fits)) (omega (arith, short q, before))) refl

    -- this port's, or one that stood there already
    one_further : (q : ℕ) → q < suc p → in_set q took ≡ true → (q < p → found q lent ≡ header_for l octets q)
        → found q (sent_if took l octets p lent) ≡ header_for l octets q
    one_further q inside is stood = by (eqb q p) refl
      where
        by : (t : Bool) → eqb q p ≡ t → found q (sent_if took l octets p lent) ≡ header_for l octets q
        by true e = let same = eqb-true q p e in rw same (one_here (rw same at is))
        by false e = let h : q < p = omega (arith, inside, eqb-false q p e) in one_after q h ∙ stood h

    one_apart : (i : ℕ) → (in_set p took ≡ true → Apart i p) → get_or (sent_if took l octets p lent) i 0 ≡ get_or lent i 0
    unfolding sent_if
    one_apart i apart = by (in_set p took) apart
      where
        by : (t : Bool) → (t ≡ true → Apart i p) → get_or (pick t (pasted lent (stretch_of p) (header_for l octets p)) lent) i 0 ≡ get_or lent i 0
        by true is = pasted_apart lent (header_for l octets p) (stretch_of p) fits i (is refl)
        by false is = refl

  -- ---- the ports below n, whose stretches were lent
  module _ (lent : List ℕ) where
    abbrev below : ℕ → List ℕ
    below n = sent_below took l octets lent n

    pub below_found : (n : ℕ) → stretch_of n ≤ length lent → (p : ℕ) → p < n → in_set p took ≡ true → found p (below n) ≡ header_for l octets p
    unfolding sent_below
    below_found zero room p inside is = absurd (omega arith)
    below_found (suc n) room p inside is =
        let before : stretch_of n ≤ length lent = omega (arith, room) in
        one_further n (below n) (omega (arith, room, below_length took l octets whole lent n before)) p inside is (λ h. below_found n before p h is)

    pub below_apart : (n : ℕ) → stretch_of n ≤ length lent → (i : ℕ) → ((p : ℕ) → p < n → in_set p took ≡ true → Apart i p)
        → get_or (below n) i 0 ≡ get_or lent i 0
    unfolding sent_below
    below_apart zero room i apart = refl
    below_apart (suc p) room i apart =
        let inside : stretch_of p ≤ length lent = omega (arith, room) in
        one_apart p (below p) (omega (arith, room, below_length took l octets whole lent p inside)) i (apart p (omega arith))
        ∙ below_apart p inside i (λ q before. apart q (omega (arith, before)))
