-- The headers of the copies, port by port: a copy is rewritten exactly where W-214 says so, and the one size that is told is that of each rewritten
-- header. Assumes nothing.
use Prim.Native.Nat.{ℕ}
use mathlib.Core.Path.{◌≡◌, refl, sym, ap, ◌∙◌}
use mathlib.Core.Logic.{◌≢◌}
use mathlib.Core.Bool.{Bool, true, false, not, ◌&&◌, ◌||◌, and-true, and-false, or-true, or-false}
use mathlib.Core.List.{List}
use lib.Dec.{eqb}
use borrow.Author.Tests.{eq-eqb, ne_eqb, eqb-true}
use Rattle.checks.specs.Order.{pick}
use Rattle.checks.proofs.Bools.{true_false}
use Rattle.sets.specs.Sets.{in_set}
use Rattle.header.specs.Build.{size_of}
use Rattle.header.specs.declared.Fields.{Fields}
use Rattle.next_leg.specs.Leg.{adds, is_narrow, rewrites, next_fields, next_size, next_header, no_legs, rewritten_among, rewritten_octets, legs_of, header_for}
use Rattle.next_leg.specs.declared.Leg.{Leg}
use Rattle.next_leg.specs.declared.Legs.{Legs}
use Rattle.verdict.specs.Rule.{except_by}
use Rattle.survey.proofs.Bits.{in_none}

-- a set that has a port is not empty
not_empty : (p set : ℕ) → in_set p set ≡ true → set ≢ 0
not_empty p set is z = true_false (sym is ∙ ap (in_set p) z ∙ in_none p)

-- of those that took a copy, and of these in another domain, port p, which lies far or not
module _ (took far : ℕ) (p : ℕ) (t : Bool) (far_is : in_set p far ≡ (in_set p took && t)) where
  rewritten_case : (adds narrow : Bool) → in_set p (pick adds took (pick narrow far 0)) ≡ (in_set p took && ((t && narrow) || adds))
  rewritten_case true narrow = rw (or-true (t && narrow)) (sym (and-true (in_set p took)))
  rewritten_case false true = rw (or-false (t && true), and-true t) far_is
  rewritten_case false false = rw (or-false (t && false), and-false t) (in_none p ∙ sym (and-false (in_set p took)))

  -- Its copy is rewritten exactly where it took one and W-214 says so.
  pub rewritten_exactly : (code : ℕ) (f : Fields) → in_set p (rewritten_among took far code f) ≡ (in_set p took && rewrites t code f)
  unfolding rewrites
  rewritten_exactly code f = rewritten_case (adds code f) (is_narrow f.addresses)

  -- So it has the size that is told, where elements are added for no port but that of the route.
  module _ (l : Leg) (is : in_set p took ≡ true) (alone : adds l.code l.header.fields ≡ true → t ≡ false → far ≡ 0) where
    abbrev rewritten : ℕ
    rewritten = rewritten_among took far l.code l.header.fields

    far_case : (u : Bool) → t ≡ u → rewrites u l.code l.header.fields ≡ true → not (eqb far 0) ≡ u
    unfolding rewrites
    far_case true e so = ap not (ne_eqb far 0 (not_empty p far (far_is ∙ rw (is, e))))
    far_case false e so = ap not (eq-eqb far 0 (alone so e))

    pub one_rewritten :
        pick (in_set p rewritten) (rewritten_octets rewritten far l) l.header.size ≡ next_size t l.arrival.0 l.code l.header
    unfolding next_size
    one_rewritten = by (rewrites t l.code l.header.fields) refl
      where
        told : (u : Bool) → rewrites t l.code l.header.fields ≡ u → in_set p rewritten ≡ u
        told u e = rewritten_exactly l.code l.header.fields ∙ rw (is, e)

        by : (u : Bool) → rewrites t l.code l.header.fields ≡ u
            → pick (in_set p rewritten) (rewritten_octets rewritten far l) l.header.size
            ≡ pick u (size_of (next_fields t l.arrival.0 l.code l.header.fields)) l.header.size
        by true e =
            ap (λ (v : Bool). pick v (rewritten_octets rewritten far l) l.header.size) (told true e)
            ∙ ap (λ (v : Bool). pick v 0 (size_of (next_fields (not (eqb far 0)) l.arrival.0 l.code l.header.fields))) (ne_eqb rewritten 0 (not_empty p rewritten (told true e)))
            ∙ ap (λ (v : Bool). size_of (next_fields v l.arrival.0 l.code l.header.fields)) (far_case t refl e)
        by false e = ap (λ (v : Bool). pick v (rewritten_octets rewritten far l) l.header.size) (told false e)

-- ---- all headers together, domain being the ports of the arrival port's domain
module _ (took domain : ℕ) (l : Leg) (p : ℕ) (t : Bool) (far_is : in_set p (except_by took domain) ≡ (in_set p took && t)) where
  abbrev far : ℕ
  far = except_by took domain

  abbrev rewritten_ones : ℕ
  rewritten_ones = rewritten_among took far l.code l.header.fields

  abbrev made : Legs
  made = record { arrival = l.arrival; code = l.code; far = far; rewritten = rewritten_ones; octets = rewritten_octets rewritten_ones far l }

  pub legs_rewritten : in_set p (legs_of took domain l).rewritten ≡ (in_set p took && rewrites t l.code l.header.fields)
  unfolding legs_of
  legs_rewritten = by (eqb took 0) refl
    where
      by : (u : Bool) → eqb took 0 ≡ u → in_set p (pick u no_legs made).rewritten ≡ (in_set p took && rewrites t l.code l.header.fields)
      by true e = in_none p ∙ sym (ap (λ (n : ℕ). in_set p n && rewrites t l.code l.header.fields) (eqb-true took 0 e) ∙ rw (in_none p))
      by false e = rewritten_exactly took far p t far_is l.code l.header.fields

  module _ (is : in_set p took ≡ true) where
    legs_are : legs_of took domain l ≡ made
    unfolding legs_of
    legs_are = ap (λ (v : Bool). pick v no_legs made) (ne_eqb took 0 (not_empty p took is))

    pub legs_header : (octets : List ℕ) → header_for (legs_of took domain l) octets p ≡ next_header t l.arrival.0 l.code octets
    legs_header octets =
        ap (λ (x : Legs). header_for x octets p) legs_are
        ∙ ap (λ (v : Bool). next_header v l.arrival.0 l.code octets) (far_is ∙ ap (λ (v : Bool). v && t) is)

    pub legs_size : (adds l.code l.header.fields ≡ true → t ≡ false → far ≡ 0)
        → pick (in_set p (legs_of took domain l).rewritten) (legs_of took domain l).octets l.header.size ≡ next_size t l.arrival.0 l.code l.header
    legs_size alone =
        ap (λ (x : Legs). pick (in_set p x.rewritten) x.octets l.header.size) legs_are ∙ one_rewritten took far p t far_is l is alone
