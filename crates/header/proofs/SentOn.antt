-- The header sent on (page 01, "One received datagram", last sentence) is as long as the one that came, differs from it in nothing but the hop
-- count and the checksum, and is read as the same fields with the hop count less one. It is read alike because it has the octets of the one that
-- came (`header_alike`): its control field need not be the shortest, so that the laws of built headers would not do. Assumes nothing.
use native.Mathlib.Omega.{arith}
use Prim.Native.Nat.{ℕ, zero, suc, ◌-◌, ◌≤◌, ◌<◌}
use mathlib.Core.Path.{◌≡◌, refl, sym, ◌∙◌}
use mathlib.Core.List.{List, [], ◌∷◌, ◌++◌, append_assoc}
use mathlib.Core.Bool.{Bool, true, false}
use mathlib.Core.Logic.{◌⊎◌, inl, inr}
use lib.ListN.{get_or, set, length, take, drop, length-append, length-drop, length-set, get_or-append}
use lib.Seq.{length-take-le, get_or-take, set-append_left, get_or-set_same, get_or-set_other, set-get_or}
use lib.Dec.{eqb}
use borrow.Author.Tests.{eqb-true}
use Rattle.std.specs.Prelude.{Some}
use Rattle.checks.specs.Order.{pick}
use Rattle.octets.specs.Octets.{octet, number}
use Rattle.checksum.specs.Sum.{element_of}
use Rattle.checksum.proofs.Words.{Octets}
use Rattle.header.specs.Form.{control_of, layout_of, places_of, has_hops, has_checksum}
use Rattle.header.specs.Read.{octet_of, fields_of, header_of, read_of}
use Rattle.header.specs.Build.{checksum_octets}
use Rattle.header.specs.Onward.{lessened, sent_body, header_sent_on, one_less, with_hops}
use Rattle.header.specs.declared.Control.{Control}
use Rattle.header.specs.declared.Layout.{Layout}
use Rattle.header.specs.declared.Header.{Header}
use Rattle.header.proofs.Bounds.{control_end, Placed, placed}
use Rattle.checks.specs.Told.{Good}
use Rattle.header.proofs.Passed.{Passed, passed, read_passed}
use Rattle.header.proofs.Alike.{Agree, header_alike}
use Rattle.header.proofs.BuiltLaws.{checksum_length, append_small, pick_small}
use Rattle.header.proofs.Trip.{right}
use Rattle.header.proofs.Back.{zero_or_one, checksum_again}

-- ---- one octet less one

length_case : (t : Bool) (at v : ℕ) (l : List ℕ) → length (pick t (set l at v) l) ≡ length l
length_case true at v l = length-set l at v
length_case false at v l = refl

length_lessened : (on at : ℕ) (l : List ℕ) → length (lessened on at l) ≡ length l
unfolding lessened
length_lessened on at l = length_case (eqb on 1) at (octet l at - 1) l

append_case : (t : Bool) (on at : ℕ) (l rest : List ℕ) → eqb on 1 ≡ t → (on ≡ 1 → at < length l)
    → pick t (set (l ++ rest) at (octet (l ++ rest) at - 1)) (l ++ rest) ≡ pick t (set l at (octet l at - 1)) l ++ rest
append_case true on at l rest e h =
    let inside : at < length l = h (eqb-true on 1 e) in
    rw (get_or-append l rest 0 at inside) (set-append_left l rest at (octet l at - 1) inside)
append_case false on at l rest e h = refl

-- what comes after the octets does not matter
pub lessened_append : (on at : ℕ) (l rest : List ℕ) → (on ≡ 1 → at < length l) → lessened on at (l ++ rest) ≡ lessened on at l ++ rest
unfolding lessened
lessened_append on at l rest h = append_case (eqb on 1) on at l rest refl h

-- another octet is not changed
other_case : (on at : ℕ) (l : List ℕ) (i : ℕ) → (on ≡ 0) ⊎ (on ≡ 1) → (on ≡ 1 → i ≡ at → ⊥) → octet (lessened on at l) i ≡ octet l i
unfolding lessened
other_case on at l i (inl none) other = rw none
other_case on at l i (inr one) other = rw one (get_or-set_other l at i (octet l at - 1) 0 (other one))

set_le : (l : List ℕ) (at v i : ℕ) → v ≤ octet l at → octet (set l at v) i ≤ octet l i
set_le [] at v i h = omega arith
set_le (x ∷ l) zero v zero h = h
set_le (x ∷ l) zero v (suc i) h = omega arith
set_le (x ∷ l) (suc at) v zero h = omega arith
set_le (x ∷ l) (suc at) v (suc i) h = set_le l at v i h

less_case : (t : Bool) (at : ℕ) (l : List ℕ) (i : ℕ) → octet (pick t (set l at (octet l at - 1)) l) i ≤ octet l i
less_case true at l i = set_le l at (octet l at - 1) i (omega arith)
less_case false at l i = omega arith

take_le : (n : ℕ) (l : List ℕ) (i : ℕ) → octet (take n l) i ≤ octet l i
take_le zero l i = omega arith
take_le (suc n) [] i = omega arith
take_le (suc n) (x ∷ l) zero = omega arith
take_le (suc n) (x ∷ l) (suc i) = take_le n l i

-- ---- the octets of the header sent on

module _ (s : List ℕ) where
  places : Placed s (control_of s)
  places = placed s (control_of s) (control_end s).1

  -- a hop count stands before the checksum
  pub hops_before : has_hops (control_of s) ≡ 1 → (places_of s).hops < (places_of s).checksum
  unfolding layout_of
  hops_before on = omega (arith, places)

  pub sent_body_length : (places_of s).checksum ≤ length s → length (sent_body s) ≡ (places_of s).checksum
  unfolding sent_body
  sent_body_length h =
      length_lessened (has_hops (control_of s)) (places_of s).hops (take (places_of s).checksum s) ∙ length-take-le (places_of s).checksum s h

  -- they are octets
  pub sent_small : Octets s → Octets (header_sent_on s)
  unfolding header_sent_on sent_body lessened checksum_octets
  sent_small small =
      let front = take (places_of s).checksum s in
      let body : Octets (sent_body s) =
      λ i. omega (arith, small i, take_le (places_of s).checksum s i, less_case (eqb (has_hops (control_of s)) 1) (places_of s).hops front i) in
      append_small (sent_body s) _ body (pick_small (eqb (has_checksum (control_of s)) 1) _)

module _ (s : List ℕ) (room : (places_of s).size ≤ length s) where
  inside : (places_of s).checksum ≤ length s
  inside = omega (arith, places s)

  pub sent_length : length (header_sent_on s) ≡ (places_of s).size
  unfolding header_sent_on
  sent_length =
      simp (length-append, sent_body_length s inside, checksum_length (has_checksum (control_of s)) (omega arith)) (sym (places s).size)

  body_front : (i : ℕ) → i < (places_of s).checksum → octet (header_sent_on s) i ≡ octet (sent_body s) i
  unfolding header_sent_on
  body_front i below = get_or-append (sent_body s) _ 0 i (omega (arith, sent_body_length s inside))

  -- same form, same addresses: only the octet of the hop count and the two of the checksum may differ
  pub sent_same : (i : ℕ) → i < (places_of s).checksum → (has_hops (control_of s) ≡ 1 → i ≡ (places_of s).hops → ⊥) → octet (header_sent_on s) i ≡ octet s i
  unfolding sent_body
  sent_same i below other =
      let front = take (places_of s).checksum s in
      let Body-same = other_case (has_hops (control_of s)) (places_of s).hops front i (zero_or_one _ (omega arith)) other in
      body_front i below ∙ (Body-same ∙ get_or-take (places_of s).checksum s i 0 below)

  -- the hop count is one less; 0 stays 0
  pub sent_hops : has_hops (control_of s) ≡ 1 → octet (header_sent_on s) (places_of s).hops ≡ octet s (places_of s).hops - 1
  unfolding sent_body lessened
  sent_hops on =
      let at = (places_of s).hops in
      let front = take (places_of s).checksum s in
      let below = hops_before s on in
      let there : at < length front = omega (arith, length-take-le (places_of s).checksum s inside) in
      body_front at below ∙ rw (on, get_or-set_same front at _ 0 there, get_or-take (places_of s).checksum s at 0 below)

-- ---- what is read where octets agree

-- t is as long as s and has its octets up to the checksum, but for the hop count
record Alike (s t : List ℕ) : Type 0 where
  long : length t ≡ length s
  same : (i : ℕ) → i < (places_of s).checksum → (has_hops (control_of s) ≡ 1 → i ≡ (places_of s).hops → ⊥) → octet t i ≡ octet s i

module _ (s t : List ℕ) (h : Header) (p : Passed s h) (alike : Alike s t) where
  abbrev k : Control
  k = control_of s

  abbrev l : Layout
  l = places_of s

  before_hops : Agree s t 0 l.hops
  unfolding layout_of
  before_hops i above below = alike.same i (omega (arith, places s)) (λ on e. omega arith)

  after_hops_lem : Agree s t l.stamp l.checksum
  unfolding layout_of
  after_hops_lem i above below = alike.same i below (λ on e. omega arith)

  -- t is read as s with t's own hop count, where its checksum is what it should be
  read_alike : (has_checksum k ≡ 1 → number t l.checksum 2 ≡ element_of t l.checksum) → read_of t ≡ Good (with_hops (octet_of t (has_hops k) l.hops) h)
  read_alike is_right =
      let r = header_alike s t p.allowed before_hops after_hops_lem in
      read_passed t _
      (record {
        long = omega (arith, alike.long, p.long);
        version = rw (before_hops 0 (omega arith) (omega (arith, places s))) p.version;
        whole = rw (r.control, alike.long) p.whole;
        allowed = rw r.control p.allowed;
        inside = rw (r.length_is, alike.long) p.inside;
        fits = rw (r.places, r.length_is) p.fits;
        right = λ on. rw r.places (is_right (rw r.control at on));
        is = rw (r.header, p.is);
      })

-- ---- the laws

-- an octet less one is read as one less
hops_case : (s t : List ℕ) (on at : ℕ) → (on ≡ 0) ⊎ (on ≡ 1) → (on ≡ 1 → octet t at ≡ octet s at - 1) → octet_of t on at ≡ one_less (octet_of s on at)
unfolding octet_of
hops_case s t on at (inl none) less = rw none
hops_case s t on at (inr one) less = rw (one, less one)

-- an octet that one less leaves as it was is not changed
kept_case : (s l : List ℕ) (on at : ℕ) → (on ≡ 0) ⊎ (on ≡ 1) → one_less (octet_of s on at) ≡ octet_of s on at → (on ≡ 1 → octet l at ≡ octet s at) → lessened on at l ≡ l
unfolding octet_of lessened
kept_case s l on at (inl none) e same = rw none
kept_case s l on at (inr one) e same =
    let read : Some (octet s at - 1) ≡ Some (octet s at) = rw one at e in
    let stays : octet s at - 1 ≡ octet s at = cc in
    rw (one, same one, stays, ← same one) (set-get_or l at 0)

module _ (s : List ℕ) (h : Header) (small : (i : ℕ) → get_or s i 0 < 256) (e : read_of s ≡ Good h) where
  was : Passed s h
  was = passed s h e

  enough : (places_of s).size ≤ length s
  enough = omega (arith, was)

  size_is : h.size ≡ (places_of s).size
  unfolding header_of
  size_is = rw was.is

  hops_are : h.fields.hops ≡ octet_of s (has_hops (control_of s)) (places_of s).hops
  unfolding header_of fields_of
  hops_are = rw was.is

  -- as many octets as came
  pub sent_size : length (header_sent_on s) ≡ h.size
  sent_size = sent_length s enough ∙ sym size_is

  -- with no hop count, or one of 0, every octet goes on as it came, those of the checksum too
  pub sent_as_it_came : one_less h.fields.hops ≡ h.fields.hops → header_sent_on s ≡ take h.size s
  unfolding header_sent_on sent_body
  sent_as_it_came none =
      let at = (places_of s).checksum in
      let body_is : sent_body s ≡ take at s =
      kept_case s (take at s) (has_hops (control_of s)) (places_of s).hops (zero_or_one _ (omega arith)) (rw hops_are at none)
      (λ on. get_or-take at s (places_of s).hops 0 (hops_before s on)) in
      rw (body_is, size_is, (places s).size)
      (checksum_again s small (has_checksum (control_of s)) at (omega arith) was.right (omega (arith, places s, enough)))

  -- the header sent on, and the datagram's data behind it
  abbrev sent : List ℕ
  sent = header_sent_on s ++ drop h.size s

  front : (i : ℕ) → i < (places_of s).size → octet sent i ≡ octet (header_sent_on s) i
  front i below = get_or-append (header_sent_on s) _ 0 i (omega (arith, sent_length s enough))

  sent_alike : Alike s sent
  sent_alike =
      record {
        long = simp (length-append, length-drop, sent_length s enough) (omega (arith, size_is, enough));
        same = λ i below other. front i (omega (arith, places s)) ∙ sent_same s enough i below other;
      }

  sent_less : octet_of sent (has_hops (control_of s)) (places_of s).hops ≡ one_less h.fields.hops
  sent_less =
      let less : has_hops (control_of s) ≡ 1 → octet sent (places_of s).hops ≡ octet s (places_of s).hops - 1 =
      λ on. front (places_of s).hops (omega (arith, places s, hops_before s on)) ∙ sent_hops s enough on in
      rw hops_are (hops_case s sent (has_hops (control_of s)) (places_of s).hops (zero_or_one _ (omega arith)) less)

  sent_right : has_checksum (control_of s) ≡ 1 → number sent (places_of s).checksum 2 ≡ element_of sent (places_of s).checksum
  unfolding header_sent_on
  sent_right on = rw (append_assoc, ← sent_body_length s (inside s enough)) (right (has_checksum (control_of s)) (sent_body s) _ on)

  -- it is read as the same fields with the hop count less one
  pub read_sent_on : read_of (header_sent_on s ++ drop h.size s) ≡ Good (with_hops (one_less h.fields.hops) h)
  read_sent_on = rw (← sent_less) (read_alike s sent h was sent_alike sent_right)
