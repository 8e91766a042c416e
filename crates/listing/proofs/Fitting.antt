-- Which records a scan takes for its mission's: those that stand, of that mission, and that the address matches. Among them as many ones are the same
-- entry, so that the scan's set of counts says what lower places hide. Assumes nothing.
use native.Mathlib.Omega.{arith}
use native.Mathlib.Nat.{lt_of_le_of_lt}
use Prim.Native.Nat.{ℕ, zero, suc, ◌^◌, ◌<◌}
use mathlib.Core.Path.{◌≡◌, refl, sym, ap, subst, ◌∙◌}
use mathlib.Core.Logic.{◌↔◌}
use mathlib.Core.Bool.{Bool, true, false, not, ◌&&◌}
use mathlib.Core.List.{List}
use lib.Dec.{eqb}
use lib.Bits.{bit_and, and_le_r}
use borrow.Author.Tests.{eq-eqb, eqb-true, not-true}
use Rattle.std.proofs.Common.{Option, Some, None}
use Rattle.checks.proofs.Bools.{true_false, and_true, or_false}
use Rattle.networks.proofs.Bits.{and_bit, same_bits}
use Rattle.address.specs.Mask.{mask_of, ones_of, mask_form}
use Rattle.address.proofs.Masks.{mask_fits, form_ones, form_count}
use Rattle.sets.specs.Sets.{any_below}
use Rattle.routes.specs.declared.Record.{Record}
use Rattle.routes.specs.Records.{record_at, is_record, same_key}
use Rattle.routes.specs.Refusals.{is_mixed, prefix_refused, codes_refused}
use Rattle.settings.specs.Sets.{is_ready}
use Rattle.state.specs.Seen.{Board}
use Rattle.listing.specs.declared.Query.{Query}
use Rattle.listing.specs.Listed.{stands, stands_as, counts}
use Rattle.listing.specs.Scan.{matches, unrefused}
use Rattle.listing.proofs.Standing.{own_of, stands_is}
use Rattle.listing.proofs.Counting.{same_key_is}

pub same_truth : (t u : Bool) → (t ≡ true → u ≡ true) → (u ≡ true → t ≡ true) → t ≡ u
same_truth true u f g = sym (f refl)
same_truth false true f g = g refl
same_truth false false f g = refl

pub any_same : (f g : ℕ → Bool) (i : ℕ) → ((j : ℕ) → f j ≡ g j) → any_below f i ≡ any_below g i
any_same f g zero e = refl
any_same f g (suc i) e = rw (any_same f g i e, e i)

-- what is under a mask stays under it
under_again : (a m : ℕ) → m < 2 ^ 32 → bit_and (bit_and a m) m ≡ bit_and a m
under_again a m h =
    same_bits 32 _ _ (lt_of_le_of_lt (and_le_r (bit_and a m) m) h) (lt_of_le_of_lt (and_le_r a m) h) λ p l.
    omega (arith, and_bit p (bit_and a m) m, and_bit p a m)

-- it matches, and nothing refuses it
abbrev pub fits : Query → Record → Bool
fits q r = matches q r && unrefused q r

-- and no lower place that fits has as many ones
abbrev pub hidden_by : Query → List Record → ℕ → ℕ → Bool
hidden_by q rs n j = fits q (record_at rs j) && eqb (ones_of (record_at rs j).mask) n

abbrev pub shown : Query → List Record → ℕ → Bool
shown q rs i = fits q (record_at rs i) && not (any_below (hidden_by q rs (ones_of (record_at rs i).mask)) i)

told_ones : (f : Option ℕ) → is_mixed f ≡ false → (n : ℕ) × (f ≡ Some n)
told_ones (Some n) e = (n, refl)
told_ones None e = true_false e

-- a mask that is not mixed is the mask of its number of ones
mask_is : (m : ℕ) → is_mixed (mask_form m) ≡ false → m ≡ mask_of (ones_of m)
mask_is m e =
    let f = told_ones (mask_form m) e in
    ((form_ones m f.0).0 f.1).1 ∙ ap mask_of (sym (form_count m f.0 f.1))

-- what a record that fits has
abbrev Fitting : Query → Record → Type 0
Fitting q r =
    (bit_and q.address r.mask ≡ r.prefix)
    × (is_record r ≡ true)
    × (r.mission ≡ q.mission)
    × (is_ready r.port q.own ≡ true)
    × (codes_refused r.availability r.capabilities ≡ false)
    × (is_mixed (mask_form r.mask) ≡ false)

fitting : (q : Query) (r : Record) → (fits q r ≡ true) ↔ Fitting q r
unfolding matches unrefused
fitting q r = (there, λ h. rw (eq-eqb _ _ h.0, h.1, eq-eqb _ _ h.2, h.3, h.4) (ap not h.5))
  where
    there : fits q r ≡ true → Fitting q r
    there h =
        let both = and_true (matches q r) (unrefused q r) h in
        let one = and_true (eqb (bit_and q.address r.mask) r.prefix) _ both.0 in
        let two = and_true (is_record r) _ one.1 in
        let three = and_true (is_ready r.port q.own) _ both.1 in
        let four = and_true (not (codes_refused r.availability r.capabilities)) _ three.1 in
        (eqb-true _ _ one.0, two.0, eqb-true _ _ two.1, three.0, not-true _ four.0, not-true _ four.1)

module _ (b : Board) (q : Query) (own : q.own ≡ own_of b q.mission) where
  -- A record fits exactly where it stands, the address matches it, and it is of the query's mission.
  pub fits_is : (r : Record) → (fits q r ≡ true) ↔ ((stands b r ≡ true) × (bit_and q.address r.mask ≡ r.prefix) × (r.mission ≡ q.mission))
  unfolding prefix_refused
  fits_is r = (there, back)
    where
      there : fits q r ≡ true → (stands b r ≡ true) × (bit_and q.address r.mask ≡ r.prefix) × (r.mission ≡ q.mission)
      there h =
          let f = (fitting q r).0 h in
          let ready : is_ready r.port (own_of b r.mission) ≡ true =
          ap (is_ready r.port) (ap (own_of b) f.2 ∙ sym own) ∙ f.3 in
          let small : r.mask < 2 ^ 32 = subst (λ (m : ℕ). m < 2 ^ 32) (sym (mask_is r.mask f.5)) (mask_fits (ones_of r.mask)) in
          let under : bit_and r.prefix r.mask ≡ r.prefix =
          ap (λ (p : ℕ). bit_and p r.mask) (sym f.0) ∙ under_again q.address r.mask small ∙ f.0 in
          let taken : prefix_refused (record { 0 = r.prefix }) (record { 0 = r.mask }) ≡ false = rw f.5 (ap not (eq-eqb _ _ under)) in
          ((stands_is b r).1 (f.1, ready, taken, f.4), f.0, f.2)

      back : (stands b r ≡ true) × (bit_and q.address r.mask ≡ r.prefix) × (r.mission ≡ q.mission) → fits q r ≡ true
      back h =
          let s = (stands_is b r).0 h.0 in
          let ready : is_ready r.port q.own ≡ true = ap (is_ready r.port) (own ∙ ap (own_of b) (sym h.2)) ∙ s.1 in
          (fitting q r).1 (h.1, s.0, h.2, ready, s.3, (or_false (is_mixed (mask_form r.mask)) _ s.2).0)

  -- beside a record that fits, as many ones are the same entry
  pub ones_key : (x y : Record) → fits q x ≡ true → (fits q y && eqb (ones_of y.mask) (ones_of x.mask)) ≡ (stands b y && same_key y x)
  ones_key x y fx = same_truth _ _ there back
    where
      there : (fits q y && eqb (ones_of y.mask) (ones_of x.mask)) ≡ true → (stands b y && same_key y x) ≡ true
      there h =
          let both = and_true (fits q y) _ h in
          let one = (fitting q x).0 fx in
          let two = (fitting q y).0 both.0 in
          let mask : y.mask ≡ x.mask = mask_is y.mask two.5 ∙ ap mask_of (eqb-true _ _ both.1) ∙ sym (mask_is x.mask one.5) in
          let prefix : y.prefix ≡ x.prefix = sym two.0 ∙ ap (bit_and q.address) mask ∙ one.0 in
          rw ((fits_is y).0 both.0).0 ((same_key_is y x).1 (prefix, mask, two.2 ∙ sym one.2))

      back : (stands b y && same_key y x) ≡ true → (fits q y && eqb (ones_of y.mask) (ones_of x.mask)) ≡ true
      back h =
          let both = and_true (stands b y) _ h in
          let key = (same_key_is y x).0 both.1 in
          let one = (fitting q x).0 fx in
          let match : bit_and q.address y.mask ≡ y.prefix = ap (bit_and q.address) key.1 ∙ one.0 ∙ sym key.0 in
          let fy : fits q y ≡ true = (fits_is y).1 (both.0, match, key.2 ∙ one.2) in
          rw fy (eq-eqb _ _ (ap ones_of key.1))

  -- place i counts, the address matches it, and it is of the query's mission
  abbrev pub CountsFor : List Record → ℕ → Type 0
  CountsFor rs i =
      (counts b rs i ≡ true)
      × (bit_and q.address (record_at rs i).mask ≡ (record_at rs i).prefix)
      × ((record_at rs i).mission ≡ q.mission)

  -- So what a scan shows of a list are the places that count, of its mission, that the address matches.
  pub shown_is : (rs : List Record) (i : ℕ) → (shown q rs i ≡ true) ↔ CountsFor rs i
  unfolding counts
  shown_is rs i = (there, back)
    where
      hidden : fits q (record_at rs i) ≡ true
          → any_below (hidden_by q rs (ones_of (record_at rs i).mask)) i ≡ any_below (stands_as b rs (record_at rs i)) i
      hidden f = any_same _ _ i (λ j. ones_key (record_at rs i) (record_at rs j) f)

      there : shown q rs i ≡ true → CountsFor rs i
      there h =
          let both = and_true (fits q (record_at rs i)) _ h in
          let f = (fits_is (record_at rs i)).0 both.0 in
          let none : any_below (stands_as b rs (record_at rs i)) i ≡ false = sym (hidden both.0) ∙ not-true _ both.1 in
          (rw f.0 (ap not none), f.1, f.2)

      back : CountsFor rs i → shown q rs i ≡ true
      back h =
          let both = and_true (stands b (record_at rs i)) _ h.0 in
          let f : fits q (record_at rs i) ≡ true = (fits_is (record_at rs i)).1 (both.0, h.1, h.2) in
          rw f (ap not (hidden f) ∙ both.1)
