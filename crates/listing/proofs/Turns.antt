-- What a scan's step gives, by the tests that the code asks. Assumes nothing.
use Rattle.std.specs.Prelude.{Some, None}
use Prim.Native.Nat.{ℕ, ◌*◌, ◌/◌, ◌%◌, ◌^◌, ◌≤◌, ◌<◌}
use native.Mathlib.Omega.{arith}
use native.Mathlib.Nat.{mod-eq_of_lt}
use mathlib.Core.Path.{◌≡◌, refl, sym, ◌∙◌}
use mathlib.Core.Logic.{◌≢◌}
use mathlib.Core.Bool.{Bool, true, false, not}
use lib.Pow.{pow_mono}
use borrow.Author.Tests.{eq-eqb, ne_eqb, lt-ltb, le-ltb}
use Rattle.std.proofs.Common.{Some, None}
use Rattle.checks.specs.Order.{check_of}
use Rattle.checks.specs.declared.Check.{Check}
use Rattle.checks.specs.declared.Check.TheVariants.{Passed, Failed}
use Rattle.checks.proofs.Laws.{passed_false, failed_true}
use Rattle.checks.proofs.Bools.{not-false}
use Rattle.address.specs.Mask.{mask_form}
use Rattle.address.proofs.Masks.{form_ones, form_count}
use Rattle.routes.specs.declared.Record.{Record}
use Rattle.routes.specs.Refusals.{codes_refused}
use Rattle.settings.specs.Sets.{is_ready}
use Rattle.listing.specs.declared.Query.{Query}
use Rattle.listing.specs.declared.Match.{Match}
use Rattle.listing.specs.declared.Scan.{Scan}
use Rattle.listing.specs.Scan.{unrefused, is_wanted, is_longer, noted, found_at, taken_of, judged_of}

not_true_false : (t : Bool) → not t ≡ true → t ≡ false
not_true_false true h = sym h
not_true_false false h = refl

-- one count of ones as a set, as a shift makes it
one_bit : (n : ℕ) → n ≤ 32 → 1 * 2 ^ n % 2 ^ 64 ≡ 2 ^ n
one_bit n h = mod-eq_of_lt (omega (arith, pow_mono h)) ∙ omega arith

module _ (q : Query) (s : Scan) (place : ℕ) (r : Record) where
  -- ---- a record that counts
  pub unwanted : is_wanted q r ≡ false → s ≡ taken_of q s place r
  unfolding taken_of
  unwanted e = rw e

  pub not_longer : is_wanted q r ≡ true → (found : Match) → s.found ≡ Some found → r.mask ≤ found.mask → s ≡ taken_of q s place r
  unfolding taken_of is_longer
  not_longer e found is l = simp (e, is, le-ltb found.mask r.mask l)

  pub longer : is_wanted q r ≡ true → (found : Match) → s.found ≡ Some found → found.mask < r.mask → found_at s place r ≡ taken_of q s place r
  unfolding taken_of is_longer
  longer e found is l = simp (e, is, lt-ltb found.mask r.mask l)

  pub first : is_wanted q r ≡ true → s.found ≡ None → found_at s place r ≡ taken_of q s place r
  unfolding taken_of is_longer
  first e is = simp (e, is)

  -- ---- a record that matches
  module _ {c : Check} (told : c ≡ check_of (not (is_ready r.port q.own))) where
    pub unready : c ≡ Failed → s ≡ judged_of q s place r
    unfolding judged_of unrefused
    unready e = let no : is_ready r.port q.own ≡ false = not_true_false _ (failed_true _ (sym told ∙ e)) in rw no

    module _ {d : Check} (codes : d ≡ check_of (codes_refused r.availability r.capabilities)) (is-ready : c ≡ Passed) where
      ready : is_ready r.port q.own ≡ true
      ready = not-false _ (passed_false _ (sym told ∙ is-ready))

      pub uncoded : d ≡ Failed → s ≡ judged_of q s place r
      unfolding judged_of unrefused
      uncoded e =
          let no : codes_refused r.availability r.capabilities ≡ true = failed_true _ (sym codes ∙ e) in rw (ready, no)

      module _ (is-coded : d ≡ Passed) where
        coded : codes_refused r.availability r.capabilities ≡ false
        coded = passed_false _ (sym codes ∙ is-coded)

        pub mixed : mask_form r.mask ≡ None → s ≡ judged_of q s place r
        unfolding judged_of unrefused
        mixed e = rw (ready, coded, e)

        module _ (n : ℕ) (form : mask_form r.mask ≡ Some n) where
          pub hidden : s.seen / 2 ^ n % 2 ≡ 1 → s ≡ judged_of q s place r
          unfolding judged_of unrefused
          hidden e = rw (ready, coded, form, form_count _ _ form, eq-eqb _ _ e)

          pub shown : s.seen / 2 ^ n % 2 ≢ 1 → taken_of q (noted s (1 * 2 ^ n % 2 ^ 64)) place r ≡ judged_of q s place r
          unfolding judged_of unrefused
          shown e = rw (ready, coded, form, form_count _ _ form, ne_eqb _ _ e, one_bit n ((form_ones _ _).0 form).0)
