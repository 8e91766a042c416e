-- What a scan for an entry finds is the place that counts with that entry, so that it tells whether the entry stands elsewhere: page 01, "Settings", 23;
-- page 02, W-208 ("'same entry' (23) now means same prefix, mask and mission"). Assumes nothing.
use Rattle.std.specs.Prelude.{Some, None}
use native.Mathlib.Omega.{arith}
use native.Mathlib.Decide.{dec_le}
use native.Mathlib.Nat.{lt_of_not-le}
use Prim.Native.Nat.{ℕ, zero, suc, ◌<◌}
use mathlib.Core.Path.{◌≡◌, refl, sym, ap, subst, ◌∙◌}
use mathlib.Core.Logic.{◌≢◌, ◌⊎◌, inl, inr, ⊎_elim, by_cases}
use mathlib.Core.Bool.{Bool, true, false, not, ◌&&◌}
use mathlib.Core.List.{List}
use lib.Dec.{eqb}
use lib.Bits.{bit_and}
use lib.ListN.{length}
use borrow.Author.Tests.{eq-eqb, eqb-true}
use Rattle.checks.specs.Order.{pick}
use Rattle.checks.proofs.Bools.{true_false, refuted, and_true}
use Rattle.sets.specs.Sets.{any_below}
use Rattle.sets.proofs.Anywhere.{any_is, any_found}
use Rattle.routes.specs.declared.Record.{Record}
use Rattle.routes.specs.Records.{record_at, same_key}
use Rattle.routes.specs.Refusals.{prefix_refused}
use Rattle.routes.proofs.Prefixes.{prefix_form}
use Rattle.state.specs.Seen.{Board}
use Rattle.listing.specs.declared.Sought.TheVariants as sought
use Rattle.listing.specs.declared.Query.{Query}
use Rattle.listing.specs.declared.Match.{Match}
use Rattle.listing.specs.declared.Scan.{Scan}
use Rattle.listing.specs.Listed.{counts, elsewhere}
use Rattle.listing.specs.Scan.{is_wanted, is_longer, match_of, taken_of, scan_of, found_elsewhere}
use Rattle.listing.proofs.Standing.{own_of}
use Rattle.listing.proofs.Counting.{same_key_is, counts_once, beyond_counts_not}
use Rattle.listing.proofs.Fitting.{same_truth, shown, shown_is}
use Rattle.listing.proofs.Loop.{scan_to, scan_to_lem}
use Rattle.listing.proofs.Seeing.{entered, turn_is}

-- the query for the entry of x, at a board
pub record Seeks (b : Board) (x : Record) (q : Query) : Type 0 where
  pub same : q.sought ≡ sought.Same
  pub address : q.address ≡ x.prefix
  pub mask : q.mask ≡ x.mask
  pub mission : q.mission ≡ x.mission
  pub own : q.own ≡ own_of b x.mission

module _ (b : Board) (rs : List Record) (x : Record) where
  -- place j counts with the entry of x
  abbrev pub holds : ℕ → Bool
  holds j = counts b rs j && same_key (record_at rs j) x

  -- One place at most does.
  pub holds_once : (i j : ℕ) → holds i ≡ true → holds j ≡ true → i ≡ j
  holds_once i j hi hj =
      let one = and_true (counts b rs i) _ hi in
      let two = and_true (counts b rs j) _ hj in
      let ki = (same_key_is (record_at rs i) x).0 one.1 in
      let kj = (same_key_is (record_at rs j) x).0 two.1 in
      counts_once b rs i j one.0 two.0
      ((same_key_is (record_at rs i) (record_at rs j)).1 (ki.0 ∙ sym kj.0, ki.1 ∙ sym kj.1, ki.2 ∙ sym kj.2))

  holds_within : (j : ℕ) → holds j ≡ true → j < length rs
  holds_within j h =
      by_cases (dec_le (length rs) j)
      (λ l. true_false (sym (and_true (counts b rs j) _ h).0 ∙ beyond_counts_not b rs j l))
      lt_of_not-le

  module _ (q : Query) (seeks : Seeks b x q) (taken : prefix_refused (record { 0 = x.prefix }) (record { 0 = x.mask }) ≡ false) where
    own_is : q.own ≡ own_of b q.mission
    own_is = seeks.own ∙ ap (own_of b) (sym seeks.mission)

    wanted_is : (r : Record) → is_wanted q r ≡ eqb r.mask x.mask
    unfolding is_wanted
    wanted_is r = rw (seeks.same, seeks.mask)

    -- the prefix of x under its mask is itself
    under : bit_and x.prefix x.mask ≡ x.prefix
    under = ((prefix_form (record { 0 = x.prefix }) (record { 0 = x.mask })).0 taken).2

    -- what is shown and wanted is what holds the entry
    hit_is : (i : ℕ) → (shown q rs i && is_wanted q (record_at rs i)) ≡ holds i
    hit_is i = ap (λ (t : Bool). shown q rs i && t) (wanted_is (record_at rs i)) ∙ same_truth _ _ there back
      where
        there : (shown q rs i && eqb (record_at rs i).mask x.mask) ≡ true → holds i ≡ true
        there h =
            let both = and_true (shown q rs i) _ h in
            let at = (shown_is b q own_is rs i).0 both.0 in
            let mask : (record_at rs i).mask ≡ x.mask = eqb-true _ _ both.1 in
            let prefix : (record_at rs i).prefix ≡ x.prefix =
            sym at.1 ∙ ap (λ (a : ℕ). bit_and a (record_at rs i).mask) seeks.address ∙ ap (bit_and x.prefix) mask ∙ under in
            rw at.0 ((same_key_is (record_at rs i) x).1 (prefix, mask, at.2 ∙ seeks.mission))

        back : holds i ≡ true → (shown q rs i && eqb (record_at rs i).mask x.mask) ≡ true
        back h =
            let both = and_true (counts b rs i) _ h in
            let key = (same_key_is (record_at rs i) x).0 both.1 in
            let match : bit_and q.address (record_at rs i).mask ≡ (record_at rs i).prefix =
            ap (λ (a : ℕ). bit_and a (record_at rs i).mask) seeks.address ∙ ap (bit_and x.prefix) key.1 ∙ under ∙ sym key.0 in
            let is : shown q rs i ≡ true = (shown_is b q own_is rs i).1 (both.0, match, key.2 ∙ sym seeks.mission) in
            rw is (eq-eqb _ _ key.1)

    -- ---- one turn
    -- a place that does not hold the entry changes nothing that is found
    passed : (t : Bool) (s : Scan) (i : ℕ) (r : Record) → (t && is_wanted q r) ≡ false
        → (pick t (entered q s i r) s).found ≡ s.found
    unfolding taken_of
    passed true s i r h = rw h
    passed false s i r h = refl

    -- the one that does is found, where nothing was
    hit : (t : Bool) (s : Scan) (i : ℕ) (r : Record) → (t && is_wanted q r) ≡ true → s.found ≡ None
        → (pick t (entered q s i r) s).found ≡ Some (match_of i r)
    unfolding taken_of is_longer
    hit true s i r h e = rw (h, e)
    hit false s i r h e = true_false (sym h)

    -- what is found of the first i places
    abbrev Held : ℕ → Scan → Type 0
    Held i s =
        ((s.found ≡ None) × (any_below holds i ≡ false)) ⊎ ((found : Match) × ((s.found ≡ Some found) × (holds found.place ≡ true) × (found.place < i)))

    held_turn : (t : Bool) (i : ℕ) (s : Scan) → holds i ≡ t → Held i s → Held (suc i) (pick (shown q rs i) (entered q s i (record_at rs i)) s)
    held_turn true i s h (inl e) =
        inr (match_of i (record_at rs i), (hit (shown q rs i) s i (record_at rs i) (hit_is i ∙ h) e.0, h, omega arith))
    held_turn true i s h (inr e) = absurd (omega (arith, holds_once e.0.place i e.1.1 h, e.1.2))
    held_turn false i s h (inl e) = inl (passed (shown q rs i) s i (record_at rs i) (hit_is i ∙ h) ∙ e.0, rw e.1 h)
    held_turn false i s h (inr e) =
        inr (e.0, (passed (shown q rs i) s i (record_at rs i) (hit_is i ∙ h) ∙ e.1.0, e.1.1, omega (arith, e.1.2)))

    held_to : (i : ℕ) → Held i (scan_to rs q i)
    held_to zero = inl (refl, refl)
    held_to (suc i) = subst (Held (suc i)) (sym (turn_is q rs i)) (held_turn (holds i) i (scan_to rs q i) refl (held_to i))

    -- ---- the whole list
    something : q.sought ≢ sought.Nothing
    something e = true_false (let f : sought.Same ≡ sought.Nothing = sym seeks.same ∙ e in cc)

    abbrev scanned : Scan
    scanned = scan_of q rs

    held : Held (length rs) scanned
    held = subst (Held (length rs)) (sym (scan_to_lem rs q something)) (held_to (length rs))

    abbrev Nowhere : Type 0
    Nowhere = (scanned.found ≡ None) × ((j : ℕ) → holds j ≡ false)

    abbrev Somewhere : Type 0
    Somewhere = (found : Match) × ((scanned.found ≡ Some found) × (holds found.place ≡ true) × ((j : ℕ) → holds j ≡ true → j ≡ found.place))

    -- Nothing is found, and no place counts with the entry; or the place that is found is the one that does.
    pub scan_same : ((scanned.found ≡ None) × ((j : ℕ) → holds j ≡ false))
        ⊎ ((found : Match) × ((scanned.found ≡ Some found) × (holds found.place ≡ true) × ((j : ℕ) → holds j ≡ true → j ≡ found.place)))
    scan_same =
        ⊎_elim
        (λ e. inl (e.0, λ j. refuted _ (λ h. true_false (sym (any_found holds j (length rs) (holds_within j h) h) ∙ e.1))))
        (λ e. inr (e.0, (e.1.0, e.1.1, λ j h. holds_once j e.0.place h e.1.1)))
        held

    -- So the scan tells whether another place holds the entry.
    pub elsewhere_is : (i : ℕ) → elsewhere b rs i x ≡ found_elsewhere scanned i
    unfolding elsewhere
    elsewhere_is i = ⊎_elim none one scan_same
      where
        none : Nowhere → any_below (λ (j : ℕ). not (eqb j i) && holds j) (length rs) ≡ found_elsewhere scanned i
        none e =
            refuted _
            (λ h.
            let at = (any_is (λ (j : ℕ). not (eqb j i) && holds j) (length rs)).0 h in
            true_false (sym (and_true (not (eqb at.0 i)) _ at.2).1 ∙ e.1 at.0))
            ∙ rw e.0

        one : Somewhere → any_below (λ (j : ℕ). not (eqb j i) && holds j) (length rs) ≡ found_elsewhere scanned i
        one e =
            same_truth _ _
            (λ h.
            let at = (any_is (λ (j : ℕ). not (eqb j i) && holds j) (length rs)).0 h in
            let both = and_true (not (eqb at.0 i)) _ at.2 in
            let here = e.1.2 at.0 both.1 in
            rw (e.1.0, ← here) both.0)
            (λ h.
            let other : not (eqb e.0.place i) ≡ true = rw e.1.0 at h in
            any_found (λ (j : ℕ). not (eqb j i) && holds j) e.0.place (length rs) (holds_within e.0.place e.1.1) (rw other e.1.1))
