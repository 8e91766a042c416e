-- Which records count, and the routes that a mission sees: page 02, W-208. Whatever the list holds, what counts is a setting that the rules take, and
-- no two places that count hold the same entry. Assumes nothing.
use native.Mathlib.Omega.{arith}
use native.Mathlib.Decide.{dec_le, ℕ_discrete}
use native.Mathlib.Nat.{lt_of_not-le}
use native.Mathlib.Numerals.{add-one}
use Prim.Native.Nat.{ℕ, zero, suc, ◌+◌, ◌≤◌, ◌<◌}
use mathlib.Core.Path.{◌≡◌, refl, sym, ap, subst, ◌∙◌}
use mathlib.Core.Logic.{◌↔◌, by_cases}
use mathlib.Core.Bool.{Bool, true, false, ◌&&◌}
use mathlib.Core.List.{List, [], ◌∷◌}
use lib.Dec.{eqb}
use lib.ListN.{length, get_or, length-append, get_or-append, get_or-eq_default}
use lib.Seq.{get_or_at}
use borrow.Author.Tests.{eq-eqb, eqb-true, not-true}
use Rattle.checks.specs.Order.{pick}
use Rattle.checks.proofs.Bools.{true_false, refuted, and_true}
use Rattle.sets.proofs.Anywhere.{any_found}
use Rattle.routes.specs.declared.Record.{Record}
use Rattle.routes.specs.declared.Route.{Route}
use Rattle.routes.specs.Records.{empty_record, record_at, route_of, same_key}
use Rattle.routes.specs.Routes.{empty_route, route_at, is_filled}
use Rattle.routes.specs.Refusals.{prefix_refused, codes_refused}
use Rattle.routes.proofs.Candidates.{same_entry_is}
use Rattle.routes.proofs.Longest.{Contiguous, Distinct, taken_contiguous}
use Rattle.settings.specs.Sets.{is_ready}
use Rattle.state.specs.Seen.{Board}
use Rattle.listing.specs.Listed.{stands, stands_as, counts, seen_route, tabulated, routes_seen}
use Rattle.listing.proofs.Standing.{own_of, stands_is, empty_stands_not}

-- ---- the values of a function in a list
pub length_tabulated : {A : Type 0} (f : ℕ → A) (n : ℕ) → length (tabulated f n) ≡ n
length_tabulated f zero = refl
length_tabulated f (suc n) = length-append (tabulated f n) (f n ∷ []) ∙ ap (λ (k : ℕ). k + 1) (length_tabulated f n) ∙ add-one n

pub at_tabulated : {A : Type 0} (f : ℕ → A) (n i : ℕ) (d : A) → i < n → get_or (tabulated f n) i d ≡ f i
at_tabulated f zero i d l = absurd (omega arith)
at_tabulated f (suc n) i d l =
    by_cases (ℕ_discrete i n)
    (λ e. get_or_at (tabulated f n) (f n) [] d i (length_tabulated f n ∙ sym e) ∙ ap f (sym e))
    (λ no.
    let under : i < n = omega arith in
    get_or-append (tabulated f n) (f n ∷ []) d i (subst (λ (k : ℕ). i < k) (sym (length_tabulated f n)) under) ∙ at_tabulated f n i d under)

-- ---- same entries
pub same_key_is : (x y : Record) → (same_key x y ≡ true) ↔ ((x.prefix ≡ y.prefix) × (x.mask ≡ y.mask) × (x.mission ≡ y.mission))
same_key_is x y = (
  λ h.
      let one = and_true _ _ h in
      let two = and_true _ _ one.1 in
      (eqb-true _ _ one.0, eqb-true _ _ two.0, eqb-true _ _ two.1),
  λ h. rw (eq-eqb _ _ h.0, eq-eqb _ _ h.1) (eq-eqb _ _ h.2),
)

pub same_key_sym : (x y : Record) → same_key x y ≡ true → same_key y x ≡ true
same_key_sym x y h = let e = (same_key_is x y).0 h in (same_key_is y x).1 (sym e.0, sym e.1, sym e.2)

-- a route that the rules take for mission n: its port is one of the mission's, and neither 22 nor 24 refuses it
abbrev pub Taken : Board → ℕ → Route → Type 0
Taken b n r =
    (is_ready r.port (own_of b n) ≡ true)
    × (prefix_refused r.prefix r.mask ≡ false)
    × (codes_refused r.availability r.capabilities ≡ false)

module _ (b : Board) (rs : List Record) where
  -- ---- what counts
  pub counts_stands : (i : ℕ) → counts b rs i ≡ true → stands b (record_at rs i) ≡ true
  unfolding counts
  counts_stands i h = (and_true _ _ h).0

  -- no place before one that counts holds its entry and stands
  pub none_before : (i j : ℕ) → counts b rs j ≡ true → i < j → stands b (record_at rs i) ≡ true → same_key (record_at rs i) (record_at rs j) ≡ true → ⊥
  unfolding counts
  none_before i j h l s k =
      let here : stands_as b rs (record_at rs j) i ≡ true = rw s k in
      true_false (sym (any_found (stands_as b rs (record_at rs j)) i j l here) ∙ not-true _ (and_true (stands b (record_at rs j)) _ h).1)

  -- Of all places one at most counts with an entry.
  pub counts_once : (i j : ℕ) → counts b rs i ≡ true → counts b rs j ≡ true → same_key (record_at rs i) (record_at rs j) ≡ true → i ≡ j
  counts_once i j hi hj k =
      by_cases (dec_le i j)
      (λ l.
      by_cases (ℕ_discrete i j) (λ e. e) (λ no. absurd (none_before i j hj (omega arith) (counts_stands i hi) k)))
      (λ no. absurd (none_before j i hi (lt_of_not-le no) (counts_stands j hj) (same_key_sym (record_at rs i) (record_at rs j) k)))

  -- A place beyond the list does not count.
  pub beyond_counts_not : (i : ℕ) → length rs ≤ i → counts b rs i ≡ false
  beyond_counts_not i l =
      refuted _ λ h.
      true_false
      (sym (counts_stands i h) ∙ ap (stands b) (get_or-eq_default rs empty_record l) ∙ empty_stands_not b)

  module _ (n : ℕ) where
    -- ---- the routes that mission n sees
    pub length_seen : length (routes_seen b n rs) ≡ length rs
    unfolding routes_seen
    length_seen = length_tabulated (seen_route b n rs) (length rs)

    unseen : (i : ℕ) → counts b rs i ≡ false → seen_route b n rs i ≡ empty_route
    unfolding seen_route
    unseen i e = rw e

    -- Each place, those beyond the list included, holds what the mission sees there.
    pub route_seen : (i : ℕ) → route_at (routes_seen b n rs) i ≡ seen_route b n rs i
    unfolding routes_seen
    route_seen i = by_cases (dec_le (length rs) i) beyond (λ no. within (lt_of_not-le no))
      where
        beyond : length rs ≤ i → route_at (routes_seen b n rs) i ≡ seen_route b n rs i
        beyond l =
            get_or-eq_default (routes_seen b n rs) empty_route (subst (λ (k : ℕ). k ≤ i) (sym length_seen) l)
            ∙ sym (unseen i (beyond_counts_not i l))

        within : i < length rs → route_at (routes_seen b n rs) i ≡ seen_route b n rs i
        within l = at_tabulated (seen_route b n rs) (length rs) i empty_route l

    picked : (t : Bool) (r : Route) → is_filled (pick t r empty_route) ≡ true → (t ≡ true) × (pick t r empty_route ≡ r)
    picked true r h = (refl, refl)
    picked false r h = true_false (sym h)

    -- a filled one is the record that counts there, of this mission
    pub seen_filled : (i : ℕ) → is_filled (route_at (routes_seen b n rs) i) ≡ true
        → (counts b rs i ≡ true) × ((record_at rs i).mission ≡ n) × (route_at (routes_seen b n rs) i ≡ route_of (record_at rs i))
    unfolding seen_route
    seen_filled i h =
        let at = picked (counts b rs i && eqb (record_at rs i).mission n) (route_of (record_at rs i)) (ap is_filled (sym (route_seen i)) ∙ h) in
        let both = and_true _ _ at.0 in
        (both.0, eqb-true _ _ both.1, route_seen i ∙ at.1)

    -- and that record is seen
    pub counted_seen : (i : ℕ) → counts b rs i ≡ true → (record_at rs i).mission ≡ n → route_at (routes_seen b n rs) i ≡ route_of (record_at rs i)
    unfolding seen_route
    counted_seen i h e = route_seen i ∙ rw (h, eq-eqb _ _ e)

    -- What is seen is a setting that the rules take.
    pub seen_taken : (i : ℕ) → is_filled (route_at (routes_seen b n rs) i) ≡ true → Taken b n (route_at (routes_seen b n rs) i)
    seen_taken i h =
        let at = seen_filled i h in
        let ok = (stands_is b (record_at rs i)).0 (counts_stands i at.0) in
        let own : is_ready (record_at rs i).port (own_of b n) ≡ true =
        subst (λ (k : ℕ). is_ready (record_at rs i).port (own_of b k) ≡ true) at.1 ok.1 in
        subst (Taken b n) (sym at.2) (own, ok.2, ok.3)

    -- Every mask is ones and then zeros.
    pub seen_contiguous : Contiguous (routes_seen b n rs)
    seen_contiguous = taken_contiguous (routes_seen b n rs) (λ i h. (seen_taken i h).1)

    -- No two places hold the same entry.
    pub seen_distinct : Distinct (routes_seen b n rs)
    seen_distinct i j h =
        let same = (same_entry_is (route_at (routes_seen b n rs) i) (route_at (routes_seen b n rs) j)).0 h in
        let one = seen_filled i same.0 in
        let two = seen_filled j same.1 in
        let prefix : (record_at rs i).prefix ≡ (record_at rs j).prefix =
        ap (λ (r : Route). r.prefix.0) (sym one.2) ∙ same.2 ∙ ap (λ (r : Route). r.prefix.0) two.2 in
        let mask : (record_at rs i).mask ≡ (record_at rs j).mask =
        ap (λ (r : Route). r.mask.0) (sym one.2) ∙ same.3 ∙ ap (λ (r : Route). r.mask.0) two.2 in
        counts_once i j one.0 two.0 ((same_key_is (record_at rs i) (record_at rs j)).1 (prefix, mask, one.1 ∙ sym two.1))
