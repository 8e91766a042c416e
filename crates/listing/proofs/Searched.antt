-- What a scan for the best route finds is what page 01's search finds among the routes that the mission sees: page 01, "Onward half"; page 02, W-204 and
-- W-208. Assumes nothing.
use Rattle.std.specs.Prelude.{Option, Some, None}
use Rattle.std.specs.Option.{option_map, option_map_or}
use native.Mathlib.Omega.{arith}
use native.Mathlib.Numerals.{add-one}
use Prim.Native.Nat.{ℕ, zero, suc, ◌^◌, ◌≤◌}
use mathlib.Core.Path.{◌≡◌, refl, sym, ap, ap₂, subst, ◌∙◌}
use mathlib.Core.Logic.{◌↔◌, ◌≢◌}
use mathlib.Core.Bool.{Bool, true, false, ◌&&◌}
use mathlib.Core.List.{List}
use lib.ListN.{length, drop}
use borrow.Author.Tests.{eq-eqb, eqb-true}
use Rattle.std.proofs.Common.{Option, Some, None}
use Rattle.checks.specs.Order.{pick}
use Rattle.checks.proofs.Bools.{true_false, refuted}
use Rattle.address.specs.Mask.{ones_of}
use Rattle.address.specs.declared.Address.{Address}
use Rattle.routes.specs.declared.Record.{Record}
use Rattle.routes.specs.declared.Route.{Route}
use Rattle.routes.specs.Records.{record_at, route_of}
use Rattle.routes.specs.Routes.{empty_route, route_at, is_filled, candidate}
use Rattle.routes.specs.Search.{Found, found_route, beaten, better_of, search_from, search_of}
use Rattle.routes.proofs.Candidates.{candidate_is}
use Rattle.routes.proofs.Step.{no_candidate}
use Rattle.routes.proofs.Turns.{search_start, search_turn, search_end}
use Rattle.state.specs.Seen.{Board}
use Rattle.listing.specs.declared.Sought.TheVariants as sought
use Rattle.listing.specs.declared.Query.{Query}
use Rattle.listing.specs.declared.Match.{Match}
use Rattle.listing.specs.declared.Scan.{Scan}
use Rattle.listing.specs.Listed.{routes_seen}
use Rattle.listing.specs.Scan.{is_wanted, is_longer, noted, match_of, found_at, taken_of, scan_of}
use Rattle.listing.proofs.Standing.{own_of, stands_is}
use Rattle.listing.proofs.Counting.{length_seen, seen_filled, counted_seen, counts_stands}
use Rattle.listing.proofs.Fitting.{same_truth, shown, shown_is}
use Rattle.listing.proofs.Loop.{scan_to, scan_to_lem}
use Rattle.listing.proofs.Seeing.{entered, turn_is}

-- ---- the search of the first i places
module _ (a : Address) (ws : List Route) where
  abbrev search_to : ℕ → Option Found
  search_to zero = None
  search_to (suc i) = better_of a (search_to i) i (route_at ws i)

  so_far : (i : ℕ) → i ≤ length ws → search_of a ws ≡ search_from a (search_to i) i (drop i ws)
  so_far zero l = search_start a ws
  so_far (suc i) l =
      subst (λ (k : ℕ). search_of a ws ≡ search_from a (search_to (suc i)) k (drop k ws)) (add-one i)
      (search_turn a ws i (search_to i) (search_of a ws) (so_far i (omega arith)) (search_to (suc i)) (route_at ws i) empty_route (omega arith) refl refl)

  search_to_lem : search_to (length ws) ≡ search_of a ws
  search_to_lem = search_end a ws (length ws) (search_to (length ws)) (search_of a ws) (so_far (length ws) (omega arith)) (omega arith)

-- ---- what a scan has of the search's answer
-- nothing; or its place, mask, ones, port and capabilities
abbrev pub Told : Scan → Option Found → Type 0
Told s None = s.found ≡ None
Told s (Some top) =
    (found : Match)
    × ((s.found ≡ Some found)
    × (found.place ≡ top.place)
    × (found.mask ≡ top.route.mask.0)
    × (ones_of found.mask ≡ top.ones)
    × (found.port ≡ top.route.port)
    × (found.capabilities ≡ top.route.capabilities))

-- by place, ones, port and capabilities of what is found
abbrev pub by_parts : {X : Type 0} → (ℕ → ℕ → ℕ → ℕ → X) → Match → X
by_parts some found = some found.place (ones_of found.mask) found.port found.capabilities

-- what is told of an answer by these is told by the scan
pub told_by : {X : Type 0} (g : Option Found → X) (none : X) (some : ℕ → ℕ → ℕ → ℕ → X) → g None ≡ none
    → ((place ones : ℕ) (r : Route) → g (found_route place ones r) ≡ some place ones r.port r.capabilities) → (s : Scan) (f : Option Found) → Told s f
    → g f ≡ option_map_or (by_parts some) s.found none
told_by g none some is_none is_some s None h = is_none ∙ rw h
told_by g none some is_none is_some s (Some top) h = is_some top.place top.ones top.route ∙ rw (h.1.0, h.1.1, h.1.3, h.1.4, h.1.5)

either_way : {A B : Type 0} (f : A → B) (o : Option A) → option_map_or (λ (a : A). Some (f a)) o None ≡ option_map f o
either_way f None = refl
either_way f (Some a) = refl

told_no : (s : Scan) (f : Option Found) → Told s f → s.found ≡ None → f ≡ None
told_no s None h e = refl
told_no s (Some top) h e = true_false (let no : Some h.0 ≡ None = sym h.1.0 ∙ e in cc)

longer_is : (s : Scan) (f : Option Found) (r : Record) (w : Route) → w.mask.0 ≡ r.mask → Told s f → beaten f w ≡ is_longer s r
unfolding beaten is_longer
longer_is s None r w e h = rw h
longer_is s (Some top) r w e h = rw (h.1.0, h.1.2, e)

module _ (b : Board) (q : Query) (own : q.own ≡ own_of b q.mission) (best : q.sought ≡ sought.Best) (rs : List Record) where
  abbrev to : Address
  to = record { 0 = q.address }

  abbrev ways : List Route
  ways = routes_seen b q.mission rs

  way_at : (i : ℕ) → shown q rs i ≡ true → route_at ways i ≡ route_of (record_at rs i)
  way_at i h = let at = (shown_is b q own rs i).0 h in counted_seen b rs q.mission i at.0 at.2

  -- of those shown, the ones that are up are candidates
  candidate_wanted : (i : ℕ) → shown q rs i ≡ true → candidate (route_of (record_at rs i)) to ≡ is_wanted q (record_at rs i)
  unfolding is_wanted
  candidate_wanted i h =
      let at = (shown_is b q own rs i).0 h in
      let filled : is_filled (route_of (record_at rs i)) ≡ true = ((stands_is b (record_at rs i)).0 (counts_stands b rs i at.0)).0 in
      same_truth _ _
      (λ c. rw best (eq-eqb _ _ ((candidate_is (route_of (record_at rs i)) to).0 c).1))
      (λ w. (candidate_is (route_of (record_at rs i)) to).1 (filled, eqb-true _ _ (rw best at w), at.1))

  -- and no other is one
  candidate_shown : (i : ℕ) → candidate (route_at ways i) to ≡ true → shown q rs i ≡ true
  candidate_shown i c =
      let is = (candidate_is (route_at ways i) to).0 c in
      let at = seen_filled b rs q.mission i is.0 in
      let record_is = (candidate_is (route_of (record_at rs i)) to).0 (ap (λ (w : Route). candidate w to) (sym at.2) ∙ c) in
      (shown_is b q own rs i).1 (at.0, record_is.2, at.1)

  either_told : (t : Bool) (s : Scan) (f : Option Found) (i : ℕ) (r : Record) → Told s f
      → Told (pick t (found_at s i r) s) (pick t (found_route i (ones_of r.mask) (route_of r)) f)
  either_told true s f i r h = (match_of i r, (refl, refl, refl, refl, refl, refl))
  either_told false s f i r h = h

  noted_told : (s : Scan) (set : ℕ) (f : Option Found) → Told s f → Told (noted s set) f
  noted_told s set None h = h
  noted_told s set (Some top) h = h

  entered_told : (s : Scan) (f : Option Found) (i : ℕ) → shown q rs i ≡ true → Told s f
      → Told (taken_of q s i (record_at rs i)) (better_of to f i (route_of (record_at rs i)))
  unfolding taken_of better_of
  entered_told s f i h told =
      let r = record_at rs i in
      let same : (candidate (route_of r) to && beaten f (route_of r)) ≡ (is_wanted q r && is_longer s r) =
      ap₂ ◌&&◌ (candidate_wanted i h) (longer_is s f r (route_of r) refl told) in
      subst (λ (t : Bool). Told (pick (is_wanted q r && is_longer s r) (found_at s i r) s) (pick t (found_route i (ones_of r.mask) (route_of r)) f)) (sym same)
      (either_told (is_wanted q r && is_longer s r) s f i r told)

  turn : (t : Bool) (s : Scan) (f : Option Found) (i : ℕ) → shown q rs i ≡ t → Told s f
      → Told (pick t (entered q s i (record_at rs i)) s) (better_of to f i (route_at ways i))
  turn true s f i h told =
      let noted-s = noted s (2 ^ ones_of (record_at rs i).mask) in
      subst (λ (w : Route). Told (taken_of q noted-s i (record_at rs i)) (better_of to f i w)) (sym (way_at i h))
      (entered_told noted-s f i h (noted_told s (2 ^ ones_of (record_at rs i).mask) f told))
  turn false s f i h told =
      let none : candidate (route_at ways i) to ≡ false = refuted _ (λ c. true_false (sym (candidate_shown i c) ∙ h)) in
      subst (Told s) (no_candidate to i (route_at ways i) f none) told

  told_to : (i : ℕ) → Told (scan_to rs q i) (search_to to ways i)
  told_to zero = refl
  told_to (suc i) =
      subst (λ (s : Scan). Told s (search_to to ways (suc i))) (sym (turn_is q rs i))
      (turn (shown q rs i) (scan_to rs q i) (search_to to ways i) i refl (told_to i))

  something : q.sought ≢ sought.Nothing
  something e = true_false (let f : sought.Best ≡ sought.Nothing = sym best ∙ e in cc)

  -- The scan has what the search answers.
  pub scan_search : Told (scan_of q rs) (search_of to ways)
  scan_search =
      subst (λ (s : Scan). Told s (search_of to ways)) (sym (scan_to_lem rs q something))
      (subst (Told (scan_to rs q (length rs)))
      (ap (search_to to ways) (sym (length_seen b rs q.mission)) ∙ search_to_lem to ways)
      (told_to (length rs)))

  -- It has found nothing exactly where the search answers no.
  pub scan_no : ((scan_of q rs).found ≡ None) ↔ (search_of to ways ≡ None)
  scan_no = (told_no (scan_of q rs) (search_of to ways) scan_search, λ e. subst (Told (scan_of q rs)) e scan_search)

  -- Whatever depends on the answer's place, ones, port and capabilities alone is told by the scan.
  pub search_by : {X : Type 0} (g : Option Found → X) (none : X) (some : ℕ → ℕ → ℕ → ℕ → X) → g None ≡ none
      → ((place ones : ℕ) (r : Route) → g (found_route place ones r) ≡ some place ones r.port r.capabilities)
      → g (search_of to ways)
      ≡ option_map_or (by_parts some) (scan_of q rs).found none
  search_by g none some is_none is_some = told_by g none some is_none is_some (scan_of q rs) (search_of to ways) scan_search

  -- The same where it may be nothing.
  pub search_found : {X : Type 0} (g : Option Found → Option X) (some : ℕ → ℕ → ℕ → ℕ → X) → g None ≡ None
      → ((place ones : ℕ) (r : Route) → g (found_route place ones r) ≡ Some (some place ones r.port r.capabilities))
      → g (search_of to ways) ≡ option_map (by_parts some) (scan_of q rs).found
  search_found g some is_none is_some =
      search_by g None (λ (place ones port codes : ℕ). Some (some place ones port codes)) is_none is_some ∙ either_way (by_parts some) (scan_of q rs).found
