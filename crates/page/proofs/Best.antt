-- The route line: the search takes the route that is best of all that match, and says no where none does. Assumes nothing.
use native.Mathlib.Omega.{arith}
use native.Mathlib.Decide.{dec_le}
use native.Mathlib.Nat.{lt_of_not-le}
use Prim.Native.Nat.{ℕ, ◌<◌, ◌≤◌}
use mathlib.Core.Path.{◌≡◌, refl, sym, ap, subst, ◌∙◌}
use mathlib.Core.Logic.{◌↔◌, ⊎_elim, by_cases, ◌≢◌}
use mathlib.Core.Bool.{Bool, true, false, not, ◌&&◌, ◌||◌}
use mathlib.Core.List.{List}
use lib.Dec.{eqb, ltb}
use lib.ListN.{length}
use borrow.Author.Tests.{eqb-true, eqb-false, ltb-true, ltb-false, lt-ltb, le-ltb, not-true}
use Rattle.std.proofs.Common.{Option, Some, None}
use Rattle.checks.specs.Order.{pick}
use Rattle.checks.proofs.Bools.{true_false, refuted, and_true, or_true}
use Rattle.sets.specs.Sets.{any_below}
use Rattle.sets.proofs.Anywhere.{any_is, any_found}
use Rattle.sets.proofs.Loops.{first_below_found}
use Rattle.sets.proofs.First.{first_none}
use Rattle.address.specs.declared.Address.{Address}
use Rattle.routes.specs.Routes.{route_at, candidate}
use Rattle.routes.specs.Search.{Found, found_route, search_of}
use Rattle.routes.specs.declared.Route.{Route}
use Rattle.routes.proofs.Candidates.{candidate_within}
use Rattle.routes.proofs.Longest.{CandidateAt, mask_at, search_found, search_no, search_greatest, search_first}
use Rattle.meaning.specs.declared.Aim.TheVariants.{Node}
use Rattle.lookup.specs.ForTarget.{way_of}
use Rattle.state.specs.Relay.{Relay, route_in}
use Rattle.verdict.specs.Rule.{route_line, code_of}
use Rattle.page.specs.Table.{matches, some_matches, outdoes, is_best, best_port, best_code, Line, refused, wanted}
use Rattle.page.specs.Ends.{Chooses}
use Rattle.page.proofs.Sets.{only_is}
use Rattle.page.proofs.Copies.{Alone, Same}

-- No route matches exactly where none at any place is a candidate.
pub no_match : (r : Relay) (a : Address) → (some_matches r (Node a) ≡ false) ↔ ((q : ℕ) → candidate (route_in r q) a ≡ false)
unfolding some_matches
no_match r a = (
  λ e q. refuted (candidate (route_in r q) a) (λ is.
      true_false (sym (any_found (matches r (Node a)) q (length r.routes) (candidate_within a r.routes q is) is) ∙ e)),
  λ none. refuted _ (λ some.
      let where-is = (any_is (matches r (Node a)) (length r.routes)).0 some in
      true_false (sym where-is.2 ∙ none where-is.0)),
)

module _ (more : Route → Route → Bool) (r : Relay) (chooses : Chooses more r) (a : Address) where
  abbrev rs : List Route
  rs = r.routes

  abbrev better : ℕ → ℕ → Bool
  better p q = outdoes more r (Node a) p q

  abbrev best : ℕ → Bool
  best q = is_best more r (Node a) q

  module _ (place ones : ℕ) (x : Route) (found : search_of a rs ≡ found_route place ones x) where
    held : x ≡ route_at rs place
    held = (search_found a rs found).1

    fits : CandidateAt a rs place
    fits = ap (λ (y : Route). candidate y a) (sym held) ∙ (search_found a rs found).2

    mask_is : x.mask.0 ≡ mask_at rs place
    mask_is = ap (λ (y : Route). y.mask.0) held

    abbrev wins : ℕ → ℕ → Bool
    wins p q = more (route_at rs p) (route_at rs q)

    -- no route that matches outdoes the one found ..
    not_outdone : (k : ℕ) → better k place ≡ true → ⊥
    not_outdone k h =
        let both = and_true (candidate (route_at rs k) a) (wins k place || (not (wins place k) && ltb k place)) h in
        let most = search_greatest a rs found k both.0 in
        ⊎_elim
        (λ (m : wins k place ≡ true).
        let over : mask_at rs place < mask_at rs k = ltb-true _ _ (sym (chooses a k place both.0 fits) ∙ m) in
        let bad : ⊥ = omega (arith, mask_is, most, over) in
        bad)
        (λ (m : (not (wins place k) && ltb k place) ≡ true).
        let lower = and_true (not (wins place k)) (ltb k place) m in
        let over : mask_at rs place ≤ mask_at rs k = ltb-false _ _ (sym (chooses a place k fits both.0) ∙ not-true _ lower.0) in
        let bad : ⊥ = omega (arith, mask_is, over, search_first a rs found k (ltb-true k place lower.1) both.0) in
        bad)
        (or_true (wins k place) (not (wins place k) && ltb k place) both.1)

    is_best_lem : best place ≡ true
    unfolding is_best
    is_best_lem =
        rw (
          fits,
          refuted (any_below (λ (k : ℕ). better k place) (length rs)) (λ h.
              let at = (any_is (λ (k : ℕ). better k place) (length rs)).0 h in not_outdone at.0 at.2),
        )

    -- .. and it outdoes every other
    not_before : (q : ℕ) → CandidateAt a rs q → q ≢ place → mask_at rs place ≤ mask_at rs q → q ≤ place → ⊥
    not_before q is other l u =
        let under : q < place = omega (arith, u, other) in
        omega (arith, mask_is, l, search_first a rs found q under is)

    outdone : (q : ℕ) → CandidateAt a rs q → q ≢ place → better place q ≡ true
    outdone q is other =
        let most : mask_at rs q ≤ mask_at rs place = omega (arith, mask_is, search_greatest a rs found q is) in
        by_cases (dec_le (mask_at rs place) (mask_at rs q))
        (λ l.
        let later : ltb place q ≡ true = lt-ltb place q (lt_of_not-le (not_before q is other l)) in
        let no = chooses a place q fits is ∙ le-ltb _ _ l in
        let nor = chooses a q place is fits ∙ le-ltb _ _ most in
        rw (fits, no, nor, later))
        (λ g.
        let yes = chooses a place q fits is ∙ lt-ltb _ _ (lt_of_not-le g) in
        rw (fits, yes))

    inside : place < length rs
    inside = (search_found a rs found).0

    only_best : (q : ℕ) → best q ≡ true → q ≡ place
    unfolding is_best
    only_best q h = by (eqb q place) refl
      where
        both : (CandidateAt a rs q) × (not (any_below (λ (k : ℕ). better k q) (length rs)) ≡ true)
        both = and_true (candidate (route_at rs q) a) _ h

        by : (t : Bool) → eqb q place ≡ t → q ≡ place
        by true e = eqb-true q place e
        by false e =
            true_false
            (sym (any_found (λ (k : ℕ). better k q) place (length rs) inside (outdone q both.0 (eqb-false q place e)))
            ∙ not-true _ both.1)

    -- So its port is the one wanted.
    port_is : (p : ℕ) → eqb p x.port ≡ best_port more r (Node a) p
    unfolding best_port
    port_is p = by (eqb p x.port) refl
      where
        by : (t : Bool) → eqb p x.port ≡ t → t ≡ any_below (λ (q : ℕ). best q && eqb p (route_at rs q).port) (length rs)
        by true e =
            sym (any_found (λ (q : ℕ). best q && eqb p (route_at rs q).port) place (length rs) inside
            (rw is_best_lem (ap (λ (y : Route). eqb p y.port) (sym held) ∙ e)))
        by false e =
            sym (refuted _ λ h.
            let at = (any_is (λ (q : ℕ). best q && eqb p (route_at rs q).port) (length rs)).0 h in
            let both = and_true (best at.0) (eqb p (route_at rs at.0).port) at.2 in
            true_false
            (sym both.1
            ∙ ap (λ (q : ℕ). eqb p (route_at rs q).port) (only_best at.0 both.0)
            ∙ ap (λ (y : Route). eqb p y.port) (sym held)
            ∙ e))

    port_alone : Alone (best_port more r (Node a))
    port_alone p q l k hp hq = eqb-true p x.port (port_is p ∙ hp) ∙ sym (eqb-true q x.port (port_is q ∙ hq))

    -- And what it asks for is the table's code.
    pub code_is : x.capabilities ≡ best_code more r (Node a)
    unfolding best_code
    code_is =
        let none : (q : ℕ) → q < place → best q ≡ false = λ q l. refuted (best q) (λ h. let e = only_best q h in omega (arith, e, l)) in
        let first = first_below_found best place (length rs) inside (first_none best place none) is_best_lem in
        ap (λ (y : Route). y.capabilities) held ∙ ap (λ (q : ℕ). (route_at rs q).capabilities) (sym first)

    some_match : some_matches r (Node a) ≡ true
    unfolding some_matches
    some_match = any_found (matches r (Node a)) place (length rs) inside fits

  pub some_best : (p : ℕ) → best_port more r (Node a) p ≡ true → some_matches r (Node a) ≡ true
  unfolding best_port is_best some_matches
  some_best p h =
      let at = (any_is (λ (q : ℕ). best q && eqb p (route_at rs q).port) (length rs)).0 h in
      let both = and_true (best at.0) (eqb p (route_at rs at.0).port) at.2 in
      any_found (matches r (Node a)) at.0 (length rs) at.1 (and_true (candidate (route_at rs at.0) a) _ both.0).0

  none_match : search_of a rs ≡ None → some_matches r (Node a) ≡ false
  unfolding some_matches
  none_match e =
      refuted _ λ h.
      let at = (any_is (matches r (Node a)) (length rs)).0 h in
      true_false (sym at.2 ∙ (search_no a rs).0 e at.0)

  -- A route has one port, so that no two ports are wanted.
  pub one_port : Alone (best_port more r (Node a))
  one_port = by (search_of a rs) refl
    where
      by : (f : Option Found) → search_of a rs ≡ f → Alone (best_port more r (Node a))
      by (Some top) e = port_alone top.place top.ones top.route e
      by None e = λ p q l k hp hq. true_false (sym (some_best p hp) ∙ none_match e)

  abbrev best_line : Line
  best_line = wanted (best_port more r (Node a)) (best_code more r (Node a))

  found_same : (f : Option Found) → search_of a rs ≡ f
      → Same (code_of (way_of f)) (route_line (way_of f)) (pick (not (some_matches r (Node a))) (refused 11) best_line)
  unfolding route_line
  found_same None e = rw (none_match e)
  found_same (Some top) e =
      subst (λ (t : Bool). Same top.route.capabilities (route_line (way_of (Some top))) (pick (not t) (refused 11) best_line))
      (sym (some_match top.place top.ones top.route e))
      ((code_is top.place top.ones top.route e, λ some. port_alone top.place top.ones top.route e), λ p l. only_is p top.route.port l ∙ port_is top.place top.ones top.route e p)

  -- The search and the table's line want the same, and their routes ask for the same.
  pub route_same : Same (code_of (way_of (search_of a rs))) (route_line (way_of (search_of a rs))) (pick (not (some_matches r (Node a))) (refused 11) best_line)
  route_same = found_same (search_of a rs) refl
