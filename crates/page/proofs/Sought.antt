-- Demand 2, the route: where a route is sought, a port that is granted a copy is that of a route that matches, and no matching route has more ones; and
-- 11 is said exactly where none matches. And of every copy: what its port has passed (`Passed`); with a one-octet path a port is granted one only in
-- the arrival port's domain. Assumes nothing.
use Prim.Native.Nat.{ℕ, ◌<◌, ◌≤◌}
use mathlib.Core.Path.{◌≡◌, sym, ap, ◌∙◌}
use mathlib.Core.Logic.{◌↔◌}
use mathlib.Core.Bool.{Bool, true, false, not, ◌&&◌, ◌||◌}
use mathlib.Core.List.{List}
use lib.Dec.{eqb, ltb}
use lib.ListN.{length}
use borrow.Author.Tests.{eqb-true, ltb-true, ltb-false, not-true}
use Rattle.checks.specs.Order.{pick}
use Rattle.checks.proofs.Bools.{true_false, not-false, and_true, or_false, refuted}
use Rattle.sets.specs.Sets.{in_set}
use Rattle.sets.proofs.Anywhere.{any_is, any_found}
use Rattle.address.specs.Mask.{ones_of}
use Rattle.address.specs.declared.Address.{Address}
use Rattle.header.specs.Limits.{length_limit}
use Rattle.header.specs.Read.{header_of}
use Rattle.header.specs.declared.Header.{Header}
use Rattle.meaning.specs.declared.Aim.{Aim}
use Rattle.meaning.specs.declared.Aim.TheVariants.{Node}
use Rattle.networks.specs.Networks.{domain_of}
use Rattle.routes.specs.Routes.{candidate}
use Rattle.routes.specs.Search.{longer_mask}
use Rattle.routes.specs.declared.Route.{Route}
use Rattle.routes.proofs.Candidates.{candidate_within}
use Rattle.routes.proofs.Longest.{Contiguous}
use Rattle.state.specs.Relay.{Relay, port_in, route_in, port_set_up}
use Rattle.verdict.specs.Numbers.{onward_number}
use Rattle.judge.specs.Ending.{ending_of}
use Rattle.page.specs.Table.{Ports, aim_at, some_matches, more_ones, outdoes, is_best, best_port, best_code, Line, not_asked, refused, wanted, onward_line, hops_used_up, one_octet_path, lies_far, size_after, has_room, granted_ports, line_grants, line_code, verdict_by}
use Rattle.page.specs.Ends.{Chooses}
use Rattle.page.specs.Sought.{RouteSought, RouteTaken}
use Rattle.page.proofs.Verdict.{masks_choose, ones_choose}
use Rattle.page.proofs.Exactly as exactly

-- ---- what a port that is granted a copy has passed, its route asking for what the code says: 10, 13 and both tests of 14
pub record Passed (r : Relay) (at : ℕ) (h : Header) (code p : ℕ) : Type 0 where
  pub set_up_lem : port_set_up r p ≡ true
  pub hops : hops_used_up h.fields.hops ≡ false
  pub bound : one_octet_path h.fields.addresses ≡ true → lies_far r at p ≡ false
  pub mtu : size_after r at h code p ≤ (port_in r p).mtu
  pub short : size_after r at h code p < length_limit

module _ (r : Relay) (at : ℕ) (h : Header) (p : ℕ) where
  abbrev is_near : Bool
  is_near = not (one_octet_path h.fields.addresses) || (port_set_up r p && not (lies_far r at p))

  near_case : (one far : Bool) → (not one || (port_set_up r p && not far)) ≡ true → one ≡ true → far ≡ false
  near_case true far e one = not-true far (and_true (port_set_up r p) (not far) e).1
  near_case false far e one = true_false (sym one)

  pub granted_passed : (ports : Ports) (code : ℕ) → granted_ports r at h ports code p ≡ true → (ports p ≡ true) × Passed r at h code p
  granted_passed ports code e =
      let n = size_after r at h code p in
      let over = ltb (port_in r p).mtu n in
      let size = port_set_up r p && (not over && ltb n length_limit) in
      let hops = and_true (not (hops_used_up h.fields.hops)) ((ports p && is_near) && size) e in
      let both = and_true (ports p && is_near) size hops.1 in
      let near = and_true (ports p) is_near both.0 in
      let up = and_true (port_set_up r p) (not over && ltb n length_limit) both.1 in
      let fits = and_true (not over) (ltb n length_limit) up.1 in (
        near.0,
        record {
          set_up_lem = up.0;
          hops = not-true (hops_used_up h.fields.hops) hops.0;
          bound = near_case (one_octet_path h.fields.addresses) (lies_far r at p) near.1;
          mtu = ltb-false (port_in r p).mtu n (not-true over fits.0);
          short = ltb-true n length_limit fits.1;
        },
      )

  pub line_passed : (l : Line) → line_grants r at h l p ≡ true → Passed r at h (line_code l) p
  line_passed not_asked e = true_false (sym e)
  line_passed (refused n) e = true_false (sym e)
  line_passed (wanted ports code) e = (granted_passed ports code e).1

-- ---- the route
module _ (r : Relay) (a : Address) where
  not_outdone : (p q : ℕ) → candidate (route_in r p) a ≡ true → outdoes more_ones r (Node a) p q ≡ false
      → ones_of (route_in r p).mask.0 ≤ ones_of (route_in r q).mask.0
  not_outdone p q match none =
      let rather = more_ones (route_in r p) (route_in r q) in
      let lower = not (more_ones (route_in r q) (route_in r p)) && ltb p q in
      ltb-false (ones_of (route_in r q).mask.0) (ones_of (route_in r p).mask.0)
      (or_false rather lower (sym (ap (λ (t : Bool). t && (rather || lower)) match) ∙ none)).0

  pub best_taken : (p : ℕ) → best_port more_ones r (Node a) p ≡ true → RouteTaken r a p
  unfolding best_port is_best
  best_taken p some =
      let at = (any_is (λ (q : ℕ). is_best more_ones r (Node a) q && eqb p (route_in r q).port) (length r.routes)).0 some in
      let both = and_true (is_best more_ones r (Node a) at.0) (eqb p (route_in r at.0).port) at.2 in
      let best = and_true (candidate (route_in r at.0) a) _ both.0 in
      record {
        place = at.0;
        matches = best.0;
        most = λ q match.
            not_outdone q at.0 match
            (refuted (outdoes more_ones r (Node a) q at.0) (λ is.
            true_false
            (sym best.1
            ∙ ap not (any_found (λ (q : ℕ). outdoes more_ones r (Node a) q at.0) q (length r.routes) (candidate_within a r.routes q match) is))));
        port = sym (eqb-true p (route_in r at.0).port both.1);
      }

module _ (r : Relay) (at second : ℕ) (octets : List ℕ) (room : ℕ) (a : Address) (sought : RouteSought r at second octets room a) where
  abbrev h : Header
  h = header_of octets

  -- A router says 11 exactly where no route that is up matches.
  pub sought_no_route : (onward_number (ending_of r at second octets room).ruling.onward ≡ 11) ↔ ((q : ℕ) → candidate (route_in r q) a ≡ false)
  sought_no_route =
      exactly.no_route_exactly r at second octets room a sought.named sought.router sought.not_flooded sought.not_own sought.not_ours sought.no_group sought.judged

  sought_line : onward_line more_ones r at (Node a) h.fields ≡ pick (not (some_matches r (Node a))) (refused 11) (wanted (best_port more_ones r (Node a)) (best_code more_ones r (Node a)))
  unfolding onward_line
  sought_line = simp (sought.not_own, sought.router, sought.not_flooded, sought.not_ours, sought.no_group)

  wanted_case : (some : Bool) (ports : Ports) (code p : ℕ) → line_grants r at h (pick (not some) (refused 11) (wanted ports code)) p ≡ true → ports p ≡ true
  wanted_case true ports code p e = (granted_passed r at h p ports code e).0
  wanted_case false ports code p e = true_false (sym e)

  -- A port that is granted a copy is that of a matching route of which none has more ones.
  pub sought_taken : Contiguous r.routes → (p : ℕ) → p < 8 → in_set p (ending_of r at second octets room).ruling.granted ≡ true → RouteTaken r a p
  sought_taken contiguous p inside granted =
      let line = ((exactly.granted_exactly r at second octets room more_ones (ones_choose r contiguous) p inside).0 granted).1 in
      let is = ap (λ (y : Aim). line_grants r at h (onward_line more_ones r at y h.fields) p) sought.named ∙ ap (λ (l : Line). line_grants r at h l p) sought_line in
      best_taken r a p (wanted_case (some_matches r (Node a)) (best_port more_ones r (Node a)) (best_code more_ones r (Node a)) p (sym is ∙ line))

-- ---- a port that is granted a copy
module _ (r : Relay) (at second : ℕ) (octets : List ℕ) (room : ℕ) (p : ℕ) (inside : p < 8) where
  module _ (more : Route → Route → Bool) (chooses : Chooses more r) where
    -- It has passed all that the tables ask, by the code of the verdict ..
    pub granted_fits : in_set p (ending_of r at second octets room).ruling.granted ≡ true
        → Passed r at (header_of octets) (verdict_by more r at second octets room).code p
    granted_fits granted =
        let line = (exactly.granted_exactly r at second octets room more chooses p inside).0 granted in
        rw (exactly.code_number r at second octets room more chooses line.0)
        (line_passed r at (header_of octets) p (onward_line more r at (aim_at r at octets) (header_of octets).fields) line.1)

    -- .. and so has one that took it.
    pub took_fits : in_set p (ending_of r at second octets room).ruling.took ≡ true
        → Passed r at (header_of octets) (verdict_by more r at second octets room).code p
    took_fits took =
        granted_fits (and_true (in_set p (ending_of r at second octets room).ruling.granted) (has_room r p) (sym (exactly.took_exactly r at second octets room p inside) ∙ took)).0

  -- A one-octet path goes only to a port of the domain that it came from.
  pub granted_in_domain : in_set p (ending_of r at second octets room).ruling.granted ≡ true → one_octet_path (header_of octets).fields.addresses ≡ true
      → domain_of (port_in r p).address ≡ domain_of (port_in r at).address
  granted_in_domain granted one =
      eqb-true (domain_of (port_in r p).address) (domain_of (port_in r at).address)
      (not-false _ ((granted_fits longer_mask (masks_choose r) granted).bound one))

  -- A port that is granted a copy is set up.
  pub granted_set_up : in_set p (ending_of r at second octets room).ruling.granted ≡ true → port_set_up r p ≡ true
  granted_set_up granted = (granted_fits longer_mask (masks_choose r) granted).set_up_lem
