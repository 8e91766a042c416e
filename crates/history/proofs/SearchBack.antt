-- What C reads of the answer of hj_search: page 02, W-202 ("the place number and its count of mask ones as well, and for no match a plain no"). The theorem
-- is `search_names_the_longest`: whatever board and list are lent, a list over 512 records aside, the answer is 0 exactly where no route that the mission sees
-- and that is up matches, and else names the one with most ones. Beside it: of any relay, found is 0
-- exactly where the search says no; of what a mission sees nothing is cut, since the parts are the place, the ones and the port of the entry taken. Assumes
-- nothing.
use native.Mathlib.Omega.{arith}
use native.Mathlib.Nat.{div-eq_of_lt, mod-eq_of_lt}
use Prim.Native.Nat.{ℕ, ◌+◌, ◌*◌, ◌%◌, ◌^◌, ◌≤◌, ◌<◌}
use mathlib.Core.Path.{◌≡◌, refl, sym, ap, subst, ◌∙◌}
use mathlib.Core.Logic.{◌↔◌}
use mathlib.Core.Bool.{true, false}
use mathlib.Core.List.{List}
use lib.Bits.{bit_and, and_zero_r}
use lib.ListN.{length}
use borrow.Author.Tests.{ltb-true, ltb-false}
use Rattle.std.proofs.Common.{Option, Some, None}
use Rattle.checks.proofs.Bools.{true_false, and_true}
use Rattle.address.specs.Mask.{ones_of}
use Rattle.address.proofs.Ones.{ones_at_most}
use Rattle.address.proofs.Masks.{mask_ones}
use Rattle.address.specs.declared.Address.{Address}
use Rattle.routes.specs.Routes.{route_at, is_filled, candidate}
use Rattle.routes.specs.Search.{Found, found_route, search_of}
use Rattle.routes.specs.declared.Record.{Record}
use Rattle.routes.specs.declared.Route.{Route}
use Rattle.routes.proofs.Candidates.{candidate_is}
use Rattle.routes.proofs.Prefixes.{prefix_form}
use Rattle.routes.proofs.Longest.{CandidateAt, mask_at, search_found, search_no, search_is}
use Rattle.state.specs.Relay.{Relay, route_in}
use Rattle.settings.specs.Sets.{is_ready}
use Rattle.sets.specs.Limits.{route_places}
use Rattle.lent_state.specs.View.{too_long}
use Rattle.listing.specs.Listed.{routes_seen}
use Rattle.listing.proofs.Counting.{length_seen, seen_taken}
use Rattle.answers.proofs.Digits.{digit}
use Rattle.route_calls.specs.Search.{search_parts, found_number, search_answer}
use Rattle.history.specs.Seat.{Seat, relay_with}
use Rattle.history.specs.SearchBack.{is_found, found_place, found_ones, found_port, Named, Longest, LongestOrNo}
use Rattle.history.proofs.Search.{taken_has_most_ones, taken_is_the_only}

-- Each part is read modulo its width, whatever the route is.
pub named_cut : (place ones port : ℕ) → Named (search_parts 1 place ones port) (place % 2 ^ 16) (ones % 2 ^ 8) (port % 2 ^ 8)
unfolding search_parts
named_cut place ones port =
    let n = search_parts 1 place ones port in
    let p = place % 2 ^ 16 in
    let k = ones % 2 ^ 8 in
    let x = port % 2 ^ 8 in
    let p-low : p < 2 ^ 16 = omega arith in
    let k-low : k < 256 = omega arith in
    let x-low : x < 256 = omega arith in
    record {
      refusal = digit n (1 + p * 2 ^ 8 + k * 2 ^ 24 + x * 2 ^ 32) 0 0 (omega arith) (omega arith) (omega arith);
      found = digit n (p + k * 2 ^ 16 + x * 2 ^ 24) 1 0 (omega arith) (omega arith) (omega arith);
      place_read = digit n (k + x * 2 ^ 8) p (2 ^ 8) (omega arith) (omega arith) p-low;
      ones_read = digit n x k (2 ^ 8 + p * 2 ^ 16) (omega arith) (omega arith) k-low;
      port_read = digit n 0 x (2 ^ 8 + p * 2 ^ 16 + k * 2 ^ 32) (omega arith) (omega arith) x-low;
      above = div-eq_of_lt (omega arith);
    }

-- A part that fits its width is read whole.
pub named_whole : (place ones port : ℕ) → place < 2 ^ 16 → ones < 2 ^ 8 → port < 2 ^ 8 → Named (search_parts 1 place ones port) place ones port
named_whole place ones port p-low k-low x-low =
    let cut = named_cut place ones port in
    record {
      refusal = cut.refusal;
      found = cut.found;
      place_read = cut.place_read ∙ mod-eq_of_lt p-low;
      ones_read = cut.ones_read ∙ mod-eq_of_lt k-low;
      port_read = cut.port_read ∙ mod-eq_of_lt x-low;
      above = cut.above;
    }

-- ---- found or no, of any relay
found_case : (f : Option Found) → (is_found (found_number f) ≡ 0) ↔ (f ≡ None)
found_case (Some top) = (λ e. absurd (omega (arith, (named_cut top.place top.ones top.route.port).found)), λ e. true_false cc)
found_case None = (λ e. refl, λ e. refl)

-- Found is 0 exactly where the search says no.
pub found_is_no : (r : Relay) (a : Address) → (is_found (search_answer r a) ≡ 0) ↔ (search_of a r.routes ≡ None)
unfolding search_answer
found_is_no r a = found_case (search_of a r.routes)

-- And no is 0 whole: the refusal and all parts.
pub no_is_zero : (r : Relay) (a : Address) → search_of a r.routes ≡ None → search_answer r a ≡ 0
unfolding search_answer
no_is_zero r a e = ap found_number e

-- The answer is 0 exactly where no place holds a route that is filled, up and a match.
zero_is_no : (r : Relay) (a : Address) → (search_answer r a ≡ 0) ↔ ((q : ℕ) → candidate (route_in r q) a ≡ false)
zero_is_no r a = (
  λ e. (search_no a r.routes).0 ((found_is_no r a).0 (ap is_found e)),
  λ none. no_is_zero r a ((search_no a r.routes).1 none),
)

-- n names an entry by its own parts
abbrev Told : ℕ → Type 0
Told n = Named n (found_place n) (found_ones n) (found_port n)

-- ---- the entry taken, of a list that is not too long
-- the port of a route that stands in a place is one of the eight
port_low : (p : ℕ) (ready : ℕ) → is_ready p ready ≡ true → p < 8
port_low p ready h = ltb-true p 8 (and_true _ _ h).0

module _ (seat : Seat) (rs : List Record) (short : too_long rs ≡ false) (a : Address) where
  -- what the mission sees, and its routes
  abbrev sees : Relay
  sees = relay_with seat rs

  abbrev routes : List Route
  routes = routes_seen seat.board seat.number rs

  -- What is read is the place, the ones and the port of the entry taken: a place below 512, at most 32 ones and a port below 8, so that nothing is cut.
  pub search_read_back : {p n : ℕ} {r : Route} → search_of a routes ≡ found_route p n r
      → Named (search_answer sees a) p n r.port × ((p < 512) × ((n ≤ 32) × (r.port < 8)))
  unfolding search_answer
  search_read_back {p} {n} {r} e =
      let taken = search_found a routes e in
      let inside : p < length rs = subst (λ (k : ℕ). p < k) (length_seen seat.board rs seat.number) taken.0 in
      let place : p < 512 = omega (arith, inside, ltb-false route_places (length rs) short) in
      let ones : n ≤ 32 = rw taken.3 (ones_at_most _) in
      let filled = ((candidate_is r a).0 taken.2).0 in
      let good = seen_taken seat.board rs seat.number p (ap is_filled (sym taken.1) ∙ filled) in
      let port : r.port < 8 = subst (λ (x : Route). x.port < 8) (sym taken.1) (port_low _ _ good.0) in
      let is : search_answer sees a ≡ search_parts 1 p n r.port = ap found_number e in
      (rw is (named_whole p n r.port (omega arith) (omega arith) (omega arith)), (place, (ones, port)))

  -- So the place read holds a route that is up and matches, with the ones and the port read; no such route has more ones, and no other has as many.
  pub names_the_longest : is_found (search_answer sees a) ≡ 1 → Longest a routes (search_answer sees a)
  names_the_longest h = by_answer (search_of a routes) refl
    where
      by_answer : (f : Option Found) → search_of a routes ≡ f → Longest a routes (search_answer sees a)
      by_answer None e = absurd (omega (arith, h, (found_is_no sees a).1 e))
      by_answer (Some top) e =
          let taken = search_found a routes e in
          let back = (search_read_back e).0 in
          let place = back.place_read in
          let ones = back.ones_read in
          record {
            matches = rw place (ap (λ (x : Route). candidate x a) (sym taken.1) ∙ taken.2);
            ones = ones ∙ taken.3 ∙ ap (λ (x : Route). ones_of x.mask.0) taken.1 ∙ ap (λ (q : ℕ). ones_of (mask_at routes q)) (sym place);
            port = back.port_read ∙ ap (λ (x : Route). x.port) taken.1 ∙ ap (λ (q : ℕ). (route_at routes q).port) (sym place);
            most = λ q c. rw ones (taken_has_most_ones seat.board rs seat.number a e q c);
            only = λ q c k. taken_is_the_only seat.board rs seat.number a e q c (k ∙ ones) ∙ sym place;
          }

  -- a route with mask 0 has the prefix 0.0.0.0, and matches every address
  matches_all : (p : ℕ) → is_filled (route_at routes p) ≡ true → (route_at routes p).availability ≡ 1
      → mask_at routes p ≡ 0
      → CandidateAt a routes p
  matches_all p filled up mask =
      let r = route_at routes p in
      let inside = ((prefix_form r.prefix r.mask).0 (seen_taken seat.board rs seat.number p filled).1).2 in
      let none : (x : ℕ) → bit_and x r.mask.0 ≡ 0 = λ x. ap (bit_and x) mask ∙ and_zero_r x in
      (candidate_is r a).1 (filled, up, none a.0 ∙ sym (none r.prefix.0) ∙ inside)

  -- 0 ones is not no: the route 0.0.0.0 with mask 0, where it is up, is found, with 0 ones, by every address that no other route that is up matches.
  pub no_ones_is_found : (p : ℕ) → is_filled (route_at routes p) ≡ true → (route_at routes p).availability ≡ 1
      → mask_at routes p ≡ 0
      → ((q : ℕ) → CandidateAt a routes q → q ≡ p)
      → Named (search_answer sees a) p 0 (route_at routes p).port
  no_ones_is_found p filled up mask alone =
      let found =
      search_is a routes p (matches_all p filled up mask)
      (λ q c. let e = alone q c in rw e (omega arith)) (λ q l c. let e = alone q c in absurd (omega arith))
      in
      let ones : ones_of (mask_at routes p) ≡ 0 = ap ones_of mask ∙ mask_ones 0 (omega arith) in
      subst (λ (n : ℕ). Named (search_answer sees a) p n (route_at routes p).port) ones (search_read_back found).0

  -- All in one: 0 exactly where no route that is up matches, else the entry with most ones.
  pub search_names_the_longest : LongestOrNo sees a (search_answer sees a)
  search_names_the_longest = record { no = zero_is_no sees a; named = told; longest = λ h. names_the_longest (told h).found }
    where
      by_answer : (f : Option Found) → search_of a routes ≡ f → (search_answer sees a ≡ 0 → ⊥)
          → Told (search_answer sees a)
      by_answer None e h = absurd (h (no_is_zero sees a e))
      by_answer (Some top) e h =
          let back = (search_read_back e).0 in
          record { refusal = back.refusal; found = back.found; place_read = refl; ones_read = refl; port_read = refl; above = back.above }

      told : (search_answer sees a ≡ 0 → ⊥) → Told (search_answer sees a)
      told = by_answer (search_of a routes) refl
