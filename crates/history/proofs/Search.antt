-- Demand 2, the route taken, whatever board and list are lent: of the routes that a mission sees, no matching entry that is up has more mask ones, and
-- none other has as many. What else the search answers holds of any list of routes, and stands in crate routes. Assumes nothing.
use Prim.Native.Nat.{ℕ, ◌≤◌}
use mathlib.Core.Path.{◌≡◌}
use mathlib.Core.List.{List}
use Rattle.address.specs.Mask.{ones_of}
use Rattle.address.specs.declared.Address.{Address}
use Rattle.routes.specs.Search.{found_route, search_of}
use Rattle.routes.specs.declared.Record.{Record}
use Rattle.routes.specs.declared.Route.{Route}
use Rattle.routes.proofs.Longest.{mask_at, CandidateAt, search_most_ones, search_only}
use Rattle.state.specs.Seen.{Board}
use Rattle.listing.specs.Listed.{routes_seen}
use Rattle.listing.proofs.Counting.{seen_contiguous, seen_distinct}

module _ (b : Board) (rs : List Record) (n : ℕ) (a : Address) {p k : ℕ} {r : Route} (found : search_of a (routes_seen b n rs) ≡ found_route p k r) where
  -- No matching entry that is up has more mask ones than the route taken.
  pub taken_has_most_ones : (q : ℕ) → CandidateAt a (routes_seen b n rs) q → ones_of (mask_at (routes_seen b n rs) q) ≤ k
  taken_has_most_ones = search_most_ones a (routes_seen b n rs) (seen_contiguous b rs n) found

  -- And none other has as many: the answer is unique.
  pub taken_is_the_only : (q : ℕ) → CandidateAt a (routes_seen b n rs) q → ones_of (mask_at (routes_seen b n rs) q) ≡ k → q ≡ p
  taken_is_the_only = search_only a (routes_seen b n rs) (seen_contiguous b rs n) (seen_distinct b rs n) found
