-- What C reads of the answer of hj_search, by the accessors of include/harpjuniper.h: page 02, W-202 ("the place number and its count of mask ones as well,
-- and for no match a plain no"). Assumes nothing.
use Rattle.std.specs.Prelude.{ℕ, ◌/◌, ◌%◌, ◌^◌, ◌≤◌, ◌≡◌, ◌↔◌, true, false, List}
use Rattle.address.specs.Mask.{ones_of}
use Rattle.address.specs.declared.Address.{Address}
use Rattle.routes.specs.Routes.{route_at, candidate}
use Rattle.routes.specs.declared.Route.{Route}
use Rattle.state.specs.Relay.{Relay, route_in}
use Rattle.answers.specs.Answers.{part_at}

-- ---- the accessors: hj_found_refusal, hj_is_found, hj_found_place, hj_found_ones and hj_found_port
abbrev pub found_refusal : ℕ → ℕ
found_refusal n = part_at 0 n

abbrev pub is_found : ℕ → ℕ
is_found n = part_at 8 n

abbrev pub found_place : ℕ → ℕ
found_place n = n / 2 ^ 16 % 2 ^ 16

abbrev pub found_ones : ℕ → ℕ
found_ones n = part_at 32 n

abbrev pub found_port : ℕ → ℕ
found_port n = part_at 40 n

-- an entry is named by its place, its ones and its port
pub record Named (n place ones port : ℕ) : Type 0 where
  pub refusal : found_refusal n ≡ 0
  pub found : is_found n ≡ 1
  pub place_read : found_place n ≡ place
  pub ones_read : found_ones n ≡ ones
  pub port_read : found_port n ≡ port
  -- the sixteen bits above are 0
  pub above : n / 2 ^ 48 ≡ 0

-- page 01, "Onward half" ("the route with most mask ones among all that match"), of those that are up (page 02, W-204): the entry that n names is that one
pub record Longest (a : Address) (rs : List Route) (n : ℕ) : Type 0 where
  -- its place holds a route that is filled, up and a match, with these ones and this port;
  pub matches : candidate (route_at rs (found_place n)) a ≡ true
  pub ones : found_ones n ≡ ones_of (route_at rs (found_place n)).mask.0
  pub port : found_port n ≡ (route_at rs (found_place n)).port
  -- no such route has more ones, and none other has as many
  pub most : (q : ℕ) → candidate (route_at rs q) a ≡ true → ones_of (route_at rs q).mask.0 ≤ found_ones n
  pub only : (q : ℕ) → candidate (route_at rs q) a ≡ true → ones_of (route_at rs q).mask.0 ≡ found_ones n → q ≡ found_place n

-- all that n says of an address
pub record LongestOrNo (r : Relay) (a : Address) (n : ℕ) : Type 0 where
  -- "for no match a plain no": n is 0 throughout, exactly where no place holds a route that is filled, up and a match;
  pub no : (n ≡ 0) ↔ ((q : ℕ) → candidate (route_in r q) a ≡ false)
  -- else n names an entry, which is the longest
  pub named : (n ≡ 0 → ⊥) → Named n (found_place n) (found_ones n) (found_port n)
  pub longest : (n ≡ 0 → ⊥) → Longest a r.routes n
