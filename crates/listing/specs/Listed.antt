-- The list of routes as a mission sees it: page 02, W-208 ("Each route says which mission may use it"; "A route with the other mission's port is
-- refused by 24"). A list is lent at each call and may hold anything: a record that the rules refuse counts as empty, for every purpose, and of two
-- records that hold the same entry the lower place holds (docs/DECISIONS.md). Assumes nothing.
use Rattle.std.specs.Prelude.{ℕ, zero, suc, Bool, not, ◌&&◌, List, [], ◌∷◌, ◌++◌, eqb, length}
use Rattle.checks.specs.Order.{pick, Checks, first_of, Refusals, numbered}
use Rattle.checks.specs.declared.Refusal.TheVariants.{NoPlace, WrongMask, CodeOutOfRange}
use Rattle.sets.specs.Sets.{any_below}
use Rattle.records.specs.Owned.{is_mission}
use Rattle.routes.specs.declared.Record.{Record}
use Rattle.routes.specs.declared.Route.{Route}
use Rattle.routes.specs.Records.{record_at, route_of, is_record, same_key}
use Rattle.routes.specs.Routes.{empty_route}
use Rattle.routes.specs.Refusals.{prefix_refused, codes_refused}
use Rattle.settings.specs.Sets.{is_ready}
use Rattle.state.specs.Relay.{Relay, ready_of, all_routes}
use Rattle.state.specs.Seen.{Board, State, ports_seen, all_ports, seated}

-- ---- one record
-- what refuses it, by the sets of the ports that are set up and of those that its mission has: "port number, or port not set up"; "mask or prefix
-- bits"; "code out of range", a mission's number and the other mission's port among these
abbrev pub refusals_of : Record → ℕ → ℕ → Refusals
refusals_of x ready own =
    (not (is_ready x.port ready), NoPlace)
    ∷ (prefix_refused (record { 0 = x.prefix }) (record { 0 = x.mask }), WrongMask)
    ∷ (codes_refused x.availability x.capabilities, CodeOutOfRange)
    ∷ (not (is_mission x.mission), CodeOutOfRange)
    ∷ (not (is_ready x.port own), CodeOutOfRange)
    ∷ []

abbrev pub checks_of : Record → ℕ → ℕ → Checks
checks_of x ready own = numbered (refusals_of x ready own)

-- judged by the board's ports
abbrev pub record_checks : Board → Record → Checks
record_checks b x = checks_of x (ready_of (all_ports b)) (ready_of (ports_seen x.mission b))

-- filled, and refused by none of these
unfoldable pub stands : Board → Record → Bool
stands b x = is_record x && eqb (first_of (record_checks b x)) 0

-- ---- the list
-- place j holds the entry of x, and is not refused
abbrev pub stands_as : Board → List Record → Record → ℕ → Bool
stands_as b rs x j = stands b (record_at rs j) && same_key (record_at rs j) x

-- place i counts: no lower place holds the same entry. A refused lower record hides nothing.
unfoldable pub counts : Board → List Record → ℕ → Bool
counts b rs i = stands b (record_at rs i) && not (any_below (stands_as b rs (record_at rs i)) i)

-- what mission n sees at place i
unfoldable pub seen_route : Board → ℕ → List Record → ℕ → Route
seen_route b n rs i = pick (counts b rs i && eqb (record_at rs i).mission n) (route_of (record_at rs i)) empty_route

-- the first n of a function's values
abbrev pub tabulated : {A : Type 0} → (ℕ → A) → ℕ → List A
tabulated f zero = []
tabulated f (suc n) = tabulated f n ++ (f n ∷ [])

unfoldable pub routes_seen : Board → ℕ → List Record → List Route
routes_seen b n rs = tabulated (seen_route b n rs) (length rs)

-- page 01's relay, as a mission sees it where this list is lent
abbrev pub seen : Board → State → List Record → Relay
seen b s rs = all_routes (seated b s) (routes_seen b s.number rs)

-- ---- writing: 23 looks at the list as it stands before
unfoldable pub elsewhere : Board → List Record → ℕ → Record → Bool
elsewhere b rs i x = any_below (λ (j : ℕ). not (eqb j i) && (counts b rs j && same_key (record_at rs j) x)) (length rs)
