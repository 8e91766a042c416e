-- In every state that a history reaches, and whatever list is lent, the ports wanted for a datagram are set up and the mission's, and so those granted. Assumes nothing.
use Rattle.std.specs.Prelude.{Option, Some, None}
use native.Mathlib.Omega.{arith}
use native.Mathlib.Nat.{eq-or-lt_of_le}
use Prim.Native.Nat.{ℕ, zero, suc, ◌≤◌, ◌<◌}
use mathlib.Core.Path.{◌≡◌, refl, sym, ap, ◌∙◌}
use mathlib.Core.Bool.{Bool, true, false, not, ◌&&◌}
use mathlib.Core.Logic.{⊎_elim}
use mathlib.Core.List.{List}
use lib.Dec.{eqb, ltb}
use borrow.Author.Tests.{ltb-true}
use Rattle.std.proofs.Common.{Option, Some, None}
use Rattle.checks.specs.Order.{pick}
use Rattle.checks.proofs.Bools.{true_false, and_true, or_false, and_not_false}
use Rattle.sets.specs.Sets.{in_set}
use Rattle.sets.proofs.First.{first_holds}
use Rattle.settings.specs.Sets.{is_ready, names_other, set_refused}
use Rattle.address.specs.declared.Address.{Address}
use Rattle.address.specs.declared.PathAddress.{PathAddress}
use Rattle.records.specs.Held.{holds_group, holds_path}
use Rattle.lookup.specs.Lookup.{group_found, path_found, group_says, path_says, group_place, path_place}
use Rattle.routes.specs.Routes.{is_filled}
use Rattle.routes.proofs.Candidates.{candidate_is}
use Rattle.routes.specs.Search.{Found, search_of}
use Rattle.routes.specs.declared.Record.{Record}
use Rattle.routes.specs.declared.Route.{Route}
use Rattle.routes.proofs.Longest.{search_found}
use Rattle.records.specs.SetUp.{is_set_up}
use Rattle.listing.proofs.Counting.{seen_taken}
use Rattle.refusals.specs.Ready.{ready_set}
use Rattle.lookup.specs.ForTarget.{way_of, place_for, way_for}
use Rattle.state.specs.Relay.{Relay, port_in, group_in, path_in}
use Rattle.survey.specs.Survey.{survey_below, survey_of}
use Rattle.survey.specs.declared.Sought.{Sought}
use Rattle.verdict.specs.Rule.{except_by, alone_by, group_line, path_line, route_line, router_line, unheard_by, host_line, plain_line, flood_line, line_of}
use Rattle.verdict.specs.declared.Target.{Target}
use Rattle.verdict.specs.declared.Target.TheVariants as target
use Rattle.verdict.specs.declared.Flood.{Flood}
use Rattle.verdict.specs.declared.Flood.TheVariants.{Plain, Unsent, Full, New}
use Rattle.verdict.specs.declared.Case.{Case}
use Rattle.verdict.specs.declared.Local.{Local}
use Rattle.verdict.specs.declared.Local.TheVariants.{No, Delivered, Unknown}
use Rattle.verdict.specs.declared.Obstacle.TheVariants.{NoRoute}
use Rattle.verdict.specs.declared.Wish.{Wish}
use Rattle.verdict.specs.declared.Wish.TheVariants.{NotAsked, Refused, Wanted}
use Rattle.verdict.specs.declared.Place.{Place}
use Rattle.verdict.specs.declared.Way.{Way}
use Rattle.history.specs.Seat.{Seat, relay_with}
use Rattle.history.specs.Calls.{Call}
use Rattle.history.specs.Outcome.{seat_after}
use Rattle.history.proofs.Ports.{ready_is}
use Rattle.history.proofs.Reach.{Kept, kept_after}
use Rattle.survey.proofs.Bits.{in_except, in_gathered, only_that}

-- ---- a set that is not refused names ports that are ready
names_ready : (k s ready p : ℕ) → names_other k s ready ≡ false → p < k → in_set p s ≡ true → is_ready p ready ≡ true
unfolding names_other
names_ready zero s ready p h l m = absurd (omega arith)
names_ready (suc k) s ready p h l m =
    let both = or_false (in_set k s && not (is_ready k ready)) (names_other k s ready) h in
    ⊎_elim
    (λ (e : p ≡ k). and_not_false (in_set p s) (is_ready p ready) (rw e both.0) m)
    (λ (z : p < k). names_ready k s ready p both.1 z m)
    (eq-or-lt_of_le (let e : p ≤ k = omega arith in e))

pub set_ready : (s ready p : ℕ) → set_refused s ready ≡ false → p < 8 → in_set p s ≡ true → is_ready p ready ≡ true
unfolding set_refused
set_ready s ready p h l m = names_ready 32 s ready p h (omega arith) m

-- ---- what is wanted is set up
module _ (seat : Seat) (k : Kept seat) (rs : List Record) (p : ℕ) (inside : p < 8) where
  abbrev r : Relay
  r = relay_with seat rs

  ready_set_up : is_ready p (ready_set r) ≡ true → is_set_up (port_in r p) ≡ true
  ready_set_up h = sym (ready_is r p inside) ∙ h

  except_in : (g f : ℕ) → in_set p (except_by g f) ≡ true → in_set p g ≡ true
  except_in g f h = (and_true (in_set p g) (not (in_set p f)) (sym (in_except p g f) ∙ h)).0

  -- what a place may send to
  abbrev Good : Option Place → Type 0
  Good None = Unit
  Good (Some place) = in_set p place.send ≡ true → is_set_up (port_in r p) ≡ true

  abbrev GoodWay : Option Way → Type 0
  GoodWay None = Unit
  GoodWay (Some way) = in_set p way.port ≡ true → is_set_up (port_in r p) ≡ true

  pick_good : (t : Bool) (a b : Option Place) → (t ≡ true → Good a) → Good b → Good (pick t a b)
  pick_good true a b f g = f refl
  pick_good false a b f g = g

  group_good : (a : Address) (arrival : ℕ) → Good (group_place r a arrival)
  unfolding group_place
  group_good a arrival =
      let i = group_found r a in
      pick_good (ltb i 16) (group_says (group_in r i) arrival) None
      (λ t m.
      let l = ltb-true i 16 t in
      let filled = (and_true (not (eqb (group_in r i).filled 0)) (eqb (group_in r i).address.0 a.0) (first_holds (λ (j : ℕ). holds_group (group_in r j) a) 16 l)).0 in
      ready_set_up (set_ready (group_in r i).send (ready_set r) p (k.mission.groups_good i l filled).1.0 inside m))
      tt

  path_good : (x : PathAddress) → Good (path_place r x)
  unfolding path_place
  path_good x =
      let i = path_found r x in
      pick_good (ltb i 16) (path_says (path_in r i)) None
      (λ t m.
      let l = ltb-true i 16 t in
      let filled = (and_true (not (eqb (path_in r i).filled 0)) (eqb (path_in r i).path.0 x.0) (first_holds (λ (j : ℕ). holds_path (path_in r j) x) 16 l)).0 in
      ready_set_up (set_ready (path_in r i).send (ready_set r) p (k.mission.paths_good i l filled).1 inside m))
      tt

  found_good : (a : Address) (f : Option Found) → search_of a r.routes ≡ f → GoodWay (way_of f)
  found_good a None e = tt
  found_good a (Some top) e =
      λ m.
      let found = search_found a r.routes e in
      let held = found.1 in
      let filled = ((candidate_is top.route a).0 found.2).0 in
      let good = seen_taken seat.board rs seat.number top.place (sym (ap is_filled held) ∙ filled) in
      let ready : is_ready top.route.port (ready_set r) ≡ true = ap (λ (y : Route). is_ready y.port (ready_set r)) held ∙ good.0 in
      let port = ltb-true top.route.port 8 (and_true (ltb top.route.port 8) (in_set top.route.port (ready_set r)) ready).0 in
      ready_set_up (ap (λ (q : ℕ). is_ready q (ready_set r)) (only_that p top.route.port port m) ∙ ready)

  -- the lines
  abbrev GoodLine : Wish → Type 0
  GoodLine NotAsked = Unit
  GoodLine (Refused n) = Unit
  GoodLine (Wanted g) = in_set p g ≡ true → is_set_up (port_in r p) ≡ true

  pick_line : (t : Bool) (a b : Wish) → GoodLine a → GoodLine b → GoodLine (pick t a b)
  pick_line true a b f g = f
  pick_line false a b f g = g

  group_line_lem : (x : Option Place) (arrival others : ℕ) → Good x → GoodLine (group_line x arrival others)
  unfolding group_line
  group_line_lem None arrival others g = tt
  group_line_lem (Some place) arrival others g =
      pick_line (alone_by place.here others) NotAsked _ tt
      (pick_line (eqb (except_by place.send arrival) 0) (Refused NoRoute) (Wanted (except_by place.send arrival)) tt (λ m. g (except_in place.send arrival m)))

  path_line_lem : (x : Option Place) (arrival : ℕ) → Good x → GoodLine (path_line x arrival)
  unfolding path_line
  path_line_lem None arrival g = tt
  path_line_lem (Some place) arrival g =
      pick_line (not (eqb (except_by place.send arrival) 0)) (Wanted (except_by place.send arrival)) _ (λ m. g (except_in place.send arrival m))
      (pick_line (not (eqb place.here 0)) NotAsked (Refused NoRoute) tt tt)

  route_line_lem : (w : Option Way) → GoodWay w → GoodLine (route_line w)
  unfolding route_line
  route_line_lem None g = tt
  route_line_lem (Some way) g = g

  unheard_line : (local : Local) → GoodLine (unheard_by local)
  unheard_line No = tt
  unheard_line Delivered = tt
  unheard_line Unknown = tt

  host_line_lem : (t : Target) (local : Local) → GoodLine (host_line t local)
  host_line_lem target.Here local = tt
  host_line_lem target.Broadcast local = unheard_line local
  host_line_lem target.Group local = unheard_line local
  host_line_lem target.Path local = unheard_line local
  host_line_lem target.Route local = unheard_line local

  survey_ready : (d : Option Address) (q : Sought) → in_set p (survey_of r d q).ready ≡ true → is_set_up (port_in r p) ≡ true
  unfolding survey_below
  survey_ready d q h =
      (and_true (is_set_up (port_in r p)) true (sym (in_gathered (λ (i : ℕ). is_set_up (port_in r i) && true) p 8 inside) ∙ h)).0

  router_line_lem : (t : Target) (x : Option Place) (w : Option Way) (arrival : ℕ) (d : Option Address) (q : Sought) → Good x → GoodWay w → GoodLine (router_line t x w arrival (survey_of r d q).ready)
  router_line_lem target.Here x w arrival d q g h = tt
  router_line_lem target.Broadcast x w arrival d q g h =
      let ready = (survey_of r d q).ready in
      pick_line (eqb (except_by ready arrival) 0) NotAsked (Wanted (except_by ready arrival)) tt (λ m. survey_ready d q (except_in ready arrival m))
  router_line_lem target.Group x w arrival d q g h = group_line_lem x arrival (except_by (survey_of r d q).ready arrival) g
  router_line_lem target.Path x w arrival d q g h = path_line_lem x arrival g
  router_line_lem target.Route x w arrival d q g h = route_line_lem w h

  -- a flood wants ports that are set up, or what the line wants
  flood_line_lem : (f : Flood) (arrival : ℕ) (d : Option Address) (q : Sought) (l : Wish) → GoodLine l → GoodLine (flood_line f (except_by (survey_of r d q).ready arrival) l)
  flood_line_lem Plain arrival d q l g = g
  flood_line_lem Unsent arrival d q l g = tt
  flood_line_lem Full arrival d q l g = tt
  flood_line_lem (New place) arrival d q l g =
      let ready = (survey_of r d q).ready in
      pick_line (eqb (except_by ready arrival) 0) (Refused NoRoute) (Wanted (except_by ready arrival)) tt (λ m. survey_ready d q (except_in ready arrival m))

  line_good : (t : Target) (x : Option Place) (w : Option Way) (c : Case) (d : Option Address) (q : Sought) (local : Local) → Good x → GoodWay w → GoodLine (line_of t x w c (survey_of r d q).ready local)
  unfolding line_of plain_line
  line_good t x w c d q local g h =
      flood_line_lem c.flood c.arrival d q _ (pick_line (eqb c.router 0) _ _ (host_line_lem t local) (router_line_lem t x w c.arrival d q g h))

  place_good : (t : Target) (a : Address) (arrival : ℕ) → Good (place_for r t a arrival)
  place_good target.Here a arrival = tt
  place_good target.Broadcast a arrival = tt
  place_good target.Group a arrival = group_good a arrival
  place_good target.Path a arrival = tt
  place_good target.Route a arrival = tt

  way_good : (t : Target) (a : Address) → GoodWay (way_for r t a)
  way_good target.Here a = tt
  way_good target.Broadcast a = tt
  way_good target.Group a = tt
  way_good target.Path a = tt
  way_good target.Route a = found_good a (search_of a r.routes) refl

  wanted_is : (l : Wish) (g : ℕ) → GoodLine l → l ≡ Wanted g → in_set p g ≡ true → is_set_up (port_in r p) ≡ true
  wanted_is NotAsked g h e m = true_false cc
  wanted_is (Refused n) g h e m = true_false cc
  wanted_is (Wanted s) g h e m = h (rw (let z : s ≡ g = cc in z) m)

-- After any history each port that is wanted for a datagram to an end system or a group is set up, ..
module _ (m : ℕ) (cs : List Call) (rs : List Record) where
  abbrev sees : Relay
  sees = relay_with (seat_after m cs) rs

  pub wanted_is_set_up : (p : ℕ) → p < 8 → (t : Target) (a : Address) (c : Case) (d : Option Address) (q : Sought) (local : Local) (g : ℕ)
      → line_of t (place_for sees t a c.arrival) (way_for sees t a) c (survey_of sees d q).ready local ≡ Wanted g
      → in_set p g ≡ true
      → is_set_up (port_in sees p) ≡ true
  wanted_is_set_up p inside t a c d q local g =
      let seat = seat_after m cs in
      let k = kept_after m cs in
      wanted_is seat k rs p inside _ g
      (line_good seat k rs p inside t (place_for sees t a c.arrival) (way_for sees t a) c d q local (place_good seat k rs p inside t a c.arrival)
      (way_good seat k rs p inside t a))

  -- .. and each that is wanted for one on a path.
  pub wanted_on_path_is_set_up : (p : ℕ) → p < 8 → (x : PathAddress) (c : Case) (d : Option Address) (q : Sought) (local : Local) (g : ℕ)
      → line_of target.Path (path_place sees x) None c (survey_of sees d q).ready local ≡ Wanted g
      → in_set p g ≡ true
      → is_set_up (port_in sees p) ≡ true
  wanted_on_path_is_set_up p inside x c d q local g =
      let seat = seat_after m cs in
      let k = kept_after m cs in
      wanted_is seat k rs p inside _ g (line_good seat k rs p inside target.Path (path_place sees x) None c d q local (path_good seat k rs p inside x) tt)
