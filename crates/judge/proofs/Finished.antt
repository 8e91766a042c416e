-- Judging, searching and finishing give the ending: what is looked up by itself, and in parts, is what the definition of the whole looks up. Assumes
-- nothing.
use Rattle.std.specs.Prelude.{Option, None}
use native.Mathlib.Omega.{arith}
use Prim.Native.Nat.{ℕ}
use mathlib.Core.Path.{◌≡◌, refl, sym, ap, ◌∙◌}
use mathlib.Core.Bool.{Bool, true, false, not, ◌&&◌}
use mathlib.Core.List.{List}
use lib.Dec.{eqb}
use Rattle.std.proofs.Common.{Option, Some, None}
use Rattle.checks.specs.Order.{pick, first_of}
use Rattle.address.specs.Class.{class_of}
use borrow.Author.Tests.{eq-eqb, ne_eqb, eqb-true}
use Rattle.checks.proofs.Bools.{true_false}
use Rattle.checks.proofs.Laws.{zero_none}
use Rattle.address.specs.declared.Address.{Address}
use Rattle.address.specs.declared.PathAddress.{PathAddress}
use Rattle.header.specs.Read.{read_of}
use Rattle.header.specs.declared.Fields.{Fields}
use Rattle.header.specs.declared.Header.{Header}
use Rattle.header.specs.Onward.{found_of, Found}
use Rattle.header.specs.declared.Renewal.{Renewal}
use Rattle.checks.specs.Told.{Good, Refused}
use Rattle.header.proofs.FoundLaws.{found_good, found_refused}
use Rattle.header.proofs.Refusals.{never_zero}
use Rattle.meaning.specs.Names.{aim_of, bad_aim}
use Rattle.meaning.specs.Flood.{is_flooded}
use Rattle.meaning.specs.Arrival.{arrival_checks}
use Rattle.meaning.specs.Asked.{precedence_asked}
use Rattle.meaning.specs.declared.Aim.{Aim}
use Rattle.meaning.specs.declared.Aim.TheVariants as aim
use Rattle.routes.specs.Search.{search_of}
use Rattle.routes.specs.declared.Route.{Route}
use Rattle.state.specs.Relay.{Memory, Relay, all_routes}
use Rattle.floods.specs.Memory.{flood_of}
use Rattle.survey.specs.Survey.{named_below, named_of, survey_below, survey_of}
use Rattle.survey.specs.declared.Sought.{Sought}
use Rattle.next_leg.specs.Leg.{legs_of}
use Rattle.next_leg.specs.declared.Leg.{Leg}
use Rattle.lookup.specs.Lookup.{group_place, path_place}
use Rattle.lookup.specs.ForTarget.{place_for, way_for, way_of}
use Rattle.verdict.specs.Rule.{target_of, local_of, except_by, router_line, host_line, plain_line, flood_line, line_of, way_under, code_of}
use Rattle.verdict.specs.declared.Target.{Target}
use Rattle.verdict.specs.declared.Target.TheVariants as target
use Rattle.verdict.specs.declared.Place.{Place}
use Rattle.verdict.specs.declared.Way.{Way}
use Rattle.verdict.specs.declared.Wish.{Wish}
use Rattle.verdict.specs.declared.Flood.{Flood}
use Rattle.verdict.specs.declared.Flood.TheVariants.{Plain, Unsent, Full, New}
use Rattle.verdict.specs.declared.Case.{Case}
use Rattle.verdict.specs.declared.Local.{Local}
use Rattle.verdict.specs.declared.Survey.{Survey}
use Rattle.verdict.specs.declared.Ruling.{Ruling}
use Rattle.judge.specs.Ruling.{case_of, sought_of, target_asked, flood_for, leg_for, survey_for, ruled_by, rule_target, rule_of, legs_for}
use Rattle.judge.specs.Ending.{or_else, refused_by, call_checks, arrival_at, ruled_ending, header_ending, octets_ending, ending_of}
use Rattle.judge.specs.Asked.{unless_flood, route_sought, searched_in, address_in, refused_asked, else_asked, node_asked, path_asked, aim_asked, carried_asked, octets_asked, datagram_asked, leg_asked, wished_of, ruled_asked, finished_of}
use Rattle.judge.specs.declared.ruling.Arrival.{Arrival}
use Rattle.judge.specs.declared.Asked.{Asked}
use Rattle.judge.specs.declared.finishing.Ruled.{Ruled}
use Rattle.judge.specs.declared.Ending.{Ending}

-- ---- a line that does not ask for the route, or for the ports set up
route_line_lem : (c : Case) (p : Option Place) (w v : Option Way) (ready : ℕ) (local : Local)
    → (route_sought target.Route c.router ≡ true → w ≡ v) → plain_line target.Route p w c ready local ≡ plain_line target.Route p v c ready local
unfolding plain_line
route_line_lem c p w v ready local same = by_router (eqb c.router 0) same
  where
    by_router : (host : Bool) → (not host ≡ true → w ≡ v)
        → pick host (host_line target.Route local) (router_line target.Route p w c.arrival ready) ≡ pick host (host_line target.Route local) (router_line target.Route p v c.arrival ready)
    by_router true h = refl
    by_router false h = rw (h refl)

plain_way : (t : Target) (c : Case) (p : Option Place) (w v : Option Way) (ready : ℕ) (local : Local)
    → (route_sought t c.router ≡ true → w ≡ v) → plain_line t p w c ready local ≡ plain_line t p v c ready local
unfolding plain_line
plain_way target.Here c p w v ready local same = refl
plain_way target.Broadcast c p w v ready local same = refl
plain_way target.Group c p w v ready local same = refl
plain_way target.Path c p w v ready local same = refl
plain_way target.Route c p w v ready local same = route_line_lem c p w v ready local same

-- and a flood asks for no route
line_way : (t : Target) (c : Case) (p : Option Place) (w v : Option Way) (ready : ℕ) (local : Local)
    → (unless_flood c.flood (route_sought t c.router) ≡ true → w ≡ v) → line_of t p w c ready local ≡ line_of t p v c ready local
unfolding line_of
line_way t c p w v ready local same = by_flood c.flood same
  where
    by_flood : (f : Flood) → (unless_flood f (route_sought t c.router) ≡ true → w ≡ v)
        → flood_line f (except_by ready c.arrival) (plain_line t p w c ready local) ≡ flood_line f (except_by ready c.arrival) (plain_line t p v c ready local)
    by_flood Plain h = plain_way t c p w v ready local h
    by_flood Unsent h = refl
    by_flood Full h = refl
    by_flood (New place) h = refl

-- a path is never flooded
path_plain : (router : ℕ) (k : Memory) (port : ℕ) (f : Fields) → flood_of router target.Path k port f ≡ Plain
unfolding flood_of
path_plain router k port f = by_flood (is_flooded f && not (eqb router 0))
  where
    by_flood : (t : Bool) → pick t Plain Plain ≡ Plain
    by_flood true = refl
    by_flood false = refl

-- the ruling and the headers, by what was looked up and by what the definition of the whole looks up
wished_ruled : (r : Relay) (d : Option Address) (l : Leg) (c : Case) (t : Target) (p : Option Place) (w v : Option Way) (ready : ℕ) (s : Survey)
    → s ≡ survey_of r d (sought_of l) → ready ≡ s.ready → (unless_flood c.flood (route_sought t c.router) ≡ true → w ≡ v)
    → wished_of r d (local_of t p c) (line_of t p w c ready (local_of t p c)) c l
    ≡ record { ruling = ruled_by t p v c s; legs = legs_of (ruled_by t p v c s).took s.domain l }
unfolding wished_of ruled_by
wished_ruled r d l c t p w v ready s es er h = let line = line_way t c p w v ready (local_of t p c) h in cc

either_zero : (t : Bool) → ◌≡◌ {A = ℕ} (pick t 0 0) 0
either_zero true = refl
either_zero false = refl

-- a number that refuses is not 0
refused_some : (s : List ℕ) (n : ℕ) → read_of s ≡ Refused n → eqb n 0 ≡ false
refused_some s n e = ne_eqb n 0 (λ z. never_zero s (e ∙ ap Refused z))

-- an ending that is no refusal
abbrev ended : ℕ → ℕ → Ruled → Ending
ended size precedence x = record { refusal = 0; ruling = x.ruling; precedence = precedence; size = size; legs = x.legs }

pub finish_told : (r : Relay) (a : Asked) (w : Option Way) {local : Local} {wish : Wish} {code : ℕ} {x : Ruled}
    → a.refusal ≡ 0
    → local ≡ local_of a.target a.place a.case
    → wish ≡ line_of a.target a.place w a.case a.ready local
    → code ≡ code_of w
    → ((d : Option Address) → x ≡ wished_of r d local wish a.case (record { arrival = a.arrival; code = code; header = a.header }))
    → ◌≡◌ {A = Ending} (ended a.header.size a.precedence x) (finished_of r a w)
unfolding finished_of ruled_asked
finish_told r a w zero e1 e2 e3 e4 = let e = e4 a.destination in simp (eq-eqb a.refusal 0 zero) cc

-- ---- one datagram
module _ (r : Relay) (rs : List Route) (number : ℕ) (w : Option Way) where
  abbrev full : Relay
  full = all_routes r rs

  -- what the search has to have answered for what is asked, and that nothing was found where nothing was asked
  abbrev Searched : Asked → Type 0
  Searched a =
      (searched_in a ≡ true → w ≡ way_of (search_of (record { 0 = address_in a.destination }) rs)) × (searched_in a ≡ false → w ≡ None)

  -- the routes are no part of what else is looked up
  place_same : (t : Target) (a : Address) (arrival : ℕ) → place_for full t a arrival ≡ place_for r t a arrival
  unfolding group_place
  place_same target.Here a arrival = refl
  place_same target.Broadcast a arrival = refl
  place_same target.Group a arrival = refl
  place_same target.Path a arrival = refl
  place_same target.Route a arrival = refl

  survey_same : (d : Option Address) (q : Sought) → survey_of full d q ≡ survey_of r d q
  unfolding survey_below
  survey_same d q = refl

  -- what is not sought without a flood is not sought with one
  none_sought : (f : Flood) → unless_flood f false ≡ false
  none_sought Plain = refl
  none_sought Unsent = refl
  none_sought Full = refl
  none_sought (New place) = refl

  unsought : (f : Flood) {X : Type 0} → unless_flood f false ≡ true → X
  unsought f e = true_false (sym e ∙ none_sought f)

  way_sought : (f : Flood) (t : Target) (a : Address) (router : ℕ) → (unless_flood f (route_sought t router) ≡ true → w ≡ way_of (search_of a rs))
      → unless_flood f (route_sought t router) ≡ true → w ≡ way_for full t a
  way_sought f target.Here a router h is = unsought f is
  way_sought f target.Broadcast a router h is = unsought f is
  way_sought f target.Group a router h is = unsought f is
  way_sought f target.Path a router h is = unsought f is
  way_sought f target.Route a router h is = h is

  -- and what it asks for: on a host, and by a line that asks for no route, nothing
  plain_code : (t : Target) (a : Address) (router : ℕ) → (route_sought t router ≡ true → w ≡ way_of (search_of a rs)) → (route_sought t router ≡ false → w ≡ None)
      → code_of w ≡ pick (eqb router 0) 0 (code_of (way_for full t a))
  plain_code target.Here a router h none = ap code_of (none refl) ∙ sym (either_zero (eqb router 0))
  plain_code target.Broadcast a router h none = ap code_of (none refl) ∙ sym (either_zero (eqb router 0))
  plain_code target.Group a router h none = ap code_of (none refl) ∙ sym (either_zero (eqb router 0))
  plain_code target.Path a router h none = ap code_of (none refl) ∙ sym (either_zero (eqb router 0))
  plain_code target.Route a router h none = by_router (eqb router 0) h none
    where
      by_router : (host : Bool) → (not host ≡ true → w ≡ way_of (search_of a rs)) → (not host ≡ false → w ≡ None)
          → code_of w ≡ pick host 0 (code_of (way_of (search_of a rs)))
      by_router true h none = ap code_of (none refl)
      by_router false h none = ap code_of (h refl)

  code_sought : (f : Flood) (t : Target) (a : Address) (router : ℕ) → (unless_flood f (route_sought t router) ≡ true → w ≡ way_of (search_of a rs))
      → (unless_flood f (route_sought t router) ≡ false → w ≡ None) → code_of w ≡ pick (eqb router 0) 0 (code_of (way_under f (way_for full t a)))
  code_sought Plain t a router h none = plain_code t a router h none
  code_sought Unsent t a router h none = ap code_of (none refl) ∙ sym (either_zero (eqb router 0))
  code_sought Full t a router h none = ap code_of (none refl) ∙ sym (either_zero (eqb router 0))
  code_sought (New place) t a router h none = ap code_of (none refl) ∙ sym (either_zero (eqb router 0))

  refused_is : (n : ℕ) → eqb n 0 ≡ false → finished_of r (refused_asked n) w ≡ refused_by n
  unfolding finished_of
  refused_is n h = rw h

  -- a number that refuses, or what follows
  else_is : (n : ℕ) (a : Asked) (rest : Ending)
      → Searched (else_asked n a) → (eqb n 0 ≡ true → Searched a → finished_of r a w ≡ rest) → finished_of r (else_asked n a) w ≡ or_else n rest
  else_is n a rest k h = by_number (eqb n 0) refl k
    where
      by_number : (t : Bool) → eqb n 0 ≡ t → Searched (pick t a (refused_asked n)) → finished_of r (pick t a (refused_asked n)) w ≡ pick t rest (refused_by n)
      by_number true e j = h e j
      by_number false e j = refused_is n e

  module _ (at : Arrival) (h : Header) (n : Renewal) where
    abbrev surveyed : Aim → Survey
    surveyed x = survey_for full at x h

    target_same : (a : Address) → target_asked r a ≡ target_of (class_of a.0) (surveyed (aim.Node a))
    unfolding target_of named_below survey_below
    target_same a = refl

    ready_same : (a : Address) → (named_of r.ports a).ready ≡ (surveyed (aim.Node a)).ready
    unfolding named_below survey_below
    ready_same a = refl

    -- the leg by the route that was found is that of the whole
    leg_same : (a : Address) → Searched (node_asked r number at h n a)
        → leg_asked (node_asked r number at h n a) w ≡ leg_for full at (aim.Node a) h
    unfolding node_asked
    leg_same a k =
        ap (λ (c : ℕ). record { arrival = at.address; code = c; header = h }) (code_sought (flood_for r at (aim.Node a) h) (target_asked r a) a r.router k.0 k.1)

    node_ruled : (a : Address) → Searched (node_asked r number at h n a)
        → ruled_asked r (node_asked r number at h n a) w ≡ record { ruling = rule_of full at (aim.Node a) h; legs = legs_for full at (aim.Node a) h }
    unfolding ruled_asked node_asked rule_of rule_target legs_for
    node_ruled a k =
        let t = target_asked r a in
        let c = case_of r.router at.set h.fields (flood_for r at (aim.Node a) h) in
        let l = leg_for full at (aim.Node a) h in
        let s = surveyed (aim.Node a) in
        let u = target_of (class_of a.0) s in
        ap
        (λ (x : Leg). wished_of r (Some a) (local_of t (place_for r t a at.set) c)
        (line_of t (place_for r t a at.set) w c (named_of r.ports a).ready (local_of t (place_for r t a at.set) c)) c x)
        (leg_same a k)
        ∙ wished_ruled r (Some a) l c t (place_for r t a at.set) w (way_for full t a) (named_of r.ports a).ready s
        (survey_same (Some a) (sought_of l)) (ready_same a) (way_sought (flood_for r at (aim.Node a) h) t a r.router k.0)
        ∙ ap (λ (x : Ruling). record { ruling = x; legs = legs_of x.took s.domain l })
        (ap (λ (x : Target). ruled_by x (place_for r x a at.set) (way_for full x a) c s) (target_same a)
        ∙ ap (λ (x : Option Place). ruled_by u x (way_for full u a) c s) (sym (place_same u a at.set)))

    path_ruled : (p : PathAddress) → Searched (path_asked r number at h n p)
        → ruled_asked r (path_asked r number at h n p) w ≡ record { ruling = rule_of full at (aim.Path p) h; legs = legs_for full at (aim.Path p) h }
    unfolding ruled_asked wished_of path_asked rule_of legs_for ruled_by line_of plain_line path_place survey_below
    path_ruled p k =
        ap (λ (x : Option Way). ruled_asked r (path_asked r number at h n p) x) (k.1 (none_sought (flood_for r at (aim.Path p) h)))
        ∙ path-by (flood_for r at (aim.Path p) h) (path_plain r.router r.memory at.address.0 h.fields)
      where
        -- by what the pairs say, which of a path is nothing
        path-by : (f : Flood) → f ≡ Plain
            → wished_of r None (local_of target.Path (path_place r p) (case_of r.router at.set h.fields f))
            (line_of target.Path (path_place r p) None (case_of r.router at.set h.fields f) 0 (local_of target.Path (path_place r p) (case_of r.router at.set h.fields f)))
            (case_of r.router at.set h.fields f) (record { arrival = at.address; code = 0; header = h })
            ≡ record {
              ruling = ruled_by target.Path (path_place full p) None (case_of r.router at.set h.fields f) (surveyed (aim.Path p));
              legs = legs_of (ruled_by target.Path (path_place full p) None (case_of r.router at.set h.fields f) (surveyed (aim.Path p))).took
                  (surveyed (aim.Path p)).domain (leg_for full at (aim.Path p) h);
            }
        path-by f plain = rw plain

    aim_is : (x : Aim) → bad_aim x ≡ false → Searched (aim_asked r number at h n x)
        → finished_of r (aim_asked r number at h n x) w
        ≡ record { refusal = 0; ruling = rule_of full at x h; precedence = precedence_asked h.fields.qos; size = h.size; legs = legs_for full at x h }
    unfolding finished_of aim_asked node_asked path_asked
    aim_is (aim.Node a) g k = ap (ended h.size (precedence_asked h.fields.qos)) (node_ruled a k)
    aim_is (aim.Path p) g k = ap (ended h.size (precedence_asked h.fields.qos)) (path_ruled p k)
    aim_is aim.Uncarried g k = true_false g

    header_is : Searched (carried_asked r number at h n) → finished_of r (carried_asked r number at h n) w ≡ header_ending full at h
    unfolding carried_asked header_ending
    header_is k =
        let cs = arrival_checks at.address h.fields in
        let x = aim_of at.address.0 h.fields.addresses in
        else_is (first_of cs) (aim_asked r number at h n x) (ruled_ending full at h) k
        (λ zero j.
        let none = zero_none cs ((λ z. omega arith), ((λ z. omega arith), ((λ z. omega arith), ((λ z. omega arith), ((λ z. omega arith), tt))))) (eqb-true (first_of cs) 0 zero) in
        aim_is x none.1.1.0 j)

  octets_is : (at : Arrival) (s : List ℕ) (x : Found) → found_of s ≡ x → Searched (octets_asked r number at x)
      → finished_of r (octets_asked r number at x) w ≡ octets_ending full at (read_of s)
  octets_is at s (Good (h, n)) e k = rw (found_good s h n e).0 (header_is at h n k)
  octets_is at s (Refused n) e k = rw (found_refused s n e) (refused_is n (refused_some s n (found_refused s n e)))

  -- judged, searched and finished: the ending of the relay with these routes
  pub finished_is : (port second : ℕ) (octets : List ℕ) (room : ℕ) → Searched (datagram_asked r number port second octets room)
      → finished_of r (datagram_asked r number port second octets room) w ≡ ending_of full port second octets room
  unfolding datagram_asked ending_of call_checks
  finished_is port second octets room k =
      else_is (first_of (call_checks r port second room)) (octets_asked r number (arrival_at r port) (found_of octets))
      (octets_ending full (arrival_at full port) (read_of octets)) k
      (λ zero j. octets_is (arrival_at r port) octets (found_of octets) refl j)
