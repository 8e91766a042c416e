-- Both halves of the verdict, for whatever the destination names: receiving rules as the table says. Assumes nothing.
use Rattle.std.specs.Prelude.{Option, None}
use Prim.Native.Nat.{ℕ, ◌<◌}
use mathlib.Core.Path.{◌≡◌, refl, sym, ap, ap₂, subst, ◌∙◌}
use mathlib.Core.Bool.{Bool, true, false, not, ◌&&◌, ◌||◌, or-false, not-not}
use lib.Dec.{eqb}
use Rattle.checks.specs.Order.{pick, first_of}
use Rattle.checks.proofs.Bools.{true_false, refuted, and_true}
use Rattle.checks.proofs.Laws.{either}
use Rattle.sets.specs.Sets.{in_set, only_port}
use Rattle.sets.proofs.Anywhere.{any_is}
use Rattle.address.specs.Class.{class_of}
use Rattle.address.specs.declared.Address.{Address}
use Rattle.address.specs.declared.PathAddress.{PathAddress}
use Rattle.address.specs.declared.Class.{Class}
use Rattle.address.specs.declared.Class.TheVariants as class
use Rattle.header.specs.declared.Header.{Header}
use Rattle.meaning.specs.Flood.{is_flooded}
use Rattle.meaning.specs.Names.{bad_aim}
use Rattle.meaning.specs.declared.Aim.{Aim}
use Rattle.meaning.specs.declared.Aim.TheVariants.{Node, Path, Uncarried}
use Rattle.routes.specs.declared.Route.{Route}
use Rattle.state.specs.Relay.{Relay, port_in, group_in, path_in, port_set_up}
use Rattle.survey.specs.Survey.{named_below, survey_below}
use Rattle.survey.specs.declared.Sought.{Sought}
use Rattle.lookup.specs.Lookup.{group_found, path_found, group_says, path_says, group_place, path_place}
use Rattle.lookup.specs.ForTarget.{place_for, way_for}
use Rattle.verdict.specs.Numbers.{local_number}
use Rattle.verdict.specs.Rule.{except_by, granted_of, ruling_of, path_line, code_of, unheard_by, class_target, over_broadcast, target_of, here_by, ours_by, local_of, router_line, host_line, plain_line, flood_line, line_of, way_under}
use Rattle.verdict.specs.declared.Target.{Target}
use Rattle.verdict.specs.declared.Target.TheVariants as target
use Rattle.verdict.specs.declared.Place.{Place}
use Rattle.verdict.specs.declared.Way.{Way}
use Rattle.verdict.specs.declared.Flood.{Flood}
use Rattle.verdict.specs.declared.Flood.TheVariants.{Plain}
use Rattle.verdict.specs.declared.Case.{Case}
use Rattle.verdict.specs.declared.Survey.{Survey}
use Rattle.verdict.specs.declared.Local.{Local}
use Rattle.verdict.specs.declared.Wish.{Wish}
use Rattle.floods.specs.Memory.{flood_of}
use Rattle.judge.specs.Ruling.{case_of, sought_of, target_asked, flood_for, code_for, leg_for, survey_for, ruled_by, rule_target, rule_aim}
use Rattle.judge.specs.Ending.{arrival_at}
use Rattle.page.specs.Table.{some_port, without, nothing_but, destination_is, equals_port, is_limited, broadcast_of, broadcast_of_ours, is_multicast, has_group, has_path, is_subscribed, is_here, local_rows, some_matches, best_port, best_code, Line, not_asked, refused, wanted, is_host, other_ports, group_set, group_ports, pair_held, some_free, onward_line, halves, judged}
use Rattle.page.specs.Memory.{lowest_free}
use Rattle.page.specs.Ends.{Agrees, Chooses}
use Rattle.survey.proofs.Bits.{only_in}
use Rattle.page.proofs.Ports.{addressed_none, broadcast_none}
use Rattle.page.proofs.Pairs.{pairs_say, flood_by, flood_is}
use Rattle.page.proofs.Copies.{Coded, Same, same_coded, line_agrees}
use Rattle.page.proofs.Best.{route_same}
use Rattle.page.proofs.Local.{ours_by_name, local_is}
use Rattle.page.proofs.Lines.{host_same, broadcast_same, flood_same, group_same, path_same}

-- ---- the target, by the table's tests: a port's address, a broadcast of ours, limited broadcast, multicast
abbrev pub by_class : Bool → Bool → Target
by_class limited multicast = pick limited target.Here (pick multicast target.Group target.Route)

abbrev pub by_tests_lem : Bool → Bool → Bool → Bool → Target
by_tests_lem own ours limited multicast = pick own target.Here (pick ours (over_broadcast (by_class limited multicast)) (by_class limited multicast))

class_is : (a : Address) → class_target (class_of a.0) ≡ by_class (is_limited a) (is_multicast a)
class_is a = by (class_of a.0) refl
  where
    by : (c : Class) → class_of a.0 ≡ c → class_target (class_of a.0) ≡ by_class (is_limited a) (is_multicast a)
    by class.Invalid e = rw e
    by class.Unicast e = rw e
    by class.Multicast e = rw e
    by class.NetBroadcast e = rw e
    by class.DomainBroadcast e = rw e
    by class.ScpsBroadcast e = rw e
    by class.LimitedBroadcast e = rw e

-- no port has the address of what has none
module _ (r : Relay) (x : Aim) (none : (test : Address → Bool) → destination_is x test ≡ false) where
  unnamed : (test : ℕ → Address → Bool) → some_port (λ (p : ℕ). port_set_up r p && destination_is x (test p)) ≡ false
  unfolding some_port
  unnamed test =
      refuted _ λ h.
      let at = (any_is (λ (p : ℕ). port_set_up r p && destination_is x (test p)) 8).0 h in
      true_false (sym (and_true (port_set_up r at.0) (destination_is x (test at.0)) at.2).1 ∙ none (test at.0))

  equals_none : equals_port r x ≡ false
  unfolding equals_port
  equals_none = unnamed (λ (p : ℕ) (a : Address). eqb (port_in r p).address.0 a.0)

  ours_none : broadcast_of_ours r x ≡ false
  unfolding broadcast_of_ours
  ours_none = unnamed (λ (p : ℕ). broadcast_of (port_in r p))

module _ (more : Route → Route → Bool) (r : Relay) (chooses : Chooses more r) (at : ℕ) (inside : at < 8) (h : Header) (flag : h.fields.intermediate < 2) where
  -- what the pairs say of it, on this node
  abbrev flood : Aim → Flood
  flood x = flood_for r (arrival_at r at) x h

  abbrev c : Aim → Case
  c x = case_of r.router (only_port at) h.fields (flood x)

  -- what its route asks for
  abbrev asks : Aim → ℕ
  asks x = code_for r (flood x) x

  -- what is asked of the ports, and what they say
  abbrev sought : Aim → Sought
  sought x = sought_of (leg_for r (arrival_at r at) x h)

  abbrev survey : Aim → Survey
  survey x = survey_for r (arrival_at r at) x h

  -- the ruling is the table's, and so is what the route asks for
  abbrev pub Ruled : Aim → Type 0
  Ruled x = Agrees (rule_aim r x (c x) (survey x)) (judged more r at x h) × Coded (asks x) (onward_line more r at x h.fields)

  abbrev no_other : Bool
  no_other = not (some_port (other_ports r at))

  -- the local half as the table says it, and that it is no
  abbrev here : Aim → ℕ
  here x = first_of (local_rows r at x h.fields)

  abbrev heard : Aim → Bool
  heard x = not (eqb (here x) 0)

  -- a ruling by the same name and the same line
  ruled_agrees : (x : Aim) (t : Target) (p : Option Place) (w : Option Way)
      → ours_by t (here_by p) ≡ ours_by_name r at x
      → ((local : Local) → local_number local ≡ here x
      → Same (asks x) (line_of t p w (c x) (survey x).ready local) (onward_line more r at x h.fields))
      → Agrees (ruled_by t p w (c x) (survey x)) (judged more r at x h) × Coded (asks x) (onward_line more r at x h.fields)
  unfolding ruled_by judged
  ruled_agrees x t p w ours line =
      let local = local_of t p (c x) in
      let is = local_is r at x h.fields flag (flood x) t p ours in
      let wish = line_of t p w (c x) (survey x).ready local in
      let same = line local is in (
        subst (λ (n : ℕ). Agrees (ruling_of local (granted_of wish (c x) (survey x)) (survey x).full) (halves r at h n (onward_line more r at x h.fields))) is
            (line_agrees r at x h (flood x) (asks x) local wish (onward_line more r at x h.fields) same),
        same_coded (asks x) wish (onward_line more r at x h.fields) same,
      )

  -- ---- an address
  module _ (a : Address) where
    abbrev arrival : ℕ
    arrival = only_port at

    target_is : target_of (class_of a.0) (survey (Node a))
        ≡ by_tests_lem (equals_port r (Node a)) (broadcast_of_ours r (Node a)) (is_limited a) (is_multicast a)
    unfolding target_of
    target_is =
        ap (λ (t : Target). pick (not (eqb (survey (Node a)).addressed 0)) target.Here (pick (not (eqb (survey (Node a)).broadcast 0)) (over_broadcast t) t)) (class_is a)
        ∙ ap₂ (λ (u v : Bool). by_tests_lem u v (is_limited a) (is_multicast a))
        (ap not (addressed_none r (Node a) (sought (Node a))) ∙ not-not (equals_port r (Node a)))
        (ap not (broadcast_none r (Node a) (sought (Node a))) ∙ not-not (broadcast_of_ours r (Node a)))

    -- before the search the ports name the same target
    asked_is : target_asked r a ≡ by_tests_lem (equals_port r (Node a)) (broadcast_of_ours r (Node a)) (is_limited a) (is_multicast a)
    unfolding target_of named_below survey_below
    asked_is = target_is

    subscribed_none : eqb (here_by (group_place r a arrival)) 0 ≡ not (is_subscribed r at a)
    unfolding group_place
    subscribed_none = by (has_group r a)
      where
        by : (t : Bool) → eqb (here_by (pick t (group_says (group_in r (group_found r a)) arrival) None)) 0
            ≡ not (t && in_set at (group_in r (group_found r a)).subscribed)
        by true = only_in at (group_in r (group_found r a)).subscribed inside
        by false = refl

    node_ours : (own ours limited multicast : Bool)
        → ours_by (by_tests_lem own ours limited multicast) (here_by (place_for r (by_tests_lem own ours limited multicast) a arrival))
        ≡ (own || limited || ours || (multicast && is_subscribed r at a) || false)
    node_ours true ours limited multicast = refl
    node_ours false true true multicast = refl
    node_ours false false true multicast = refl
    node_ours false true false true = refl
    node_ours false true false false = refl
    node_ours false false false true = ap not subscribed_none ∙ not-not (is_subscribed r at a) ∙ sym (or-false (is_subscribed r at a))
    node_ours false false false false = refl

    -- so what is looked up before the search makes it ours where its name does
    pub asked_ours : ours_by (target_asked r a) (here_by (place_for r (target_asked r a) a arrival)) ≡ ours_by_name r at (Node a)
    asked_ours =
        subst (λ (t : Target). ours_by t (here_by (place_for r t a arrival)) ≡ ours_by_name r at (Node a)) (sym asked_is)
        (node_ours (equals_port r (Node a)) (broadcast_of_ours r (Node a)) (is_limited a) (is_multicast a))

    -- what the pairs say, by the table's tests
    abbrev flooded : Bool
    flooded = is_flooded h.fields

    abbrev held : Bool
    held = pair_held r at h.fields

    abbrev say : Bool → Bool → Flood
    say pair free = pairs_say pair free (lowest_free r)

    abbrev tested : Target
    tested = by_tests_lem (equals_port r (Node a)) (broadcast_of_ours r (Node a)) (is_limited a) (is_multicast a)

    pub flood_node : flood (Node a) ≡ flood_by flooded (is_host r) tested (say held (some_free r))
    flood_node =
        flood_is r at h.fields (target_asked r a) ∙ ap (λ (t : Target). flood_by flooded (is_host r) t (say held (some_free r))) asked_is

    module _ (local : Local) (is : local_number local ≡ here (Node a)) where
      abbrev plain : Bool → Target → Wish
      plain host t = pick host (host_line t local) (router_line t (place_for r t a arrival) (way_for r t a) arrival (survey (Node a)).ready)

      abbrev line : Bool → Target → Flood → Wish
      line host t f = flood_line f (except_by (survey (Node a)).ready arrival) (plain host t)

      -- what the route asks for, where one is taken
      abbrev code : Bool → Target → Flood → ℕ
      code host t f = pick host 0 (code_of (way_under f (way_for r t a)))

      -- the table's rows, where the destination is an address
      abbrev rows : (own ours limited multicast host flooded pair free : Bool) → Line
      rows own ours limited multicast host flooded pair free =
          pick (own || limited) not_asked
          (pick (host && heard (Node a)) not_asked
          (pick host (refused 9)
          (pick (flooded && pair) not_asked
          (pick (flooded && not free) (refused 30)
          (pick (flooded && no_other) (refused 11)
          (pick (flooded && true) (wanted (other_ports r at) 0)
          (pick (ours && no_other) not_asked
          (pick ours (wanted (other_ports r at) 0)
          (pick (multicast && is_subscribed r at a && no_other) not_asked
          (pick (multicast && (not (has_group r a) || nothing_but at (group_set r a))) (refused 11)
          (pick multicast (wanted (without at (group_ports r (Node a))) 0)
          (pick (not (some_matches r (Node a))) (refused 11) (wanted (best_port more r (Node a)) (best_code more r (Node a)))))))))))))))

      abbrev SameLine : (own ours limited multicast host flooded pair free : Bool) → Type 0
      SameLine own ours limited multicast host flooded pair free =
          Same (code host (by_tests_lem own ours limited multicast) (flood_by flooded host (by_tests_lem own ours limited multicast) (say pair free)))
          (line host (by_tests_lem own ours limited multicast) (flood_by flooded host (by_tests_lem own ours limited multicast) (say pair free)))
          (rows own ours limited multicast host flooded pair free)

      -- not flooded
      plain_line_lem : (own ours limited multicast host pair free : Bool) → SameLine own ours limited multicast host false pair free
      plain_line_lem true ours limited multicast true pair free = tt
      plain_line_lem true ours limited multicast false pair free = tt
      plain_line_lem false true true multicast true pair free = tt
      plain_line_lem false true true multicast false pair free = tt
      plain_line_lem false false true multicast true pair free = tt
      plain_line_lem false false true multicast false pair free = tt
      plain_line_lem false true false true true pair free = host_same r at inside local _ is
      plain_line_lem false true false false true pair free = host_same r at inside local _ is
      plain_line_lem false false false true true pair free = host_same r at inside local _ is
      plain_line_lem false false false false true pair free = host_same r at inside local _ is
      plain_line_lem false true false true false pair free = broadcast_same r at inside (Node a) (sought (Node a))
      plain_line_lem false true false false false pair free = broadcast_same r at inside (Node a) (sought (Node a))
      plain_line_lem false false false true false pair free = group_same r at inside (Node a) (sought (Node a)) a
      plain_line_lem false false false false false pair free = route_same more r chooses a

      -- flooded, on a router: the pairs decide, but for what is for this node
      flooded_line : (own ours limited multicast pair free : Bool) → SameLine own ours limited multicast false true pair free
      flooded_line true ours limited multicast pair free = tt
      flooded_line false true true multicast pair free = tt
      flooded_line false false true multicast pair free = tt
      flooded_line false true false true pair free = flood_same r at inside (Node a) (sought (Node a)) pair free _ _ _
      flooded_line false true false false pair free = flood_same r at inside (Node a) (sought (Node a)) pair free _ _ _
      flooded_line false false false true pair free = flood_same r at inside (Node a) (sought (Node a)) pair free _ _ _
      flooded_line false false false false pair free = flood_same r at inside (Node a) (sought (Node a)) pair free _ _ _

      -- a host looks no pair up
      node_line : (own ours limited multicast host flooded pair free : Bool) → SameLine own ours limited multicast host flooded pair free
      node_line own ours limited multicast host false pair free = plain_line_lem own ours limited multicast host pair free
      node_line own ours limited multicast true true pair free = plain_line_lem own ours limited multicast true pair free
      node_line own ours limited multicast false true pair free = flooded_line own ours limited multicast pair free

      asked_line : Same (asks (Node a)) (line (is_host r) tested (flood (Node a))) (onward_line more r at (Node a) h.fields)
      unfolding onward_line
      asked_line =
          subst (λ (f : Flood). Same (code (is_host r) (target_asked r a) f) (line (is_host r) tested f) (onward_line more r at (Node a) h.fields)) (sym flood_node)
          (subst
          (λ (t : Target).
          Same (code (is_host r) t (flood_by flooded (is_host r) tested (say held (some_free r))))
          (line (is_host r) tested (flood_by flooded (is_host r) tested (say held (some_free r))))
          (onward_line more r at (Node a) h.fields))
          (sym asked_is)
          (node_line (equals_port r (Node a)) (broadcast_of_ours r (Node a)) (is_limited a) (is_multicast a) (is_host r) flooded held (some_free r)))

    node_agrees : Ruled (Node a)
    unfolding rule_target line_of plain_line
    node_agrees =
        subst
        (λ (u : Target).
        Agrees (rule_target r u a (c (Node a)) (survey (Node a))) (judged more r at (Node a) h) × Coded (asks (Node a)) (onward_line more r at (Node a) h.fields))
        (sym target_is)
        (ruled_agrees (Node a) tested (place_for r tested a arrival) (way_for r tested a)
        (node_ours (equals_port r (Node a)) (broadcast_of_ours r (Node a)) (is_limited a) (is_multicast a)) asked_line)

  -- ---- what is no address: of the lines above the path's the host's alone fits
  module _ (x : Aim) (none : (test : Address → Bool) → destination_is x test ≡ false) (local : Local) (is : local_number local ≡ here x)
      (wish : Wish) (line : Line) (same : Same 0 wish line) where
    by_tests : (own ours host : Bool) → own ≡ false → ours ≡ false
        → Same 0 (pick host (unheard_by local) wish)
        (pick (own || false) not_asked
        (pick (host && heard x) not_asked
        (pick host (refused 9) (pick (ours && no_other) not_asked (pick ours (wanted (other_ports r at) 0) line)))))
    by_tests true ours host e f = true_false e
    by_tests false true host e f = true_false f
    by_tests false false true e f = host_same r at inside local (here x) is
    by_tests false false false e f = same

    no_address : Same 0 (pick (is_host r) (unheard_by local) wish)
        (pick (equals_port r x || false) not_asked
        (pick (is_host r && heard x) not_asked
        (pick (is_host r) (refused 9) (pick (broadcast_of_ours r x && no_other) not_asked (pick (broadcast_of_ours r x) (wanted (other_ports r at) 0) line)))))
    no_address = by_tests (equals_port r x) (broadcast_of_ours r x) (is_host r) (equals_none r x none) (ours_none r x none)

  no_port_lem : (x : Aim) → ((test : Address → Bool) → destination_is x test ≡ false) → (t : Bool)
      → (equals_port r x || false || broadcast_of_ours r x || false || t) ≡ t
  no_port_lem x none t = rw (equals_none r x none, ours_none r x none)

  -- a path
  module _ (y : PathAddress) where
    here_none : eqb (here_by (path_place r y)) 0 ≡ not (is_here r y)
    unfolding path_place
    here_none = by (has_path r y)
      where
        by : (t : Bool) → eqb (here_by (pick t (path_says (path_in r (path_found r y))) None)) 0 ≡ not (t && not (eqb (path_in r (path_found r y)).here 0))
        by true = sym (not-not (eqb (path_in r (path_found r y)).here 0))
        by false = refl

    -- the pairs are not looked up for it: it has no source
    pub path_plain : flood (Path y) ≡ Plain
    unfolding flood_of
    path_plain = either (λ (f : Flood). f ≡ Plain) (is_flooded h.fields && not (is_host r)) refl refl

    path_agrees : Ruled (Path y)
    unfolding line_of plain_line onward_line
    path_agrees =
        ruled_agrees (Path y) target.Path (path_place r y) None
        (ap not here_none ∙ not-not (is_here r y) ∙ sym (no_port_lem (Path y) (λ test. refl) (is_here r y)))
        (λ local is.
        subst (λ (f : Flood). Same 0 (flood_line f (except_by (survey (Path y)).ready (only_port at)) (pick (is_host r) (unheard_by local) (path_line (path_place r y) (only_port at)))) (onward_line more r at (Path y) h.fields))
        (sym path_plain)
        (no_address (Path y) (λ test. refl) local is _ _ (path_same r at inside y)))

  -- Whatever the destination names, receiving rules as the table says; IPv6 addresses are refused before.
  pub aim_agrees : (x : Aim) → bad_aim x ≡ false → Ruled x
  aim_agrees (Node a) good = node_agrees a
  aim_agrees (Path y) good = path_agrees y
  aim_agrees Uncarried good = true_false good
