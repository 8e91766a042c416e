-- The lines of the onward half that take no route, one by one: receiving wants what the table's rows want. Assumes nothing.
use Rattle.std.specs.Prelude.{Option, None}
use Prim.Native.Nat.{ℕ, ◌<◌}
use mathlib.Core.Path.{◌≡◌, refl, sym, ap, ap₂, subst, ◌∙◌}
use mathlib.Core.Bool.{Bool, true, false, not, ◌&&◌, ◌||◌, not-not}
use lib.Bits.{bit_and}
use lib.Dec.{eqb}
use Rattle.checks.specs.Order.{pick}
use Rattle.sets.specs.Sets.{in_set, only_port}
use Rattle.address.specs.declared.Address.{Address}
use Rattle.address.specs.declared.PathAddress.{PathAddress}
use Rattle.meaning.specs.declared.Aim.{Aim}
use Rattle.meaning.specs.declared.Aim.TheVariants.{Node, Path}
use Rattle.state.specs.Relay.{Relay, group_in, path_in}
use Rattle.records.specs.declared.Group.{Group}
use Rattle.records.specs.declared.PathPlace.{PathPlace}
use Rattle.survey.specs.Survey.{survey_of}
use Rattle.survey.specs.declared.Sought.{Sought}
use Rattle.lookup.specs.Lookup.{group_found, path_found, group_says, path_says, group_place, path_place}
use Rattle.verdict.specs.Numbers.{local_number}
use Rattle.verdict.specs.Rule.{except_by, broadcast_line, alone_by, group_line, path_line, unheard_by, flood_line, code_of, way_under}
use Rattle.verdict.specs.declared.Local.{Local}
use Rattle.verdict.specs.declared.Local.TheVariants.{No, Delivered, Unknown}
use Rattle.verdict.specs.declared.Obstacle.TheVariants.{NoRoute}
use Rattle.verdict.specs.declared.Way.{Way}
use Rattle.verdict.specs.declared.Wish.{Wish}
use Rattle.verdict.specs.declared.Wish.TheVariants.{NotAsked, Refused, Wanted}
use Rattle.judge.specs.Ruling.{destination_asked}
use Rattle.page.specs.Table.{some_port, without, nothing_but, has_group, has_path, is_subscribed, is_here, Line, not_asked, refused, wanted, other_ports, group_set, path_set, group_ports, path_ports}
use Rattle.survey.proofs.Bits.{in_except, only_in}
use Rattle.page.proofs.Sets.{only_is, nothing_is}
use Rattle.page.proofs.Pairs.{pairs_say}
use Rattle.page.proofs.Ports.{others_in, others_none}
use Rattle.page.proofs.Copies.{Same, no_route}

-- ---- tests
pick_same : (t u : Bool) (a b : Wish) (l m : Line) → t ≡ u → Same 0 a l → Same 0 b m → Same 0 (pick t a b) (pick u l m)
pick_same t u a b l m e s s' = subst (λ (v : Bool). Same 0 (pick t a b) (pick v l m)) e (both t)
  where
    both : (v : Bool) → Same 0 (pick v a b) (pick v l m)
    both true = s
    both false = s'

-- ---- the lines
module _ (r : Relay) (at : ℕ) (inside : at < 8) where
  -- a host
  pub host_same : (local : Local) (n : ℕ) → local_number local ≡ n → Same 0 (unheard_by local) (pick (not (eqb n 0)) not_asked (refused 9))
  host_same local n e = subst (λ (m : ℕ). Same 0 (unheard_by local) (pick (not (eqb m 0)) not_asked (refused 9))) e (by local)
    where
      by : (l : Local) → Same 0 (unheard_by l) (pick (not (eqb (local_number l) 0)) not_asked (refused 9))
      by No = refl
      by Delivered = tt
      by Unknown = tt

  -- what is left of a place's set
  set_same : (set : ℕ) (p : ℕ) → p < 8 → in_set p (except_by set (only_port at)) ≡ (in_set p set && not (eqb p at))
  set_same set p l = in_except p set (only_port at) ∙ ap (λ (t : Bool). in_set p set && not t) (only_is p at l)

  module _ (x : Aim) (q : Sought) where
    abbrev others : ℕ
    others = except_by (survey_of r (destination_asked x) q).ready (only_port at)

    abbrev no_other : Bool
    no_other = not (some_port (other_ports r at))

    -- a broadcast of ours
    pub broadcast_same : Same 0 (broadcast_line others) (pick no_other not_asked (wanted (other_ports r at) 0))
    broadcast_same = pick_same _ _ _ _ _ _ (others_none r x q at) tt (no_route (other_ports r at), λ p l. others_in r x q p l at)

    -- a flood: what the pairs say decides, whatever the line were without it, and no route is taken
    pub flood_same : (held free : Bool) (place : ℕ) (w : Option Way) (line : Wish)
        → Same (code_of (way_under (pairs_say held free place) w)) (flood_line (pairs_say held free place) others line)
        (pick held not_asked (pick (not free) (refused 30) (pick no_other (refused 11) (wanted (other_ports r at) 0))))
    flood_same true free place w line = tt
    flood_same false true place w line = pick_same _ _ _ _ _ _ (others_none r x q at) refl (no_route (other_ports r at), λ p l. others_in r x q p l at)
    flood_same false false place w line = refl

    -- a group
    module _ (a : Address) where
      abbrev group : Group
      group = group_in r (group_found r a)

      pub group_same : Same 0 (group_line (group_place r a (only_port at)) (only_port at) others)
          (pick (is_subscribed r at a && no_other) not_asked
          (pick (not (has_group r a) || nothing_but at (group_set r a)) (refused 11) (wanted (without at (group_ports r (Node a))) 0)))
      unfolding group_place group_line
      group_same = by (has_group r a)
        where
          alone : alone_by (bit_and group.subscribed (only_port at)) others ≡ (in_set at group.subscribed && no_other)
          alone =
              ap₂ (λ (s t : Bool). not s && t) (only_in at group.subscribed inside) (others_none r x q at)
              ∙ ap (λ (t : Bool). t && no_other) (not-not (in_set at group.subscribed))

          by : (t : Bool) → Same 0 (group_line (pick t (group_says group (only_port at)) None) (only_port at) others)
              (pick ((t && in_set at group.subscribed) && no_other) not_asked
              (pick (not t || nothing_but at group.send) (refused 11) (wanted (without at (group_ports r (Node a))) 0)))
          by true = pick_same _ _ _ _ _ _ alone tt (pick_same _ _ _ _ _ _ (nothing_is at group.send inside) refl (no_route (without at (group_ports r (Node a))), set_same group.send))
          by false = refl

  -- a path
  module _ (y : PathAddress) where
    abbrev place : PathPlace
    place = path_in r (path_found r y)

    pub path_same : Same 0 (path_line (path_place r y) (only_port at))
        (pick (not (has_path r y) || (nothing_but at (path_set r y) && not (is_here r y))) (refused 11)
        (pick (nothing_but at (path_set r y)) not_asked (wanted (without at (path_ports r (Path y))) 0)))
    unfolding path_place path_line
    path_same = by (has_path r y)
      where
        held : (e t : Bool) → Same 0 (pick (not e) (Wanted (except_by place.send (only_port at))) (pick t NotAsked (Refused NoRoute)))
            (pick (e && not t) (refused 11) (pick e not_asked (wanted (without at (path_ports r (Path y))) 0)))
        held true true = tt
        held true false = refl
        held false t = (no_route (without at (path_ports r (Path y))), set_same place.send)

        by : (t : Bool) → Same 0 (path_line (pick t (path_says place) None) (only_port at))
            (pick (not t || (nothing_but at place.send && not (t && not (eqb place.here 0)))) (refused 11)
            (pick (nothing_but at place.send) not_asked (wanted (without at (path_ports r (Path y))) 0)))
        by true =
            subst (λ (e : Bool). Same 0 (pick (not e) (Wanted (except_by place.send (only_port at))) (pick (not (eqb place.here 0)) NotAsked (Refused NoRoute)))
            (pick (nothing_but at place.send && not (not (eqb place.here 0))) (refused 11)
            (pick (nothing_but at place.send) not_asked (wanted (without at (path_ports r (Path y))) 0))))
            (sym (nothing_is at place.send inside))
            (held (nothing_but at place.send) (not (eqb place.here 0)))
        by false = refl
