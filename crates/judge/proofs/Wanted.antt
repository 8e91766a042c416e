-- The ports that a datagram is wanted on are enough to ask: what the others say changes no ruling. Assumes nothing.
use Prim.Native.Nat.{ℕ, ◌<◌}
use mathlib.Core.Path.{◌≡◌, refl, sym, ap, subst, ◌∙◌}
use mathlib.Core.Bool.{Bool, true, false, not, ◌&&◌}
use lib.Bits.{bit_and}
use lib.Dec.{eqb}
use Rattle.std.proofs.Common.{Option}
use Rattle.address.specs.declared.Address.{Address}
use Rattle.checks.specs.Order.{pick}
use Rattle.checks.proofs.Bools.{true_false, and_true}
use Rattle.sets.specs.Sets.{in_set, port_set}
use Rattle.sets.proofs.Members.{in_gathered}
use Rattle.records.specs.SetUp.{is_set_up}
use Rattle.state.specs.Relay.{Relay, port_in, queue_in}
use Rattle.survey.specs.Survey.{in_domain, is_fitting, is_full, survey_below, survey_of, survey_within, wanted_of}
use Rattle.survey.specs.declared.Sought.{Sought}
use Rattle.survey.proofs.Within.{same_sets, within}
use Rattle.survey.proofs.Bits.{in_except, in_none}
use Rattle.next_leg.specs.Leg.{next_lengths, no_legs, legs_of}
use Rattle.next_leg.specs.declared.Leg.{Leg}
use Rattle.next_leg.specs.declared.Lengths.{Lengths}
use Rattle.next_leg.specs.declared.Legs.{Legs}
use Rattle.verdict.specs.Rule.{except_by, same_domain, large_enough, after_hops, after_domain, after_size, granted_of, copies_of, ruling_of}
use Rattle.verdict.specs.declared.Case.{Case}
use Rattle.verdict.specs.declared.Local.{Local}
use Rattle.verdict.specs.declared.Obstacle.{Obstacle}
use Rattle.verdict.specs.declared.Obstacle.TheVariants.{LeavesDomain, TooBig}
use Rattle.verdict.specs.declared.Onward.TheVariants as onward
use Rattle.verdict.specs.declared.Survey.{Survey}
use Rattle.verdict.specs.declared.Ruling.{Ruling}
use Rattle.verdict.specs.declared.Wish.{Wish}
use Rattle.verdict.specs.declared.Wish.TheVariants.{NotAsked, Refused, Wanted}
use Rattle.judge.specs.Ruling.{sought_by, sought_of}
use Rattle.judge.specs.Asked.{legged, among_of, wished_of}
use Rattle.judge.specs.declared.finishing.Ruled.{Ruled}

-- ---- kinds of wish told apart
not_asked_wanted : (g : ℕ) → NotAsked ≡ Wanted g → ⊥
not_asked_wanted g e = true_false cc

refused_wanted : (o : Obstacle) (g : ℕ) → Refused o ≡ Wanted g → ⊥
refused_wanted o g e = true_false cc

wanted_same : (x g : ℕ) → Wanted x ≡ Wanted g → x ≡ g
wanted_same x g e = cc

-- ---- sets of the eight ports that a walk gathers
abbrev gathered : (ℕ → Bool) → ℕ
gathered test = port_set test 8

swapped : (t u v : Bool) → (t && (u && v)) ≡ (u && (t && v))
swapped true true v = refl
swapped true false v = refl
swapped false true v = refl
swapped false false v = refl

implied : (t u v : Bool) → (t ≡ true → u ≡ true) → (t && (u && v)) ≡ (t && v)
implied true u v h = rw (h refl)
implied false u v h = refl

-- x has ports of the set alone
abbrev Inside : ℕ → ℕ → Type 0
Inside x set = (p : ℕ) → p < 8 → in_set p x ≡ true → in_set p set ≡ true

-- of such a set what is gathered of the set is what is gathered of all
met_same : (x set : ℕ) (test : ℕ → Bool) → Inside x set → bit_and x (gathered (λ (p : ℕ). in_set p set && test p)) ≡ bit_and x (gathered test)
met_same x set test h =
    within x (λ (p : ℕ). in_set p set && test p) 8
    ∙ same_sets _ _ 8 (λ p l. implied (in_set p x) (in_set p set) (test p) (h p l))
    ∙ sym (within x test 8)

met_inside : (x set : ℕ) (test : ℕ → Bool) → Inside x set → Inside (bit_and x (gathered test)) set
met_inside x set test h p l is =
    let both : (in_set p x && test p) ≡ true = sym (in_gathered (λ (q : ℕ). in_set q x && test q) p 8 l) ∙ ap (in_set p) (sym (within x test 8)) ∙ is in
    h p l (and_true (in_set p x) (test p) both).0

-- ---- the ruling on a set
module _ (r : Relay) (q : Sought) (set : ℕ) where
  abbrev set_up : (ℕ → Bool) → ℕ → Bool
  set_up test p = is_set_up (port_in r p) && test p

  abbrev among : (ℕ → Bool) → ℕ
  among test = gathered (set_up (λ (p : ℕ). in_set p set && test p))

  among_met : (x : ℕ) (test : ℕ → Bool) → Inside x set → bit_and x (among test) ≡ bit_and x (gathered (set_up test))
  among_met x test h =
      ap (bit_and x) (same_sets _ _ 8 (λ p l. swapped (is_set_up (port_in r p)) (in_set p set) (test p))) ∙ met_same x set (set_up test) h

  abbrev near : ℕ → Bool
  near p = in_domain (port_in r p) q

  abbrev wide : ℕ → Bool
  wide p = is_fitting (port_in r p) q

  abbrev filled : ℕ → Bool
  filled p = is_full (queue_in r p).count

  -- the copies of a set inside
  copies_same : (local : Local) (g : ℕ) → Inside g set → copies_of local g (among filled) ≡ copies_of local g (gathered (set_up filled))
  unfolding copies_of
  copies_same local g h = rw (among_met g filled h)

  size_same : (local : Local) (x : ℕ) → Inside x set
      → ruling_of local (large_enough x (among wide)) (among filled) ≡ ruling_of local (large_enough x (gathered (set_up wide))) (gathered (set_up filled))
  unfolding ruling_of
  size_same local x h = rw (among_met x wide h) (fits (eqb (bit_and x (gathered (set_up wide))) 0))
    where
      g : ℕ
      g = bit_and x (gathered (set_up wide))

      fits : (none : Bool) → ruling_of local (pick none (Refused TooBig) (Wanted g)) (among filled) ≡ ruling_of local (pick none (Refused TooBig) (Wanted g)) (gathered (set_up filled))
      fits true = refl
      fits false = copies_same local g (met_inside x set (set_up wide) h)

  -- the two sides of what is to be shown, of what is left after the domain
  abbrev asked : Local → Wish → Ruling
  asked local w = ruling_of local (after_size w (among wide)) (among filled)

  abbrev whole : Local → Wish → Ruling
  whole local w = ruling_of local (after_size w (gathered (set_up wide))) (gathered (set_up filled))

  domain_same : (local : Local) (bound : ℕ) → asked local (same_domain set bound (among near)) ≡ whole local (same_domain set bound (gathered (set_up near)))
  unfolding ruling_of
  domain_same local bound = rw (among_met set near (λ p l is. is)) (by_bound (eqb bound 0))
    where
      x : ℕ
      x = bit_and set (gathered (set_up near))

      by_left : (none : Bool) → asked local (pick none (Refused LeavesDomain) (Wanted x)) ≡ whole local (pick none (Refused LeavesDomain) (Wanted x))
      by_left true = refl
      by_left false = size_same local x (met_inside set set (set_up near) (λ p l is. is))

      by_bound : (t : Bool) → asked local (pick t (Wanted set) (pick (eqb x 0) (Refused LeavesDomain) (Wanted x))) ≡ whole local (pick t (Wanted set) (pick (eqb x 0) (Refused LeavesDomain) (Wanted x)))
      by_bound true = size_same local set (λ p l is. is)
      by_bound false = by_left (eqb x 0)

  -- what is left is inside: of the ports granted, of those that took a copy
  taken_inside : (g full : ℕ) → Inside g set → Inside (except_by g full) set
  taken_inside g full h p l is = h p l (and_true (in_set p g) (not (in_set p full)) (sym (in_except p g full) ∙ is)).0

  took_inside : (local : Local) (w : Wish) (full : ℕ) → ((g : ℕ) → w ≡ Wanted g → Inside g set) → Inside (ruling_of local w full).took set
  unfolding ruling_of copies_of
  took_inside local NotAsked full h p l is = true_false (sym is ∙ in_none p)
  took_inside local (Refused o) full h p l is = true_false (sym is ∙ in_none p)
  took_inside local (Wanted g) full h p l is = taken_inside g full (h g refl) p l is

  left_inside : (x : ℕ) (o : Obstacle) (none : Bool) → Inside x set → (g : ℕ) → pick none (Refused o) (Wanted x) ≡ Wanted g → Inside g set
  left_inside x o true h g e = absurd (refused_wanted o g e)
  left_inside x o false h g e = subst (λ (y : ℕ). Inside y set) (wanted_same x g e) h

  sized_inside : (w : Wish) → ((g : ℕ) → w ≡ Wanted g → Inside g set) → (g : ℕ) → after_size w (gathered (set_up wide)) ≡ Wanted g → Inside g set
  sized_inside NotAsked h g e = absurd (not_asked_wanted g e)
  sized_inside (Refused o) h g e = absurd (refused_wanted o g e)
  sized_inside (Wanted x) h g e =
      left_inside (bit_and x (gathered (set_up wide))) TooBig (eqb (bit_and x (gathered (set_up wide))) 0) (met_inside x set (set_up wide) (h x refl)) g e

  near_inside : (bound g : ℕ) → same_domain set bound (gathered (set_up near)) ≡ Wanted g → Inside g set
  near_inside bound g e = by_bound (eqb bound 0) e
    where
      x : ℕ
      x = bit_and set (gathered (set_up near))

      by_bound : (t : Bool) → pick t (Wanted set) (pick (eqb x 0) (Refused LeavesDomain) (Wanted x)) ≡ Wanted g → Inside g set
      by_bound true k = subst (λ (y : ℕ). Inside y set) (wanted_same set g k) (λ p l is. is)
      by_bound false k = left_inside x LeavesDomain (eqb x 0) (met_inside set set (set_up near) (λ p l is. is)) g k

  -- so the headers of the copies are the same too
  legs_same : (took : ℕ) (l : Leg) → Inside took set → legs_of took (among near) l ≡ legs_of took (gathered (set_up near)) l
  unfolding legs_of
  legs_same took l h = rw (among_met took near h)

  legged_same : (local : Local) (bound : ℕ) (l : Leg)
      → legged (asked local (same_domain set bound (among near))) (among near) l
      ≡ legged (whole local (same_domain set bound (gathered (set_up near)))) (gathered (set_up near)) l
  legged_same local bound l =
      let x = whole local (same_domain set bound (gathered (set_up near))) in
      ap (λ (y : Ruling). legged y (among near) l) (domain_same local bound)
      ∙ ap (λ (y : Legs). record { ruling = x; legs = y })
      (legs_same x.took l
      (took_inside local (after_size (same_domain set bound (gathered (set_up near))) (gathered (set_up wide))) (gathered (set_up filled))
      (sized_inside (same_domain set bound (gathered (set_up near))) (near_inside bound))))

module _ (r : Relay) (d : Option Address) (l : Leg) where
  abbrev surveyed : Survey
  surveyed = survey_of r d (sought_of l)

  abbrev ruled_left : Local → Wish → ℕ → Ruled
  ruled_left local w bound = legged (ruling_of local (after_size (after_domain w bound surveyed.domain) surveyed.fitting) surveyed.full) surveyed.domain l

  among_is : (set : ℕ) (local : Local) (bound : ℕ) → among_of r local set bound l ≡ ruled_left local (Wanted set) bound
  unfolding among_of survey_below survey_within
  among_is set local bound = legged_same r (sought_of l) set local bound l

  -- ---- the three cases, once hops are asked for
  module _ (local : Local) (wish : Wish) (c : Case) {hops : Wish} (is : hops ≡ after_hops wish c.spent) {out : Ruled} where
    by_hops : (w : Wish) → hops ≡ w → out ≡ ruled_left local w c.bound → out ≡ wished_of r d local wish c l
    unfolding wished_of granted_of
    by_hops w same e = e ∙ ap (λ (x : Wish). ruled_left local x c.bound) (sym same ∙ is)

    pub wished_not : hops ≡ NotAsked
        → out ≡ record { ruling = record { local = local; onward = onward.NotAsked; granted = 0; took = 0; dropped = 0 }; legs = no_legs }
        → out ≡ wished_of r d local wish c l
    unfolding ruling_of legs_of
    wished_not same e = by_hops NotAsked same e

    pub wished_refused : (o : Obstacle) → hops ≡ Refused o
        → out ≡ record { ruling = record { local = local; onward = onward.Refused o; granted = 0; took = 0; dropped = 0 }; legs = no_legs }
        → out ≡ wished_of r d local wish c l
    unfolding ruling_of legs_of
    wished_refused o same e = by_hops (Refused o) same e

    pub wished_among : (set : ℕ) → hops ≡ Wanted set → out ≡ among_of r local set c.bound l → out ≡ wished_of r d local wish c l
    wished_among set same e = by_hops (Wanted set) same (e ∙ among_is set local c.bound)

-- the ruling on the wanted ports, step by step
pub among_told : (r : Relay) (local : Local) (set bound : ℕ) (l : Leg) {q : Lengths} {x : Sought} {s : Survey} {granted : Wish} {y : Ruling} {z : Legs}
    → q ≡ next_lengths l
    → x ≡ sought_by l.arrival q
    → s ≡ wanted_of r set x
    → granted ≡ after_size (same_domain set bound s.domain) s.fitting
    → y ≡ ruling_of local granted s.full
    → z ≡ legs_of y.took s.domain l
    → ◌≡◌ {A = Ruled} (record { ruling = y; legs = z }) (among_of r local set bound l)
unfolding among_of
among_told r local set bound l eq ex es eg ey ez = cc
