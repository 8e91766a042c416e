-- Every set of ports that a ruling has is one of the ports 0 to 7. Assumes nothing.
use Rattle.std.specs.Prelude.{Option}
use native.Mathlib.Omega.{arith}
use Prim.Native.Nat.{ℕ, ◌<◌, ◌≤◌}
use lib.Bits.{bit_and, and_le_l, and_le_r}
use lib.Dec.{eqb}
use Rattle.checks.proofs.Laws.{either}
use Rattle.meaning.specs.declared.Aim.{Aim}
use Rattle.meaning.specs.declared.Aim.TheVariants.{Node, Path, Uncarried}
use Rattle.state.specs.Relay.{Relay}
use Rattle.survey.specs.Survey.{survey_of}
use Rattle.survey.specs.declared.Sought.{Sought}
use Rattle.verdict.specs.Rule.{local_of, line_of, after_hops, after_domain, after_size, granted_of, copies_of, ruling_of}
use Rattle.verdict.specs.declared.Target.{Target}
use Rattle.verdict.specs.declared.Place.{Place}
use Rattle.verdict.specs.declared.Way.{Way}
use Rattle.verdict.specs.declared.Case.{Case}
use Rattle.verdict.specs.declared.Local.{Local}
use Rattle.verdict.specs.declared.Wish.{Wish}
use Rattle.verdict.specs.declared.Wish.TheVariants.{NotAsked, Refused, Wanted}
use Rattle.verdict.specs.declared.Ruling.{Ruling}
use Rattle.verdict.specs.declared.Survey.{Survey}
use Rattle.judge.specs.Ruling.{destination_asked, ruled_by, rule_target, rule_aim}
use Rattle.page.proofs.Ports.{fitting_small}

pub record Small (x : Ruling) : Type 0 where
  pub granted : x.granted < 256
  pub took : x.took < 256
  pub dropped : x.dropped < 256

-- the set that a line wants, none where it wants none
abbrev pub wanted_by : Wish → ℕ
wanted_by NotAsked = 0
wanted_by (Refused n) = 0
wanted_by (Wanted set) = set

-- the size leaves only ports that are set up
pub size_small : (l : Wish) (fitting : ℕ) → wanted_by (after_size l fitting) ≤ fitting
size_small NotAsked fitting = omega arith
size_small (Refused n) fitting = omega arith
size_small (Wanted set) fitting = either (λ l. wanted_by l ≤ fitting) (eqb (bit_and set fitting) 0) (omega arith) (and_le_r set fitting)

pub ruling_small : (local : Local) (l : Wish) (full : ℕ) → wanted_by l < 256 → Small (ruling_of local l full)
unfolding ruling_of copies_of
ruling_small local NotAsked full h = record { granted = h; took = h; dropped = h }
ruling_small local (Refused n) full h = record { granted = h; took = h; dropped = h }
ruling_small local (Wanted set) full h =
    record { granted = h; took = omega arith; dropped = omega (arith, and_le_l set full) }

module _ (r : Relay) (x : Aim) (q : Sought) where
  abbrev survey : Survey
  survey = survey_of r (destination_asked x) q

  pub ruled_small : (t : Target) (p : Option Place) (w : Option Way) (c : Case) → Small (ruled_by t p w c survey)
  unfolding ruled_by granted_of
  ruled_small t p w c =
      let local = local_of t p c in
      let line = after_domain (after_hops (line_of t p w c survey.ready local) c.spent) c.bound survey.domain in
      ruling_small local (after_size line survey.fitting) survey.full (omega (arith, size_small line survey.fitting, fitting_small r x q))

-- Whatever the destination names.
pub aim_small : (r : Relay) (x : Aim) (q : Sought) (c : Case) → Small (rule_aim r x c (survey_of r (destination_asked x) q))
unfolding rule_target
aim_small r (Node a) q c = ruled_small r (Node a) q _ _ _ c
aim_small r (Path y) q c = ruled_small r (Path y) q _ _ _ c
aim_small r Uncarried q c = ruled_small r Uncarried q _ _ _ c
