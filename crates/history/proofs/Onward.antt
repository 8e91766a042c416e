-- Demand 1, the last sentence: an unknown transport number refuses local delivery alone. Two cases that differ in whether the TP-ID is assigned have
-- the same onward half: the same number, copies granted, taken and dropped. Assumes nothing.
use Rattle.std.specs.Prelude.{Option}
use Prim.Native.Nat.{ℕ}
use mathlib.Core.Path.{◌≡◌, refl, ap, ◌∙◌}
use Rattle.verdict.specs.Rule.{local_of, line_of, after_hops, after_domain, after_size, granted_of, copies_of, ruling_of}
use Rattle.verdict.specs.declared.Target.{Target}
use Rattle.verdict.specs.declared.Place.{Place}
use Rattle.verdict.specs.declared.Way.{Way}
use Rattle.verdict.specs.declared.Case.{Case}
use Rattle.verdict.specs.declared.Local.{Local}
use Rattle.verdict.specs.declared.Onward.{Onward}
use Rattle.verdict.specs.declared.Wish.{Wish}
use Rattle.verdict.specs.declared.Wish.TheVariants.{NotAsked, Refused, Wanted}
use Rattle.verdict.specs.declared.Survey.{Survey}
use Rattle.verdict.specs.declared.Ruling.{Ruling}
use Rattle.verdict.proofs.Promises.{tpid_free}
use Rattle.judge.specs.Ruling.{ruled_by}

-- the onward half of a ruling
abbrev pub onward_half : Ruling → Onward × (ℕ × (ℕ × ℕ))
onward_half x = (x.onward, (x.granted, (x.took, x.dropped)))

any_local : (a b : Local) (l : Wish) (full : ℕ) → onward_half (ruling_of a l full) ≡ onward_half (ruling_of b l full)
unfolding ruling_of copies_of
any_local a b NotAsked full = refl
any_local a b (Refused n) full = refl
any_local a b (Wanted set) full = refl

-- a case with another answer to whether the TP-ID is assigned
abbrev pub with_assigned : Case → ℕ → Case
with_assigned c n =
    record {
      arrival = c.arrival;
      router = c.router;
      intermediate = c.intermediate;
      assigned = n;
      bound = c.bound;
      spent = c.spent;
      flood = c.flood;
    }

pub onward_free_of_tpid : (t : Target) (p : Option Place) (w : Option Way) (c : Case) (n : ℕ) (s : Survey)
    → onward_half (ruled_by t p w c s) ≡ onward_half (ruled_by t p w (with_assigned c n) s)
unfolding ruled_by granted_of
onward_free_of_tpid t p w c n s =
    let d = with_assigned c n in
    let struck : Wish → Wish = λ l. after_size (after_domain (after_hops l c.spent) c.bound s.domain) s.fitting in
    any_local (local_of t p c) (local_of t p d) (struck (line_of t p w c s.ready (local_of t p c))) s.full
    ∙ ap (λ (l : Wish). onward_half (ruling_of (local_of t p d) (struck l) s.full)) (tpid_free t p w c d s.ready refl refl refl refl)
