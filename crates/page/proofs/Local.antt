-- The local half: receiving delivers, or says 26, where the table does. Assumes nothing.
use Rattle.std.specs.Prelude.{Option}
use native.Mathlib.Omega.{arith}
use Prim.Native.Nat.{ℕ, zero, suc, ◌<◌}
use mathlib.Core.Path.{◌≡◌, refl, ap₂, ◌∙◌}
use mathlib.Core.Bool.{Bool, true, false, not, ◌&&◌, ◌||◌}
use mathlib.Core.List.{[], ◌∷◌}
use lib.Dec.{eqb}
use Rattle.checks.specs.Order.{pick, first_of}
use Rattle.sets.specs.Sets.{only_port}
use Rattle.header.specs.declared.Fields.{Fields}
use Rattle.meaning.specs.Asked.{is_assigned}
use Rattle.meaning.specs.declared.Aim.{Aim}
use Rattle.state.specs.Relay.{Relay}
use Rattle.verdict.specs.Numbers.{local_number}
use Rattle.verdict.specs.Rule.{here_by, ours_by, wanted_here, local_of}
use Rattle.verdict.specs.declared.Target.{Target}
use Rattle.verdict.specs.declared.Place.{Place}
use Rattle.verdict.specs.declared.Flood.{Flood}
use Rattle.verdict.specs.declared.Case.{Case}
use Rattle.verdict.specs.declared.Local.TheVariants.{No, Delivered, Unknown}
use Rattle.judge.specs.Ruling.{case_of}
use Rattle.page.specs.Table.{destination_is, path_is, equals_port, is_limited, broadcast_of_ours, is_multicast, is_subscribed, is_here, is_ours, local_rows}

-- ---- whether it is ours
-- what makes it ours but for the flag
abbrev pub ours_by_name : Relay → ℕ → Aim → Bool
ours_by_name r at x =
    equals_port r x || destination_is x is_limited || broadcast_of_ours r x || destination_is x (λ a. is_multicast a && is_subscribed r at a)
    || path_is x (is_here r)

pub pick_zero : (t : Bool) → eqb (pick t 1 0) 0 ≡ not t
pick_zero true = refl
pick_zero false = refl

flag_is : (n : ℕ) → n < 2 → not (eqb n 0) ≡ eqb n 1
flag_is zero h = refl
flag_is (suc zero) h = refl
flag_is (suc (suc n)) h = absurd (omega arith)

module _ (r : Relay) (at : ℕ) (x : Aim) (f : Fields) (flag : f.intermediate < 2) (flood : Flood) where
  abbrev c : Case
  c = case_of r.router (only_port at) f flood

  local_case : (u t : Bool) → local_number (pick (not u) No (pick (not t) Unknown Delivered)) ≡ first_of ((u && not t, 26) ∷ (u, 1) ∷ [])
  unfolding first_of
  local_case true true = refl
  local_case true false = refl
  local_case false t = refl

  -- The local half, where the target and its place make it ours by its name.
  pub local_is : (t : Target) (p : Option Place) → ours_by t (here_by p) ≡ ours_by_name r at x
      → local_number (local_of t p c) ≡ first_of (local_rows r at x f)
  unfolding local_of local_rows is_ours
  local_is t p e =
      let wanted : wanted_here (ours_by t (here_by p)) f.intermediate ≡ is_ours r at x f = ap₂ ◌||◌ e (flag_is f.intermediate flag) in
      ap₂ (λ (s t : Bool). local_number (pick (not s) No (pick t Unknown Delivered))) wanted (pick_zero (is_assigned f.tpid))
      ∙ local_case (is_ours r at x f) (is_assigned f.tpid)
