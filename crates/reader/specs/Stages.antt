-- The first stage of reading: the control field, or the first of the checks 1, 2, 1, 4 that fails (page 01, step 2). Assumes nothing.
use Rattle.std.specs.Prelude.{ℕ, List, [], ◌∷◌, Result, length, ltb}
use Rattle.checks.specs.Order.{Refusals, outcome}
use Rattle.checks.specs.declared.Refusal.{Refusal}
use Rattle.checks.specs.declared.Refusal.TheVariants.{TooShort, OtherVersion, WrongForm}
use Rattle.header.specs.Form.{control_of, forbidden}
use Rattle.header.specs.Read.{other_version, cut}
use Rattle.header.specs.declared.Control.{Control}

abbrev pub front_refusals : List ℕ → Refusals
front_refusals s =
    (ltb (length s) 3, TooShort) ∷ (other_version s, OtherVersion) ∷ (cut s (control_of s), TooShort) ∷ (forbidden (control_of s), WrongForm) ∷ []

abbrev pub front_of : List ℕ → Result Control Refusal
front_of s = outcome (front_refusals s) (control_of s)
