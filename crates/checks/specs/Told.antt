-- What is told of an answer (page 01): the value, or the refusal's number. Assumes nothing.
use Rattle.std.specs.Prelude.{ℕ, eqb, Result, Ok, Err}
use Rattle.checks.specs.Order.{pick, number_of}
use Rattle.checks.specs.declared.Refusal.{Refusal}

pub data Told (A : Type 0) : Type 0 where
  Good : A → Told A
  Refused : ℕ → Told A

abbrev pub told : {A : Type 0} → Result A Refusal → Told A
told (Ok a) = Good a
told (Err r) = Refused (number_of r)

-- a value, or the number of the first check, where that is not 0
abbrev pub told_by : {A : Type 0} → ℕ → A → Told A
told_by n a = pick (eqb n 0) (Good a) (Refused n)
