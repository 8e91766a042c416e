-- The ledger of a port, from what calls do: copies granted, handed out and dropped (page 01, demand 3). Assumes nothing.
use Rattle.std.specs.Prelude.{ℕ, Bool, eqb}
use Rattle.checks.specs.Order.{pick}
use Rattle.sets.specs.Sets.{in_set}
use Rattle.history.specs.Outcome.{Outcome, Out, nothing, from}

-- one where a test holds
abbrev pub one : Bool → ℕ
one t = pick t 1 0

module _ (p : ℕ) where
  abbrev pub granted : Outcome → ℕ
  granted o = one (in_set p o.granted)

  abbrev pub dropped : Outcome → ℕ
  dropped o = one (in_set p o.dropped)

  abbrev pub out_by : Out → ℕ
  out_by nothing = 0
  out_by (from q e) = one (eqb q p)

  abbrev pub handed_out : Outcome → ℕ
  handed_out o = out_by o.out
