-- What the verdict asks of a header besides its addresses. Assumes nothing.
use Rattle.std.specs.Prelude.{ℕ, Bool, ◌||◌, eqb, ltb, Option, Some, None}
use Rattle.checks.specs.Order.{pick}
use Rattle.header.specs.declared.Qos.{Qos}

-- 003, table 3-2: 1, 4, 5, 6, 8, 10 and 11 are assigned
abbrev pub is_assigned : ℕ → Bool
is_assigned t = eqb t 1 || (eqb t 4 || (eqb t 5 || (eqb t 6 || (eqb t 8 || (eqb t 10 || eqb t 11)))))

abbrev pub assigned_of : ℕ → ℕ
assigned_of t = pick (is_assigned t) 1 0

-- page 01, "Onward half": "hop count present and 0 or 1"
abbrev pub spent_of : Option ℕ → ℕ
spent_of None = 0
spent_of (Some n) = pick (ltb n 2) 1 0

-- page 01, "Numbers that hold everywhere": "A header without precedence counts as 0"
abbrev pub precedence_asked : Option Qos → ℕ
precedence_asked None = 0
precedence_asked (Some q) = q.precedence
