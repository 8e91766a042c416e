-- What a call answers and leaves, by whether it is refused: the board, or a state of which it writes one part alone. Assumes nothing.
use Prim.Native.Nat.{ℕ}
use mathlib.Core.Path.{◌≡◌, refl, sym, ap, ◌∙◌}
use mathlib.Core.Logic.{◌≢◌}
use mathlib.Core.Bool.{Bool}
use mathlib.Core.List.{[], ◌∷◌}
use borrow.Author.Tests.{eq-eqb, ne_eqb}
use Rattle.std.specs.Prelude.{Result, Err}
use Rattle.checks.specs.Order.{check_of, first_of, Refusals, numbered, outcome, number_in}
use Rattle.checks.specs.declared.Refusal.{Refusal}
use Rattle.checks.specs.declared.Check.{Check}
use Rattle.checks.specs.declared.Check.TheVariants.{Passed, Failed}
use Rattle.checks.proofs.Laws.{some, number_outcome}
use Rattle.checks.proofs.Steps.{fails_here, passes, none_left}
use Rattle.state.specs.Relay.{Mission, Relay}
use Rattle.state.specs.Seen.{State}
use Rattle.adjust.specs.Settled.{settled}

-- ---- the part that is written, in the whole
abbrev pub whole : {A : Type 0} → A → A
whole x = x

-- a mission's own, with its number, memory and counters as they were
abbrev pub own : State → Mission → State
own s m = record { number = s.number; mission = m; memory = s.memory; counters = s.counters }

-- and what of a relay is the mission's own
abbrev pub own_of : State → Relay → State
own_of s r = own s r.mission

module _ {A S : Type 0} (in_whole : A → S) (answer refusal : ℕ) (new old : A) (is : answer ≡ refusal) where
  pub refused : answer ≢ 0 → (answer ≡ refusal) × (in_whole old ≡ in_whole (settled refusal new old))
  refused not-zero = (is, rw (ne_eqb refusal 0 (λ e. not-zero (is ∙ e))))

  pub taken : (left : S) → answer ≡ 0 → left ≡ in_whole new → (0 ≡ refusal) × (left ≡ in_whole (settled refusal new old))
  taken left zero e = (sym zero ∙ is, rw (eq-eqb refusal 0 (sym is ∙ zero)) e)

-- a call that asks one check
module _ {A S : Type 0} (in_whole : A → S) (t : Bool) (n : ℕ) (new old : A) (answer : Check) (is : answer ≡ check_of t) where
  pub check_failed : answer ≡ Failed → n ≢ 0
      → (n ≡ first_of ((t, n) ∷ [])) × (in_whole old ≡ in_whole (settled (first_of ((t, n) ∷ [])) new old))
  check_failed failed not-zero = refused in_whole n _ new old (fails_here t n [] is failed) not-zero

  pub check_passed : (left : S) → left ≡ in_whole new → answer ≡ Passed
      → (0 ≡ first_of ((t, n) ∷ [])) × (left ≡ in_whole (settled (first_of ((t, n) ∷ [])) new old))
  check_passed left e passed = taken in_whole 0 _ new old (passes t n [] is passed none_left) left refl e

-- ---- an answer that carries a refusal
pub told_number : (cs : Refusals) (x : Result Unit Refusal) → x ≡ outcome cs tt → number_in x ≡ first_of (numbered cs)
told_number cs x e = ap number_in e ∙ number_outcome cs tt

pub some_number : (x : Result Unit Refusal) (r : Refusal) → x ≡ Err r → number_in x ≢ 0
some_number x r e zero = some r (ap number_in (sym e) ∙ zero)
