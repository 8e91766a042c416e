-- Which ports a set has that a loop over the ports gathers. Assumes nothing.
use native.Mathlib.Omega.{arith}
use native.Mathlib.Nat.{pow-succ', div-eq_of_lt, add-zero, add-mul-div_right, eq-or-lt_of_le, le_of_suc-le-suc}
use Prim.Native.Nat.{ℕ, zero, suc, ◌+◌, ◌-◌, ◌*◌, ◌/◌, ◌%◌, ◌^◌, ◌<◌}
use mathlib.Core.Path.{◌≡◌, ap, ◌∙◌}
use mathlib.Core.Logic.{⊎_elim}
use mathlib.Core.Bool.{Bool, true, false}
use lib.Dec.{eqb}
use lib.Pow.{pow_pos, pow-add}
use Rattle.checks.specs.Order.{pick}
use Rattle.sets.specs.Sets.{in_set, port_set}
use Rattle.sets.proofs.Loops.{port_set_below}

-- ---- bit p of a sum with a power of 2
pub added_bit : (p k x : ℕ) → (x + 2 ^ (suc k + p)) / 2 ^ p % 2 ≡ x / 2 ^ p % 2
added_bit p k x =
    let whole : 2 ^ (suc k + p) ≡ 2 ^ suc k * 2 ^ p = pow-add 2 (suc k) p in
    ap (λ (n : ℕ). (x + n) / 2 ^ p % 2) whole
    ∙ ap (λ (n : ℕ). n % 2) (add-mul-div_right x (2 ^ suc k) (pow_pos p))
    ∙ omega (arith, pow-succ' 2 k)

pub top_bit : (p x : ℕ) → x < 2 ^ p → (x + 2 ^ p) / 2 ^ p % 2 ≡ 1
top_bit p x h =
    ap (λ (n : ℕ). (x + n) / 2 ^ p % 2) (let e : 2 ^ p ≡ 1 * 2 ^ p = omega arith in e)
    ∙ ap (λ (n : ℕ). n % 2) (add-mul-div_right x 1 (pow_pos p) ∙ ap (λ (n : ℕ). n + 1) (div-eq_of_lt h))

pub over_bit : (p x : ℕ) → x < 2 ^ p → x / 2 ^ p % 2 ≡ 0
over_bit p x h = ap (λ (n : ℕ). n % 2) (div-eq_of_lt h)

-- no port is in the empty set
pub in_none : (p : ℕ) → in_set p 0 ≡ false
in_none p = simp (over_bit p 0 (pow_pos p))

-- port p of the sets of one port more
top_case : (t : Bool) (p x : ℕ) → x < 2 ^ p → in_set p (x + pick t (2 ^ p) 0) ≡ t
top_case true p x h = simp (top_bit p x h)
top_case false p x h = simp (add-zero x, over_bit p x h)

lower_case : (t : Bool) (p k x : ℕ) → in_set p (x + pick t (2 ^ (suc k + p)) 0) ≡ in_set p x
lower_case true p k x = ap (λ (b : ℕ). eqb b 1) (added_bit p k x)
lower_case false p k x = simp (add-zero x)

-- It has the ports that the test holds at.
pub in_gathered : (test : ℕ → Bool) (p n : ℕ) → p < n → in_set p (port_set test n) ≡ test p
in_gathered test p zero h = absurd (omega arith)
in_gathered test p (suc m) h =
    ⊎_elim
    (λ e. rw e (top_case (test m) m (port_set test m) (port_set_below test m)))
    (λ l.
    ap (λ (n : ℕ). in_set p (port_set test m + pick (test m) (2 ^ n) 0)) (let e : m ≡ suc (m - suc p) + p = omega arith in e)
    ∙ lower_case (test m) p (m - suc p) (port_set test m)
    ∙ in_gathered test p m l)
    (eq-or-lt_of_le (le_of_suc-le-suc h))
