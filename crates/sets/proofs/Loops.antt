-- What one more turn of a loop makes of what is gathered, at `n + 1` as the code has it; and what is found. Assumes nothing.
use native.Mathlib.Omega.{arith}
use Prim.Native.Nat.{ℕ, zero, suc, ◌+◌, ◌-◌, ◌*◌, ◌%◌, ◌^◌, ◌≤◌, ◌<◌}
use mathlib.Core.Path.{◌≡◌, refl, sym, ap, ◌∙◌}
use mathlib.Core.Bool.{Bool, true, false, ◌||◌}
use native.Mathlib.Numerals.{add-one}
use native.Mathlib.Nat.{mod-eq_of_lt}
use lib.Pow.{pow-lt}
use borrow.Author.Tests.{eq-eqb, ne_eqb, lt-ltb, le-ltb}
use Rattle.checks.specs.Order.{pick}
use Rattle.sets.specs.Sets.{only_port, port_set, any_below, first_below}

pub port_set_next : (test : ℕ → Bool) (p : ℕ) → port_set test (p + 1) ≡ port_set test p + pick (test p) (2 ^ p) 0
port_set_next test p = ap (port_set test) (add-one p)

pub any_below_next : (test : ℕ → Bool) (i : ℕ) → any_below test (i + 1) ≡ (any_below test i || test i)
any_below_next test i = ap (any_below test) (add-one i)

pick_le : (t : Bool) (n : ℕ) → pick t n 0 ≤ n
pick_le true n = omega arith
pick_le false n = omega arith

-- a set of the first n ports is below 2 ^ n
pub port_set_below : (test : ℕ → Bool) (n : ℕ) → port_set test n < 2 ^ n
port_set_below test zero = omega arith
port_set_below test (suc p) = omega (arith, port_set_below test p, pick_le (test p) (2 ^ p))

-- nothing is found below i: one place further
pub first_below_none : (test : ℕ → Bool) (i : ℕ) → first_below test i ≡ i → test i ≡ false → first_below test (i + 1) ≡ i + 1
first_below_none test i none fails = ap (first_below test) (add-one i) ∙ simp (none, fails, eq-eqb i i refl) (sym (add-one i))

-- found at i, and so one further too
first_here : (test : ℕ → Bool) (i : ℕ) → first_below test i ≡ i → test i ≡ true → first_below test (suc i) ≡ i
first_here test i none holds = simp (none, holds, eq-eqb i i refl)

first_further : (test : ℕ → Bool) (i n : ℕ) → i < n → first_below test n ≡ i → first_below test (suc n) ≡ i
first_further test i n under found = simp (found, ne_eqb i n (λ e. omega arith))

first_later : (test : ℕ → Bool) (i k : ℕ) → first_below test (suc i) ≡ i → first_below test (suc (i + k)) ≡ i
first_later test i zero found = ap (λ (n : ℕ). first_below test (suc n)) (let e : i + 0 ≡ i = omega arith in e) ∙ found
first_later test i (suc k) found =
    ap (λ (n : ℕ). first_below test (suc n)) (let e : i + suc k ≡ suc (i + k) = omega arith in e)
    ∙ first_further test i (suc (i + k)) (omega arith) (first_later test i k found)

-- found at i, and so found among all
pub first_below_found :
    (test : ℕ → Bool) (i n : ℕ) → i < n → first_below test i ≡ i → test i ≡ true → first_below test n ≡ i
first_below_found test i n under none holds =
    ap (first_below test) (let e : n ≡ suc (i + (n - suc i)) = omega arith in e) ∙ first_later test i (n - suc i) (first_here test i none holds)

-- ---- the set of one port, as a shift makes it
pub port_below : (p : ℕ) → p < 8 → 2 ^ p < 256
port_below p h = pow-lt {i = p} {j = 8} h

pub only_shifted : (p : ℕ) → p < 8 → 1 * 2 ^ p % 2 ^ 32 ≡ only_port p
only_shifted p h =
    mod-eq_of_lt (omega (arith, port_below p h)) ∙ (let e : 1 * 2 ^ p ≡ 2 ^ p = omega arith in e) ∙ sym (simp (lt-ltb p 8 h))

pub only_none : (p : ℕ) → 8 ≤ p → 0 ≡ only_port p
only_none p h = simp (le-ltb p 8 h)

-- nothing is found among all n
pub first_below_end :
    (test : ℕ → Bool) {n : ℕ} (i : ℕ) → n ≤ i → (i ≤ n) × (first_below test i ≡ i) → i ≡ first_below test n
first_below_end test {n} i h e = sym e.1 ∙ ap (first_below test) (let z : i ≡ n = omega (arith, e.0) in z)
