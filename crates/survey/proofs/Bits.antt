-- Which ports a set has: the bits of an intersection, of a set without another, and of one port; what a walk gathers stands with the sets. Assumes nothing.
use native.Mathlib.Omega.{arith}
use native.Mathlib.Nat.{mod-lt, zero-lt-suc, div-div-eq-div-mul, pow-succ', div-one, eq-or-lt_of_le, lt_of_not-le}
use native.Mathlib.Numerals.{one-add}
use Prim.Native.Nat.{ℕ, zero, suc, ◌+◌, ◌-◌, ◌*◌, ◌/◌, ◌%◌, ◌^◌, ◌≤◌, ◌<◌, min}
use mathlib.Core.Path.{◌≡◌, refl, sym, ap, ap₂, ◌∙◌}
use mathlib.Core.Bool.{true, false, not, ◌&&◌}
use native.Mathlib.Decide.{dec_le}
use mathlib.Core.Logic.{◌⊎◌, inl, inr, ⊎_elim, by_cases}
use lib.Bits.{bit_and, and_step, and_high, and_le_l}
use lib.Pow.{pow_pos, pow-lt}
use Rattle.checks.proofs.Bools.{true_false}
use borrow.Author.Tests.{eq-eqb, ne_eqb, lt-ltb}
use lib.Dec.{eqb}
use Rattle.networks.proofs.Bits.{bit, bit_small, and_bit}
use Rattle.verdict.specs.Rule.{except_by}
use Rattle.sets.specs.Sets.{in_set, only_port}
use Rattle.sets.proofs.Members.{added_bit, top_bit, over_bit}
pub use Rattle.sets.proofs.Members.{in_gathered, in_none}

-- one bit of a set without another
except_step : (g f : ℕ) → except_by g f ≡ except_by (g / 2) (f / 2) * 2 + (g % 2 - min (g % 2) (f % 2))
except_step g f = omega (arith, and_step g f, and_le_l (g / 2) (f / 2))

-- the bits from bit p on
halved : (x p : ℕ) → x / 2 ^ suc p ≡ x / 2 / 2 ^ p
halved x p = ap (λ (n : ℕ). x / n) (pow-succ' 2 p) ∙ sym (div-div-eq-div-mul x 2 (2 ^ p))

except_half : (g f : ℕ) → except_by g f / 2 ≡ except_by (g / 2) (f / 2)
except_half g f = omega (arith, except_step g f, mod-lt g (zero-lt-suc 1))

except_shift : (p g f : ℕ) → except_by g f / 2 ^ p ≡ except_by (g / 2 ^ p) (f / 2 ^ p)
except_shift zero g f = rw (div-one g, div-one f) (div-one (except_by g f))
except_shift (suc p) g f =
    halved (except_by g f) p
    ∙ ap (λ (x : ℕ). x / 2 ^ p) (except_half g f)
    ∙ except_shift p (g / 2) (f / 2)
    ∙ ap₂ except_by (sym (halved g p)) (sym (halved f p))

pub bit_except : (p g f : ℕ) → bit p (except_by g f) ≡ bit p g - min (bit p g) (bit p f)
bit_except p g f =
    rw (except_shift p g f) (omega (arith, except_step (g / 2 ^ p) (f / 2 ^ p), mod-lt (g / 2 ^ p) (zero-lt-suc 1)))

-- ---- ports in a set
both : (a b : ℕ) → a < 2 → b < 2 → eqb (min a b) 1 ≡ (eqb a 1 && eqb b 1)
both zero b h k = ne_eqb (min 0 b) 1 (λ e. omega arith)
both (suc zero) zero h k = refl
both (suc zero) (suc zero) h k = refl
both (suc zero) (suc (suc b)) h k = absurd (omega arith)
both (suc (suc a)) b h k = absurd (omega arith)

first_only : (a b : ℕ) → a < 2 → b < 2 → eqb (a - min a b) 1 ≡ (eqb a 1 && not (eqb b 1))
first_only zero b h k = ne_eqb (0 - min 0 b) 1 (λ e. omega arith)
first_only (suc zero) zero h k = refl
first_only (suc zero) (suc zero) h k = refl
first_only (suc zero) (suc (suc b)) h k = absurd (omega arith)
first_only (suc (suc a)) b h k = absurd (omega arith)

pub in_and : (p g f : ℕ) → in_set p (bit_and g f) ≡ (in_set p g && in_set p f)
in_and p g f = rw (and_bit p g f) (both (bit p g) (bit p f) (bit_small p g) (bit_small p f))

pub in_except : (p g f : ℕ) → in_set p (except_by g f) ≡ (in_set p g && not (in_set p f))
in_except p g f = rw (bit_except p g f) (first_only (bit p g) (bit p f) (bit_small p g) (bit_small p f))

-- the set of one port meets those that have the port
met : (b n : ℕ) → b < 2 → 0 < n → eqb (b * n) 0 ≡ not (eqb b 1)
met zero n h k = simp (eq-eqb (0 * n) 0 (omega arith))
met (suc zero) n h k = simp (ne_eqb (1 * n) 0 (λ e. omega arith))
met (suc (suc b)) n h k = absurd (omega arith)

pub with_power : (s p : ℕ) → bit_and s (2 ^ p) ≡ bit p s * 2 ^ p
with_power s p = ap (bit_and s) (let e : 2 ^ p ≡ 2 ^ (1 + p) - 2 ^ p = omega (arith, pow-succ' 2 p, ap (λ (n : ℕ). 2 ^ n) (one-add p)) in e) ∙ and_high s 1 p

pub only_in : (p s : ℕ) → p < 8 → eqb (bit_and s (only_port p)) 0 ≡ not (in_set p s)
only_in p s h = simp (lt-ltb p 8 h) (rw (with_power s p) (met (bit p s) (2 ^ p) (bit_small p s) (pow_pos p)))

-- the set of one port has that port alone
pub only_that : (p q : ℕ) → q < 8 → in_set p (only_port q) ≡ true → p ≡ q
only_that p q h k =
    ⊎_elim
    (λ (l : p < q). true_false (sym is ∙ lower l))
    (λ (g : q ≤ p). ⊎_elim (λ (e : q ≡ p). sym e) (λ (o : q < p). true_false (sym is ∙ higher o)) (eq-or-lt_of_le g))
    (lt_or_ge p q)
  where
    is : in_set p (2 ^ q) ≡ true
    is = sym (ap (in_set p) (simp (lt-ltb q 8 h))) ∙ k

    higher : q < p → in_set p (2 ^ q) ≡ false
    higher o = ap (λ (b : ℕ). eqb b 1) (over_bit p (2 ^ q) (pow-lt {i = q} {j = p} o))

    lower : p < q → in_set p (2 ^ q) ≡ false
    lower l =
        ap (λ (n : ℕ). in_set p (2 ^ n)) (let e : q ≡ suc (q - suc p) + p = omega arith in e)
        ∙ ap (λ (n : ℕ). in_set p n) (let e : 2 ^ (suc (q - suc p) + p) ≡ 0 + 2 ^ (suc (q - suc p) + p) = omega arith in e)
        ∙ ap (λ (b : ℕ). eqb b 1) (added_bit p (q - suc p) 0)
        ∙ ap (λ (b : ℕ). eqb b 1) (over_bit p 0 (pow_pos p))

    lt_or_ge : (a b : ℕ) → (a < b) ⊎ (b ≤ a)
    lt_or_ge a b = by_cases (dec_le b a) (λ g. inr g) (λ n. inl (lt_of_not-le n))

-- a power of 2 has its own bit
pub power_has : (p : ℕ) → in_set p (2 ^ p) ≡ true
power_has p = ap (λ (b : ℕ). eqb b 1) (ap (λ (n : ℕ). bit p n) (let e : 2 ^ p ≡ 0 + 2 ^ p = omega arith in e) ∙ top_bit p 0 (pow_pos p))

pub only_has : (p : ℕ) → p < 8 → in_set p (only_port p) ≡ true
only_has p h = ap (in_set p) (simp (lt-ltb p 8 h)) ∙ power_has p
