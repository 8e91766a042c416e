-- Sets of ports as numbers, and as tests of a port's number: when a number is the empty set, the set of one port, and what is left of a
-- set without one port. Assumes nothing.
use native.Mathlib.Omega.{arith}
use native.Mathlib.Nat.{div-eq_of_lt, lt_of_not-le}
use native.Mathlib.Decide.{dec_le}
use Prim.Native.Nat.{ℕ, zero, suc, ◌-◌, ◌*◌, ◌%◌, ◌^◌, ◌<◌, ◌≤◌}
use mathlib.Core.Path.{◌≡◌, refl, sym, ap, subst, ◌∙◌}
use mathlib.Core.Logic.{by_cases}
use mathlib.Core.Bool.{Bool, true, false, not, ◌||◌, or-false}
use lib.Dec.{eqb, ltb}
use lib.Bits.{bit_and}
use lib.Pow.{pow_pos}
use borrow.Author.Tests.{eq-eqb, ne_eqb, eqb-true, eqb-false, lt-ltb, ltb-true}
use Rattle.checks.proofs.Bools.{true_false, refuted}
use Rattle.sets.specs.Sets.{in_set, only_port, any_below}
use Rattle.sets.proofs.Anywhere.{any_is, any_found}
use Rattle.networks.proofs.Bits.{bit, bit_small, same_bits}
use Rattle.verdict.specs.Rule.{except_by}
use Rattle.page.specs.Table.{Ports, some_port, nothing_but}
use Rattle.survey.proofs.Bits.{in_none, with_power, only_that, only_has}

-- a bit that is not one is zero
bit_none : (p n : ℕ) → in_set p n ≡ false → bit p n ≡ bit p 0
bit_none p n h =
    let zero_bit : bit p 0 ≡ 0 = ap (λ (x : ℕ). x % 2) (div-eq_of_lt (pow_pos p)) in
    omega (arith, zero_bit, bit_small p n, eqb-false (bit p n) 1 h)

-- A number is the empty set exactly where no port passes the test that it stands for.
pub empty_is : (n : ℕ) (ports : Ports) → n < 256 → ((p : ℕ) → p < 8 → in_set p n ≡ ports p) → eqb n 0 ≡ not (some_port ports)
unfolding some_port
empty_is n ports small same = by (any_below ports 8) refl
  where
    by : (t : Bool) → any_below ports 8 ≡ t → eqb n 0 ≡ not t
    by true e =
        let at = (any_is ports 8).0 e in
        ne_eqb n 0 (λ z. true_false (sym at.2 ∙ sym (same at.0 at.1) ∙ ap (in_set at.0) z ∙ in_none at.0))
    by false e =
        eq-eqb n 0 (same_bits 8 n 0 small (omega arith) (λ p l.
        bit_none p n (same p l ∙ refuted (ports p) (λ h. true_false (sym (any_found ports p 8 l h) ∙ e)))))

-- The set of one port has that port alone, and none where the port is over 7.
pub only_is : (p q : ℕ) → p < 8 → in_set p (only_port q) ≡ eqb p q
only_is p q l = by (eqb p q) refl
  where
    over : (t : Bool) → ltb q 8 ≡ t → in_set p (only_port q) ≡ true → p ≡ q
    over true e h = only_that p q (ltb-true q 8 e) h
    over false e h = true_false (sym h ∙ ap (in_set p) (simp e) ∙ in_none p)

    by : (t : Bool) → eqb p q ≡ t → in_set p (only_port q) ≡ t
    by true e = ap (λ (x : ℕ). in_set p (only_port x)) (sym (eqb-true p q e)) ∙ only_has p l
    by false e = refuted (in_set p (only_port q)) (λ h. eqb-false p q e (over (ltb q 8) refl h))

-- a set with port p is not below 2 ^ p
with_port : (p n : ℕ) → bit p n ≡ 1 → 2 ^ p ≤ n
with_port p n e = by_cases (dec_le (2 ^ p) n) (λ l. l) λ g. absurd (omega (arith, e, low (lt_of_not-le g)))
  where
    low : n < 2 ^ p → bit p n ≡ 0
    low l = ap (λ (x : ℕ). x % 2) (div-eq_of_lt l)

-- Without one port nothing is left of the empty set and of that port alone.
pub nothing_is : (at set : ℕ) → at < 8 → eqb (except_by set (only_port at)) 0 ≡ nothing_but at set
nothing_is at set l =
    ap (λ (n : ℕ). eqb (set - n) 0) (ap (bit_and set) (simp (lt-ltb at 8 l)) ∙ with_power set at)
    ∙ by (bit at set) (2 ^ at) (bit_small at set) refl refl
  where
    own_bit : bit at (2 ^ at) ≡ 1
    own_bit = eqb-true _ 1 (ap (in_set at) (sym (simp (lt-ltb at 8 l))) ∙ only_has at l)

    same : (w : ℕ) → w ≤ set → 0 < w → (t : Bool) → eqb set w ≡ t → eqb (set - w) 0 ≡ t
    same w under some true e = eq-eqb (set - w) 0 (omega (arith, eqb-true set w e))
    same w under some false e = ne_eqb (set - w) 0 (λ z. eqb-false set w e (omega arith))

    by : (b w : ℕ) → b < 2 → b ≡ bit at set → w ≡ 2 ^ at → eqb (set - b * w) 0 ≡ (eqb set 0 || eqb set w)
    by zero w h e f =
        let other : eqb set w ≡ false = ne_eqb set w (λ z. omega (arith, e, own_bit, ap (bit at) (z ∙ f))) in
        ap (λ (n : ℕ). eqb n 0) (let z : set - 0 * w ≡ set = omega arith in z) ∙ rw other (sym (or-false (eqb set 0)))
    by (suc zero) w h e f =
        let under : w ≤ set = subst (λ (n : ℕ). n ≤ set) (sym f) (with_port at set (sym e)) in
        let some : 0 < w = subst (λ (n : ℕ). 0 < n) (sym f) (pow_pos at) in
        ap (λ (n : ℕ). eqb n 0) (let z : set - 1 * w ≡ set - w = omega arith in z)
        ∙ same w under some (eqb set w) refl
        ∙ sym (simp (ne_eqb set 0 (λ z. omega arith)))
    by (suc (suc b)) w h e f = absurd (omega arith)
