-- A set of ports met with what a walk gathers is what the walk gathers of that set; and tests that agree gather the same. Assumes nothing.
use native.Mathlib.Omega.{arith}
use native.Mathlib.Nat.{add-zero, mod-eq_of_lt, mod-lt, div-add-mod, zero-lt-suc}
use Prim.Native.Nat.{ℕ, zero, suc, ◌+◌, ◌*◌, ◌/◌, ◌%◌, ◌^◌, ◌<◌}
use mathlib.Core.Path.{◌≡◌, refl, sym, ap, ap₂, ◌∙◌}
use mathlib.Core.Bool.{Bool, true, false, ◌&&◌}
use lib.Bits.{bit_and, and_block, and_mask, and_mod, and_le_r, and_zero_r}
use lib.Pow.{pow_pos}
use lib.Dec.{eqb}
use Rattle.checks.specs.Order.{pick}
use Rattle.sets.specs.Sets.{in_set, port_set}
use Rattle.sets.proofs.Loops.{port_set_below}

-- ---- one bit more
low_bits : (w p x : ℕ) → x < 2 ^ p → bit_and (w % 2 ^ p) x ≡ bit_and w x
low_bits w p x h =
    let most : bit_and w x < 2 ^ p = omega (arith, and_le_r w x) in
    sym (sym (mod-eq_of_lt most) ∙ and_mod w x p ∙ ap (bit_and (w % 2 ^ p)) (mod-eq_of_lt h))

top_bit : (w p x : ℕ) → x < 2 ^ p → bit_and w (x + 2 ^ p) ≡ bit_and w x + w / 2 ^ p % 2 * 2 ^ p
top_bit w p x h =
    let cut : w ≡ w / 2 ^ p * 2 ^ p + w % 2 ^ p = omega (arith, div-add-mod w (2 ^ p)) in
    let one : x + 2 ^ p ≡ 1 * 2 ^ p + x = omega arith in
    ap₂ bit_and cut one
    ∙ and_block p (w / 2 ^ p) 1 (w % 2 ^ p) x (mod-lt w (pow_pos p)) h
    ∙ ap₂ (λ (m n : ℕ). m * 2 ^ p + n) (and_mask (w / 2 ^ p) 1) (low_bits w p x h)
    ∙ omega arith

met : (b n : ℕ) → b < 2 → b * n ≡ pick (eqb b 1) n 0
met zero n h = omega arith
met (suc zero) n h = omega arith
met (suc (suc b)) n h = absurd (omega arith)

whole : (t : Bool) (n : ℕ) → pick t n 0 ≡ pick (t && true) n 0
whole true n = refl
whole false n = refl

nothing : (t : Bool) (n x : ℕ) → x ≡ x + pick (t && false) n 0
nothing true n x = sym (add-zero x)
nothing false n x = sym (add-zero x)

one_port : (t : Bool) (w p x : ℕ) → x < 2 ^ p → bit_and w (x + pick t (2 ^ p) 0) ≡ bit_and w x + pick (in_set p w && t) (2 ^ p) 0
one_port true w p x h = top_bit w p x h ∙ ap (λ (n : ℕ). bit_and w x + n) (met (w / 2 ^ p % 2) (2 ^ p) (mod-lt (w / 2 ^ p) (zero-lt-suc 1)) ∙ whole (in_set p w) (2 ^ p))
one_port false w p x h = ap (bit_and w) (add-zero x) ∙ nothing (in_set p w) (2 ^ p) (bit_and w x)

pub within : (w : ℕ) (test : ℕ → Bool) (n : ℕ) → bit_and w (port_set test n) ≡ port_set (λ (p : ℕ). in_set p w && test p) n
within w test zero = and_zero_r w
within w test (suc p) =
    one_port (test p) w p (port_set test p) (port_set_below test p)
    ∙ ap (λ (s : ℕ). s + pick (in_set p w && test p) (2 ^ p) 0) (within w test p)

-- ---- tests that agree
pub same_sets : (f g : ℕ → Bool) (n : ℕ) → ((p : ℕ) → p < n → f p ≡ g p) → port_set f n ≡ port_set g n
same_sets f g zero e = refl
same_sets f g (suc n) e =
    ap₂ (λ (s : ℕ) (t : Bool). s + pick t (2 ^ n) 0) (same_sets f g n (λ p h. e p (omega arith))) (e n (omega arith))
