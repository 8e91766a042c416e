-- `builder::range::numbers_in` meets its contract: 256 to a power is 2 to eight times that power, and 2 to 56 fits the word. Assumes nothing.
use native.Mathlib.Omega.{arith}
use native.Mathlib.Nat.{mod-eq_of_lt, pow-suc}
use Prim.Native.Nat.{ℕ, zero, suc, ◌+◌, ◌*◌, ◌^◌, ◌%◌, ◌≤◌}
use mathlib.Core.Path.{◌≡◌, refl, sym, ap, ◌∙◌}
use lib.Pow.{pow-lt, pow-add}
use Rattle.builder.proofs.range.numbers_in.Goals as goal

powers : (k : ℕ) → 2 ^ (8 * k) ≡ 256 ^ k
powers zero = refl
powers (suc k) =
    ap (λ (n : ℕ). 2 ^ n) (let e : 8 * suc k ≡ 8 * k + 8 = omega arith in e)
    ∙ pow-add 2 (8 * k) 8
    ∙ ap (λ (n : ℕ). n * 256) (powers k)
    ∙ sym (pow-suc 256 k)

shifted : (k : ℕ) → k ≤ 7 → 1 * 2 ^ (8 * k) % 2 ^ 64 ≡ 256 ^ k
shifted k h =
    let under = pow-lt {i = 8 * k} {j = 64} (omega arith) in
    mod-eq_of_lt (omega arith) ∙ (let e : 1 * 2 ^ (8 * k) ≡ 2 ^ (8 * k) = omega arith in e) ∙ powers k

pub returns : goal.returns
returns c = shifted _ c.requires
