-- Four numbers written one after the other make the front of a header: said over plain variables. Assumes nothing.
use native.Mathlib.Omega.{arith}
use Prim.Native.Nat.{ℕ, ◌+◌, ◌≤◌}
use mathlib.Core.Path.{◌≡◌}
use mathlib.Core.List.{List, append_assoc}
use lib.ListN.{length, length-append}
use Rattle.octets.proofs.Laws.{length_octets, Put, PutNumber, put_one, put_two}
use Rattle.header.specs.Limits.{length_limit}
use Rattle.header.specs.Build.{present, front_octets}
use Rattle.header.proofs.Pieces.{present_le}

pub front_put : (l m₁ m₂ m₃ m₄ : List ℕ) (r₁ r₂ r₃ r₄ len shared second third p q : ℕ) → p ≡ present second → q ≡ present third → PutNumber l m₁ 0 r₁ 2 (length_limit + len)
    → PutNumber m₁ m₂ r₁ r₂ 1 shared → PutNumber m₂ m₃ r₂ r₃ p second → PutNumber m₃ m₄ r₃ r₄ q third → 5 ≤ length l → Put l m₄ 0 r₄ (front_octets len shared second third)
unfolding front_octets
front_put l m₁ m₂ m₃ m₄ r₁ r₂ r₃ r₄ len shared second third p q ep eq p₁ p₂ p₃ p₄ h =
    let hp = present_le second in
    let hq = present_le third in
    let la = length_octets 2 (length_limit + len) in
    let lb = length_octets 1 shared in
    let lc = length_octets p second in
    let ld = length_octets q third in
    let q₂ = put_two l m₁ m₂ _ _ 0 r₁ r₂ (put_one l m₁ 0 2 _ r₁ p₁) (put_one m₁ m₂ r₁ 1 _ r₂ p₂) (omega arith) in
    let q₃ = put_two l m₂ m₃ _ _ 0 r₂ r₃ q₂ (put_one m₂ m₃ r₂ p _ r₃ p₃) (simp length-append (omega arith)) in
    let q₄ = put_two l m₃ m₄ _ _ 0 r₃ r₄ q₃ (put_one m₃ m₄ r₃ q _ r₄ p₄) (simp length-append (omega arith)) in
    rw (← ep, ← eq) (simp append_assoc at q₄)
