-- What the check of a flooded datagram answers, over plain variables; and that a pair has all octets of a timestamp. Assumes nothing.
use native.Mathlib.Omega.{arith}
use native.Mathlib.Nat.{pow-le-pow_right}
use Prim.Native.Nat.{ℕ, ◌%◌, ◌^◌, ◌≤◌, ◌<◌}
use mathlib.Core.Path.{◌≡◌, refl, sym, ap, ap₂, ◌∙◌}
use mathlib.Core.Bool.{Bool, true, false, not, ◌&&◌, ◌||◌}
use lib.Dec.{eqb}
use borrow.Author.Tests.{eq-eqb, ne_eqb, not-true}
use Rattle.std.specs.Prelude.{Option, Some, None}
use Rattle.checks.proofs.Bools.{not-false}
use Rattle.checks.specs.Order.{check_of}
use Rattle.checks.specs.declared.Check.TheVariants.{Passed, Failed}
use Rattle.header.specs.Build.{source_flag, format_of}
use Rattle.header.specs.Form.{time_size}
use Rattle.header.specs.Range.{StampFits}
use Rattle.header.specs.declared.Fields.{Fields}
use Rattle.header.specs.declared.Timestamp.{Timestamp}
use Rattle.header.specs.declared.Timestamp.TheVariants as stamp
use Rattle.meaning.specs.Flood.{is_flooded, unmarked, upper_of, lower_of}

-- ---- 28
module _ (f : Fields) {flooded : Bool} (is : flooded ≡ is_flooded f) where
  pub not_flooded : not flooded ≡ true → Passed ≡ check_of (unmarked f)
  not_flooded h = ap (λ (t : Bool). check_of (t && (eqb (source_flag f.addresses) 0 || eqb (format_of f.stamp) 0))) (sym (not-true flooded h) ∙ is)

  module _ (yes : not flooded ≡ false) {source : ℕ} (from : source ≡ source_flag f.addresses) where
    marked_by : (t u : Bool) → t ≡ eqb (source_flag f.addresses) 0 → u ≡ eqb (format_of f.stamp) 0 → check_of (t || u) ≡ check_of (unmarked f)
    marked_by t u e d = ap₂ (λ (a b : Bool). check_of (a || b)) e d ∙ ap (λ (a : Bool). check_of (a && (eqb (source_flag f.addresses) 0 || eqb (format_of f.stamp) 0))) (sym (not-false flooded yes) ∙ is)

    pub no_source : source ≡ 0 → Failed ≡ check_of (unmarked f)
    no_source h = marked_by true _ (sym (eq-eqb _ 0 (sym from ∙ h))) refl

    module _ (some : source ≡ 0 → ⊥) {format : ℕ} (dated : format ≡ format_of f.stamp) where
      here : false ≡ eqb (source_flag f.addresses) 0
      here = sym (ne_eqb _ 0 (λ z. some (from ∙ z)))

      pub no_stamp : format ≡ 0 → Failed ≡ check_of (unmarked f)
      no_stamp h = marked_by false true here (sym (eq-eqb _ 0 (sym dated ∙ h)))

      pub marked : (format ≡ 0 → ⊥) → Passed ≡ check_of (unmarked f)
      marked h = marked_by false false here (sym (ne_eqb _ 0 (λ z. h (dated ∙ z))))

-- ---- a pair has all octets of a timestamp, the P-field with them (page 02, W-207: "pairs of source and timestamp, format included"; ruling 25)
-- what a reader can give at the most: 3 octets; a P-field and 7; 4
abbrev pub StampHeld : Option Timestamp → Type 0
StampHeld None = Unit
StampHeld (Some (stamp.Implicit time)) = time < 2 ^ 24
StampHeld (Some (stamp.Explicit field time)) = (field < 256) × (time < 2 ^ 56)
StampHeld (Some (stamp.Binary time)) = time < 2 ^ 32

-- and each that fits its octets is such a one
pub stamp_held : (m : Option Timestamp) → StampFits m → StampHeld m
stamp_held None h = tt
stamp_held (Some (stamp.Implicit time)) h = h
stamp_held (Some (stamp.Explicit field time)) h =
    let most : 256 ^ time_size field ≤ 256 ^ 7 = pow-le-pow_right {n = 256} (omega arith) {i = time_size field} {j = 7} (omega arith) in
    (h.0, omega (arith, h.1))
stamp_held (Some (stamp.Binary time)) h = h

time_told : (s t : ℕ) → s < 2 ^ 32 → t < 2 ^ 32 → s % 2 ^ 32 ≡ t % 2 ^ 32 → s ≡ t
time_told s t h l e = omega arith

-- equal format and equal words are equal timestamps
pub stamp_told :
    (m n : Option Timestamp) → StampHeld m → StampHeld n → format_of m ≡ format_of n → upper_of m ≡ upper_of n → lower_of m ≡ lower_of n → m ≡ n
stamp_told None None h l f u w = refl
stamp_told None (Some (stamp.Implicit t)) h l f u w = absurd (omega arith)
stamp_told None (Some (stamp.Explicit p t)) h l f u w = absurd (omega arith)
stamp_told None (Some (stamp.Binary t)) h l f u w = absurd (omega arith)
stamp_told (Some (stamp.Implicit s)) None h l f u w = absurd (omega arith)
stamp_told (Some (stamp.Implicit s)) (Some (stamp.Implicit t)) h l f u w = ap (λ t. Some (stamp.Implicit t)) (time_told s t (omega arith) (omega arith) w)
stamp_told (Some (stamp.Implicit s)) (Some (stamp.Explicit p t)) h l f u w = absurd (omega arith)
stamp_told (Some (stamp.Implicit s)) (Some (stamp.Binary t)) h l f u w = absurd (omega arith)
stamp_told (Some (stamp.Explicit q s)) None h l f u w = absurd (omega arith)
stamp_told (Some (stamp.Explicit q s)) (Some (stamp.Implicit t)) h l f u w = absurd (omega arith)
stamp_told (Some (stamp.Explicit q s)) (Some (stamp.Explicit p t)) h l f u w = ap₂ (λ s t. Some (stamp.Explicit s t)) (omega arith) (omega arith)
stamp_told (Some (stamp.Explicit q s)) (Some (stamp.Binary t)) h l f u w = absurd (omega arith)
stamp_told (Some (stamp.Binary s)) None h l f u w = absurd (omega arith)
stamp_told (Some (stamp.Binary s)) (Some (stamp.Implicit t)) h l f u w = absurd (omega arith)
stamp_told (Some (stamp.Binary s)) (Some (stamp.Explicit p t)) h l f u w = absurd (omega arith)
stamp_told (Some (stamp.Binary s)) (Some (stamp.Binary t)) h l f u w = ap (λ t. Some (stamp.Binary t)) (time_told s t h l w)
