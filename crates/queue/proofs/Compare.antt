-- Of two numbers the first is below the second, or not. Assumes nothing.
use Prim.Native.Nat.{ℕ, ◌≤◌, ◌<◌}
use mathlib.Core.Bool.{Bool, true, false}
use mathlib.Core.Path.{◌≡◌, refl}
use lib.Dec.{ltb}
use borrow.Author.Tests.{ltb-true, ltb-false}

pub by_order : {B : Type 0} (m n : ℕ) → (m < n → B) → (n ≤ m → B) → B
by_order {B} m n below above = case (ltb m n) refl
  where
    case : (t : Bool) → ltb m n ≡ t → B
    case true h = below (ltb-true m n h)
    case false h = above (ltb-false m n h)
