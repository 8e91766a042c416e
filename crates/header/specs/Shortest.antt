-- The shortest control field, and unused bits that are zero (page 01, "Refusal numbers": so the builder writes it, and so it must have been where
-- building what was read gives the same octets). Assumes nothing.
use Rattle.std.specs.Prelude.{ℕ, ◌%◌, ◌≤◌, ◌<◌, ◌≡◌, List, get_or}
use Rattle.header.specs.Form.{bit_weight, control_of, second_follows, third_follows, reserved21, reserved29, fourth_follows, unassigned}
use Rattle.header.specs.Build.{present}
use Rattle.header.specs.declared.Control.{Control}

-- no octet of it stands there to say nothing: the second and the third are there exactly where they are not 0
abbrev pub Shortest : Control → Type 0
Shortest k = (second_follows k.first ≡ present k.second) × (third_follows k.second ≡ present k.third)

-- the bits that table 3-4 gives no use: 21 and 29 are reserved, 32 would announce an octet that there is not, 36 to 39 are not assigned
abbrev pub UnusedZero : Control → Type 0
UnusedZero k = (reserved21 k ≡ 0) × (reserved29 k ≡ 0) × (fourth_follows k ≡ 0) × (unassigned k ≡ 0)

-- two control fields say the same: they differ in bits 20 and 24 at most, which only announce a further octet
abbrev pub SaysTheSame : Control → Control → Type 0
SaysTheSame j k = (j.first % bit_weight 20 ≡ k.first % bit_weight 20) × (j.second % bit_weight 24 ≡ k.second % bit_weight 24) × (j.third ≡ k.third)

-- what "shortest" means (law `shortest_exactly`): no octets with a control field that says the same have one that ends earlier
abbrev pub NoneShorter : List ℕ → Type 0
NoneShorter s = (t : List ℕ) → ((i : ℕ) → get_or t i 0 < 256) → SaysTheSame (control_of t) (control_of s) → (control_of s).end ≤ (control_of t).end
