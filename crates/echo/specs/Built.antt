-- What building an echo message answers and writes: 17 where the room is short of the message, then 20 where it has over 8,141 octets, the most user data that a
-- datagram carries (page 01, "Numbers that hold everywhere"); every number of its width is taken (docs/DECISIONS.md). Assumes nothing.
use Rattle.std.specs.Prelude.{ℕ, ◌+◌, List, [], ◌∷◌, length, ltb}
use Rattle.checks.specs.Order.{Checks, first_of, Refusals, numbered}
use Rattle.checks.specs.declared.Refusal.TheVariants.{NoOutputRoom, TooMuchData}
use Rattle.header.specs.Limits.{too_much_data}
use Rattle.header.specs.Build.{built_by, output_by, Built}
use Rattle.echo.specs.Message.{fixed_size, message_octets}
use Rattle.echo.specs.declared.Message.{Message}

-- the octets of a message with so much data
abbrev pub size_with : Message → ℕ → ℕ
size_with m n = fixed_size m.kind + n

abbrev pub build_refusals : Message → ℕ → ℕ → Refusals
build_refusals m n room = (ltb room (size_with m n), NoOutputRoom) ∷ (too_much_data (size_with m n), TooMuchData) ∷ []

unfoldable pub build_checks : Message → ℕ → ℕ → Checks
build_checks m n room = numbered (build_refusals m n room)

unfoldable pub built_of : Message → ℕ → ℕ → Built
built_of m n room = built_by (first_of (build_checks m n room)) (size_with m n)

-- the output: the message at its front, or with a refusal as it was lent
unfoldable pub built_output : Message → List ℕ → List ℕ → List ℕ
built_output m echoed lent = output_by (built_of m (length echoed) (length lent)) (message_octets m echoed) lent
