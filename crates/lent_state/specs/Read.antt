-- A record as C reads it, one word at a time (include/harpjuniper.h): word i of it, or 21 where there is no such place or no such word (page 01,
-- "Refusal numbers"). A word has 32 bits, and the refusal stands above these. Assumes nothing.
use Rattle.std.specs.Prelude.{ℕ, List, ltb, length, get_or}
use Rattle.checks.specs.Order.{pick}
use Rattle.checks.specs.Answer.{refusal_number}

-- word i of these
unfoldable pub word_answer : List ℕ → ℕ → ℕ
word_answer ws i = pick (ltb i (length ws)) (get_or ws i 0) (refusal_number 21)

-- an answer about place i of so many
abbrev pub place_answer : ℕ → ℕ → ℕ → ℕ
place_answer i places answer = pick (ltb i places) answer (refusal_number 21)
