-- What is read of hj_take's answer, by the accessors of include/harpjuniper.h, and of which words that is said. Assumes nothing.
use Rattle.std.specs.Prelude.{ℕ, ◌^◌, ◌<◌, List, get_or}
use Rattle.taking.specs.Taking.{Taking}
use Rattle.checks.specs.Told.{Good, Refused}
use Rattle.answers.proofs.Digits.{Three}

-- words as C lends them: each fits 32 bits
abbrev pub FitWords : List ℕ → Type 0
FitWords w = (i : ℕ) → get_or w i 0 < 2 ^ 32

-- what is read of the answer n: the entry's slot and precedence and no refusal, or the refusal alone
abbrev pub TakeRead : ℕ → Taking → Type 0
TakeRead n (Good e) = Three n 0 e.slot.0 e.precedence
TakeRead n (Refused m) = Three n m 0 0
