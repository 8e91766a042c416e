-- A refusal in an answer of 64 bits that is a value else (include/harpjuniper.h): the number stands above 32 bits of value, which are 0. Assumes
-- nothing.
use Rattle.std.specs.Prelude.{ℕ, ◌*◌, ◌^◌}

abbrev pub refusal_number : ℕ → ℕ
refusal_number n = n * 2 ^ 32
