-- The numbers in words of 32 bits, as C lends and gets them (include/harpjuniper.h, hj_fields): in the struct's order, a number of 64 bits as two
-- words, its upper half first. Assumes nothing.
use Rattle.std.specs.Prelude.{ℕ, ◌+◌, ◌*◌, ◌/◌, ◌%◌, ◌^◌, List, [], ◌∷◌, get_or}
use Rattle.numbers.specs.declared.Numbers.{Numbers}

-- how many words there are
abbrev pub field_words : ℕ
field_words = 26

abbrev pub upper_half : ℕ → ℕ
upper_half x = x / 2 ^ 32

abbrev pub lower_half : ℕ → ℕ
lower_half x = x % 2 ^ 32

abbrev pub joined : ℕ → ℕ → ℕ
joined upper lower = upper * 2 ^ 32 + lower

unfoldable pub numbers_words : Numbers → List ℕ
numbers_words n =
    upper_half n.destination.high ∷ lower_half n.destination.high ∷ upper_half n.destination.low ∷ lower_half n.destination.low
    ∷ upper_half n.source.high ∷ lower_half n.source.high ∷ upper_half n.source.low ∷ lower_half n.source.low
    ∷ upper_half n.time ∷ lower_half n.time ∷ n.tpid ∷ n.sourced ∷ n.extended ∷ n.ipv6 ∷ n.qualified ∷ n.precedence ∷ n.routing ∷ n.program
    ∷ n.counted ∷ n.hops ∷ n.format ∷ n.pfield ∷ n.expands ∷ n.expanded ∷ n.checksum ∷ n.intermediate ∷ []

-- the number of the words at i and behind it
abbrev pub wide_at : List ℕ → ℕ → ℕ
wide_at ws i = joined (get_or ws i 0) (get_or ws (i + 1) 0)

-- the numbers of words; a word that is not there counts as 0
unfoldable pub numbers_from : List ℕ → Numbers
numbers_from ws =
    record {
      destination = record { high = wide_at ws 0; low = wide_at ws 2 };
      source = record { high = wide_at ws 4; low = wide_at ws 6 };
      time = wide_at ws 8;
      tpid = get_or ws 10 0;
      sourced = get_or ws 11 0;
      extended = get_or ws 12 0;
      ipv6 = get_or ws 13 0;
      qualified = get_or ws 14 0;
      precedence = get_or ws 15 0;
      routing = get_or ws 16 0;
      program = get_or ws 17 0;
      counted = get_or ws 18 0;
      hops = get_or ws 19 0;
      format = get_or ws 20 0;
      pfield = get_or ws 21 0;
      expands = get_or ws 22 0;
      expanded = get_or ws 23 0;
      checksum = get_or ws 24 0;
      intermediate = get_or ws 25 0;
    }
