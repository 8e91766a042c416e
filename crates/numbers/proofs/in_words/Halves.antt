-- Numbers and their words are each other's inverse: any numbers come back from their words, and any words of 32 bits from their numbers. Assumes nothing.
use native.Mathlib.Omega.{arith}
use Prim.Native.Nat.{ℕ, ◌^◌, ◌<◌}
use mathlib.Core.Path.{◌≡◌, refl}
use mathlib.Core.List.{List}
use lib.ListN.{get_or, length}
use Rattle.words.proofs.Parts.{spelled_whole}
use Rattle.numbers.specs.InWords.{field_words, upper_half, lower_half, joined, numbers_words, wide_at, numbers_from}
use Rattle.numbers.specs.Words.{Words}
use Rattle.numbers.specs.declared.Numbers.{Numbers}

halves_joined : (x : ℕ) → joined (upper_half x) (lower_half x) ≡ x
halves_joined x = omega arith

-- a word of 32 bits
abbrev Word : ℕ → Type 0
Word w = w < 2 ^ 32

upper_joined : (a b : ℕ) → Word b → upper_half (joined a b) ≡ a
upper_joined a b h = omega arith

lower_joined : (a b : ℕ) → Word b → lower_half (joined a b) ≡ b
lower_joined a b h = omega arith

joined_fits : (a b : ℕ) → Word a → Word b → joined a b < 256 ^ 8
joined_fits a b g h = omega arith

-- the numbers of the words that numbers have
pub numbers_again : (n : Numbers) → numbers_from (numbers_words n) ≡ n
unfolding numbers_words numbers_from
numbers_again n =
    rw
    (halves_joined n.destination.high, halves_joined n.destination.low, halves_joined n.source.high, halves_joined n.source.low, halves_joined n.time)

-- how many words numbers have
pub words_count : (n : Numbers) → length (numbers_words n) ≡ field_words
unfolding numbers_words
words_count n = refl

module _ (ws : List ℕ) (fit : (i : ℕ) → Word (get_or ws i 0)) where
  -- the words of the numbers that words have
  pub words_again : length ws ≡ field_words → numbers_words (numbers_from ws) ≡ ws
  unfolding numbers_words numbers_from
  words_again count =
      rw
      (upper_joined (get_or ws 0 0) _ (fit 1), lower_joined (get_or ws 0 0) _ (fit 1), upper_joined (get_or ws 2 0) _ (fit 3), lower_joined (get_or ws 2 0) _ (fit 3), upper_joined (get_or ws 4 0) _ (fit 5), lower_joined (get_or ws 4 0) _ (fit 5), upper_joined (get_or ws 6 0) _ (fit 7), lower_joined (get_or ws 6 0) _ (fit 7), upper_joined (get_or ws 8 0) _ (fit 9), lower_joined (get_or ws 8 0) _ (fit 9))
      (spelled_whole field_words ws count)

  -- and these numbers are such as C's types have them
  pub words_fit : Words (numbers_from ws)
  unfolding numbers_from
  words_fit =
      record {
        destination = (joined_fits _ _ (fit 0) (fit 1), joined_fits _ _ (fit 2) (fit 3));
        source = (joined_fits _ _ (fit 4) (fit 5), joined_fits _ _ (fit 6) (fit 7));
        time = joined_fits _ _ (fit 8) (fit 9);
      }

-- numbers made of those of 64 bits and of the words behind them: said over plain variables, as in `Laws`
pub read_made : (ws : List ℕ) {a b c d time : ℕ} → a ≡ wide_at ws 0 → b ≡ wide_at ws 2 → c ≡ wide_at ws 4 → d ≡ wide_at ws 6 → time ≡ wide_at ws 8
    → record {
      destination = record { high = a; low = b };
      source = record { high = c; low = d };
      time = time;
      tpid = get_or ws 10 0;
      sourced = get_or ws 11 0;
      extended = get_or ws 12 0;
      ipv6 = get_or ws 13 0;
      qualified = get_or ws 14 0;
      precedence = get_or ws 15 0;
      routing = get_or ws 16 0;
      program = get_or ws 17 0;
      counted = get_or ws 18 0;
      hops = get_or ws 19 0;
      format = get_or ws 20 0;
      pfield = get_or ws 21 0;
      expands = get_or ws 22 0;
      expanded = get_or ws 23 0;
      checksum = get_or ws 24 0;
      intermediate = get_or ws 25 0;
    } ≡ numbers_from ws
unfolding numbers_from
read_made ws p q r s t = rw (p, q, r, s, t)
