-- A record read word by word, at a place that is there and beyond. Assumes nothing.
use Prim.Native.Nat.{ℕ, ◌≤◌, ◌<◌}
use mathlib.Core.Path.{◌≡◌}
use mathlib.Core.Bool.{true}
use mathlib.Core.List.{List}
use lib.Dec.{ltb}
use lib.ListN.{length, get_or}
use borrow.Author.Tests.{lt-ltb, le-ltb}
use Rattle.checks.specs.Answer.{refusal_number}
use Rattle.lent_state.specs.Read.{word_answer, place_answer}

module _ (ws : List ℕ) (i : ℕ) where
  -- word k, which is asked: the test computes where the words are written out
  pub word_here : (k : ℕ) → ltb k (length ws) ≡ true → i ≡ k → get_or ws k 0 ≡ word_answer ws i
  unfolding word_answer
  word_here k there is = rw (is, there)

  pub no_word : length ws ≤ i → refusal_number 21 ≡ word_answer ws i
  unfolding word_answer
  no_word h = rw (le-ltb i (length ws) h)

module _ (i places answer : ℕ) where
  pub place_here : i < places → {x : ℕ} → x ≡ answer → x ≡ place_answer i places answer
  place_here h e = simp (lt-ltb i places h) e

  pub no_place : places ≤ i → {x : ℕ} → x ≡ refusal_number 21 → x ≡ place_answer i places answer
  no_place h e = simp (le-ltb i places h) e
