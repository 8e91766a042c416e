-- The words of a record, read one by one, are the record: what a setting took is what is read back (page 01, "Settings"), and a pair as it is held. And 21
-- is said of a place or a word that is none. Assumes nothing.
use Prim.Native.Nat.{ℕ, ◌≤◌, ◌<◌}
use mathlib.Core.Path.{◌≡◌, refl, sym}
use mathlib.Core.Bool.{Bool, true, false}
use mathlib.Core.List.{[], ◌∷◌}
use lib.Dec.{ltb}
use borrow.Author.Tests.{lt-ltb, le-ltb}
use Rattle.checks.specs.Order.{pick}
use Rattle.checks.specs.Answer.{refusal_number}
use Rattle.state.specs.Relay.{Mission, Memory, group_at, path_at, pair_at}
use Rattle.state.specs.Seen.{Board, owned_at}
use Rattle.state.specs.Layout.{owned_of, owned_words, group_of, group_words, path_of, path_words, pair_place_of, pair_words}
use Rattle.lent_state.specs.Read.{word_answer, place_answer}
use Rattle.lent_state.proofs.Read.{no_word}
use Rattle.harpjuniper_reads.specs.Back.{port_answer, group_answer, path_answer, pair_answer}

-- ---- a record
pub port_read : (b : Board) (p : ℕ) → p < 8
    → owned_of (port_answer b p 0 ∷ port_answer b p 1 ∷ port_answer b p 2 ∷ port_answer b p 3 ∷ port_answer b p 4 ∷ []) ≡ owned_at b p
unfolding port_answer word_answer
port_read b p h = simp (lt-ltb p 8 h)

module _ (m : Mission) (i : ℕ) (h : i < 16) where
  pub group_read : group_of (group_answer m i 0 ∷ group_answer m i 1 ∷ group_answer m i 2 ∷ group_answer m i 3 ∷ []) ≡ group_at m i
  unfolding group_answer word_answer
  group_read = simp (lt-ltb i 16 h)

  pub path_read : path_of (path_answer m i 0 ∷ path_answer m i 1 ∷ path_answer m i 2 ∷ path_answer m i 3 ∷ []) ≡ path_at m i
  unfolding path_answer word_answer
  path_read = simp (lt-ltb i 16 h)

pub pair_read : (k : Memory) (i : ℕ) → i < 64
    → pair_place_of (pair_answer k i 0 ∷ pair_answer k i 1 ∷ pair_answer k i 2 ∷ pair_answer k i 3 ∷ pair_answer k i 4 ∷ []) ≡ pair_at k i
unfolding pair_answer word_answer
pair_read k i h = simp (lt-ltb i 64 h)

-- ---- no such word, no such place
either : (i places : ℕ) {answer : ℕ} → answer ≡ refusal_number 21 → place_answer i places answer ≡ refusal_number 21
either i places {answer} e = cases (ltb i places)
  where
    cases : (t : Bool) → pick t answer (refusal_number 21) ≡ refusal_number 21
    cases true = e
    cases false = refl

module _ (b : Board) (p word : ℕ) where
  pub no_port_lem : 8 ≤ p → port_answer b p word ≡ refusal_number 21
  unfolding port_answer
  no_port_lem h = simp (le-ltb p 8 h)

  pub no_port_word : 5 ≤ word → port_answer b p word ≡ refusal_number 21
  unfolding port_answer
  no_port_word h = either p 8 (sym (no_word (owned_words (owned_at b p)) word h))

module _ (m : Mission) (i word : ℕ) where
  pub no_group : 16 ≤ i → group_answer m i word ≡ refusal_number 21
  unfolding group_answer
  no_group h = simp (le-ltb i 16 h)

  pub no_group_word : 4 ≤ word → group_answer m i word ≡ refusal_number 21
  unfolding group_answer
  no_group_word h = either i 16 (sym (no_word (group_words (group_at m i)) word h))

  pub no_path : 16 ≤ i → path_answer m i word ≡ refusal_number 21
  unfolding path_answer
  no_path h = simp (le-ltb i 16 h)

  pub no_path_word : 4 ≤ word → path_answer m i word ≡ refusal_number 21
  unfolding path_answer
  no_path_word h = either i 16 (sym (no_word (path_words (path_at m i)) word h))

module _ (k : Memory) (i word : ℕ) where
  pub no_pair : 64 ≤ i → pair_answer k i word ≡ refusal_number 21
  unfolding pair_answer
  no_pair h = simp (le-ltb i 64 h)

  pub no_pair_word : 5 ≤ word → pair_answer k i word ≡ refusal_number 21
  unfolding pair_answer
  no_pair_word h = either i 64 (sym (no_word (pair_words (pair_at k i)) word h))
