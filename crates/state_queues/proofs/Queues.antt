-- The words of a queue one by one, as the loops read and write them. Assumes nothing.
use native.Mathlib.Omega.{arith}
use Prim.Native.Nat.{ℕ, ◌<◌}
use mathlib.Core.Path.{◌≡◌, sym, ap, ◌∙◌}
use mathlib.Core.List.{List, [], ◌∷◌, map}
use lib.ListN.{length, take, get_or, length-map, get_or-map, get_or-append}
use lib.Seq.{length-take-le, get_or-take, get_or_at}
use Rattle.queue.specs.declared.Entry.{Entry}
use Rattle.queue.specs.declared.Queue.{Queue}
use Rattle.state.specs.Layout.{entry_of_word, entry_word, queue_words}

-- the entries that 33 words hold
abbrev pub entries_of : List ℕ → List Entry
entries_of s = map entry_of_word (take 32 s)

pub entries_length : (s : List ℕ) → length s ≡ 33 → length (entries_of s) ≡ 32
entries_length s h = length-map (take 32 s) entry_of_word ∙ length-take-le 32 s (omega arith)

pub entry_at : (s : List ℕ) (i : ℕ) → i < 32 → entry_of_word (get_or s i 0) ≡ get_or (entries_of s) i (entry_of_word 0)
entry_at s i h = sym (get_or-map entry_of_word (take 32 s) i 0 ∙ ap entry_of_word (get_or-take 32 s i 0 h))

module _ (q : Queue) (wide : length q.entries ≡ 32) where
  pub word_at : (i : ℕ) (d : Entry) → i < 32 → entry_word (get_or q.entries i d) ≡ get_or (queue_words q) i (entry_word d)
  unfolding queue_words
  word_at i d h =
      let inside : i < length (map entry_word q.entries) = rw (length-map q.entries entry_word) (omega arith) in
      sym
      (get_or-append (map entry_word q.entries) (q.count ∷ []) (entry_word d) i inside
      ∙ get_or-map entry_word q.entries i d)

  pub count_at : q.count ≡ get_or (queue_words q) 32 0
  unfolding queue_words
  count_at = sym (get_or_at (map entry_word q.entries) q.count [] 0 32 (length-map q.entries entry_word ∙ wide))
