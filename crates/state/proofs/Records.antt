-- Each record and its words are the same thing. Of a queue, that its types hold its numbers is asked. Assumes nothing.
use native.Mathlib.Omega.{arith}
use Prim.Native.Nat.{ℕ, ◌+◌, ◌*◌, ◌≤◌, ◌<◌}
use mathlib.Core.Path.{◌≡◌, refl, sym, ap, ◌∙◌}
use mathlib.Core.List.{List, [], ◌∷◌, map}
use lib.ListN.{length, take, drop, get_or, length-map, length-append, drop_of_length-le, take-append-drop}
use lib.Arith.{digits_mod, digits_div}
use lib.Seq.{take_at, get_or_at, drop-cons}
use Rattle.queue.specs.declared.Entry.{Entry}
use Rattle.queue.specs.declared.Queue.{Queue}
use Rattle.records.specs.declared.OwnedPort.{OwnedPort}
use Rattle.records.specs.declared.Group.{Group}
use Rattle.records.specs.declared.PathPlace.{PathPlace}
use Rattle.records.specs.declared.PairPlace.{PairPlace}
use Rattle.words.proofs.Parts.{spelled_whole}
use Rattle.state.specs.Layout.{owned_of, owned_words, group_of, group_words, path_of, path_words, pair_place_of, pair_words}
use Rattle.state.specs.Layout.{entry_of_word, entry_word, queue_of, queue_words}

-- ---- a record of single words
pub owned_words_lem : (l : List ℕ) → length l ≡ 5 → owned_words (owned_of l) ≡ l
owned_words_lem l h = spelled_whole 5 l h

pub owned_record : (x : OwnedPort) → owned_of (owned_words x) ≡ x
owned_record x = refl

pub owned_length : (x : OwnedPort) → length (owned_words x) ≡ 5
owned_length x = refl

pub group_words_lem : (l : List ℕ) → length l ≡ 4 → group_words (group_of l) ≡ l
group_words_lem l h = spelled_whole 4 l h

pub group_record : (x : Group) → group_of (group_words x) ≡ x
group_record x = refl

pub group_length : (x : Group) → length (group_words x) ≡ 4
group_length x = refl

pub path_words_lem : (l : List ℕ) → length l ≡ 4 → path_words (path_of l) ≡ l
path_words_lem l h = spelled_whole 4 l h

pub path_record : (x : PathPlace) → path_of (path_words x) ≡ x
path_record x = refl

pub path_length : (x : PathPlace) → length (path_words x) ≡ 4
path_length x = refl

pub pair_words_lem : (l : List ℕ) → length l ≡ 5 → pair_words (pair_place_of l) ≡ l
pair_words_lem l h = spelled_whole 5 l h

pub pair_record : (x : PairPlace) → pair_place_of (pair_words x) ≡ x
pair_record x = refl

pub pair_length : (x : PairPlace) → length (pair_words x) ≡ 5
pair_length x = refl

-- ---- an entry
entry_word_lem : (w : ℕ) → entry_word (entry_of_word w) ≡ w
entry_word_lem w = omega arith

entry_words : (l : List ℕ) → map entry_word (map entry_of_word l) ≡ l
entry_words [] = refl
entry_words (x ∷ l) = rw (entry_word_lem x, entry_words l)

entry_record : (e : Entry) → e.slot.0 < 65536 → entry_of_word (entry_word e) ≡ e
entry_record e h =
    let s = e.slot.0 in
    let p = e.precedence in
    let t : s + p * 65536 ≡ p * 65536 + s = omega arith in
    rw (t, digits_mod p {m = 65536} {r = s} h, digits_div p {m = 65536} {r = s} h)

-- each slot is one that its type holds
abbrev pub Slots : List Entry → Type 0
Slots [] = Unit {0}
Slots (e ∷ es) = (e.slot.0 < 65536) × Slots es

entry_records : (es : List Entry) → Slots es → map entry_of_word (map entry_word es) ≡ es
entry_records [] h = refl
entry_records (e ∷ es) h = rw (entry_record e h.0, entry_records es h.1)

-- ---- a queue
pub queue_words_lem : (l : List ℕ) → length l ≡ 33 → queue_words (queue_of l) ≡ l
unfolding queue_words queue_of
queue_words_lem l h =
    let m : length l ≤ 33 = omega arith in
    let last : drop 32 l ≡ get_or l 32 0 ∷ [] =
    drop-cons l 32 0 (omega arith) ∙ ap (λ (t : List ℕ). get_or l 32 0 ∷ t) (drop_of_length-le l m) in
    rw (entry_words (take 32 l), sym last) (take-append-drop 32 l)

module _ (q : Queue) (wide : length q.entries ≡ 32) where
  coded : length (map entry_word q.entries) ≡ 32
  coded = length-map q.entries entry_word ∙ wide

  pub queue_record : Slots q.entries → queue_of (queue_words q) ≡ q
  unfolding queue_of queue_words
  queue_record h =
      let es = map entry_word q.entries in
      rw (take_at es (q.count ∷ []) 32 coded, get_or_at es q.count [] 0 32 coded, entry_records q.entries h)

  pub queue_length : length (queue_words q) ≡ 33
  unfolding queue_words
  queue_length = simp (length-append, length-map) (omega arith)
