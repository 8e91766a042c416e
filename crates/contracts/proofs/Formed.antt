-- Which boards and states words hold: those in which each list is as long as the layout says and each slot is one that its type holds (page 01,
-- "Numbers that hold everywhere"). Any 43 words hold such a board, any 732 such a state, and each of these has its words. Assumes nothing.
use native.Mathlib.Omega.{arith}
use native.Mathlib.Nat.{suc-mul, zero-mul}
use Prim.Native.Nat.{ℕ, zero, suc, ◌+◌, ◌*◌, ◌<◌}
use mathlib.Core.Path.{◌≡◌, refl, sym, ap, ◌∙◌}
use mathlib.Core.List.{List, [], ◌∷◌, map}
use lib.ListN.{length, take, drop, length-append, length-map, length-drop}
use lib.Seq.{take_at, drop_at, length-take-le}
use Rattle.sets.specs.Limits.{pair_places, counter_count}
use Rattle.queue.specs.Order.{Each}
use Rattle.queue.specs.declared.Entry.{Entry}
use Rattle.queue.specs.declared.Queue.{Queue}
use Rattle.queue.proofs.Each.{each, each_so}
use Rattle.words.specs.Cut.{total, cuts, cut, joined, pieces, rows, flat}
use Rattle.state.specs.Relay.{Mission, Memory}
use Rattle.state.specs.Seen.{Board, State}
use Rattle.state.specs.Layout.{board_sections, board_words, board_of, decode_board, encode_board, sections, mission_words, state_of, decode, encode, entry_of_word}
use Rattle.state.specs.Layout.{owned_of, owned_words, group_of, group_words, path_of, path_words, queue_of, queue_words, pair_place_of, pair_words}
use Rattle.state.proofs.Records.{Slots, queue_record, queue_length}
use Rattle.state.proofs.Words.{section_length}
use Rattle.state.proofs.Sizes.{Sized, SizedBoard, many, counters_length, pairs_length, decode_sized}

-- ---- the definition
abbrev pub SlotFits : Entry → Type 0
SlotFits e = e.slot.0 < 65536

abbrev pub FormedQueue : Queue → Type 0
FormedQueue q = (length q.entries ≡ 32) × Each SlotFits q.entries

pub record FormedMission (m : Mission) : Type 0 where
  pub sized : Sized m
  pub queues : Each FormedQueue m.queues

abbrev pub FormedMemory : Memory → Type 0
FormedMemory k = length k.pairs ≡ pair_places

abbrev pub FormedCounters : List ℕ → Type 0
FormedCounters l = length l ≡ counter_count

pub record Formed (s : State) : Type 0 where
  pub mission : FormedMission s.mission
  pub memory : FormedMemory s.memory
  pub counters : FormedCounters s.counters

-- ---- lists joined, and cut again
module _ {A : Type 0} where
  cut_again : (ls : List (List A)) → cuts (map length ls) (joined ls) ≡ ls
  cut_again [] = refl
  cut_again (l ∷ ls) = rw (take_at l (joined ls) (length l) refl, drop_at l (joined ls) (length l) refl, cut_again ls)

  joined_length : (ls : List (List A)) → length (joined ls) ≡ total (map length ls)
  unfolding total
  joined_length [] = refl
  joined_length (l ∷ ls) = length-append l (joined ls) ∙ ap (λ (n : ℕ). length l + n) (joined_length ls)

module _ {B : Type 0} (read : List ℕ → B) (write : B → List ℕ) (k : ℕ) where
  -- a record of k words, which are read as this record
  abbrev Spelt : B → Type 0
  Spelt x = (length (write x) ≡ k) × (read (write x) ≡ x)

  flat_length : (xs : List B) → Each Spelt xs → length (flat write xs) ≡ length xs * k
  unfolding flat
  flat_length [] h = sym (zero-mul k)
  flat_length (x ∷ xs) h =
      let more : suc (length xs) * k ≡ length xs * k + k = suc-mul (length xs) k in
      length-append (write x) (flat write xs) ∙ omega (arith, h.0.0, flat_length xs h.1)

  rows_again : (xs : List B) → Each Spelt xs → rows read k (length xs) (flat write xs) ≡ xs
  unfolding flat pieces
  rows_again [] h = refl
  rows_again (x ∷ xs) h =
      rw (take_at (write x) (flat write xs) k h.0.0, drop_at (write x) (flat write xs) k h.0.0, h.0.1, rows_again xs h.1)

  -- n records, written one after the other and read again
  abbrev Kept : ℕ → List B → Type 0
  Kept n xs = (length (flat write xs) ≡ n * k) × (rows read k n (flat write xs) ≡ xs)

  kept : (n : ℕ) (xs : List B) → length xs ≡ n → Each Spelt xs → Kept n xs
  kept n xs e h = (flat_length xs h ∙ ap (λ (m : ℕ). m * k) e, ap (λ (m : ℕ). rows read k m (flat write xs)) (sym e) ∙ rows_again xs h)

  rows_each : (P : B → Type 0) → ((c : List ℕ) → length c ≡ k → P (read c)) → (n : ℕ) (l : List ℕ) → length l ≡ n * k → Each P (rows read k n l)
  unfolding pieces
  rows_each P one zero l h = tt
  rows_each P one (suc n) l h =
      let more : suc n * k ≡ n * k + k = suc-mul n k in
      (one (take k l) (length-take-le k l (omega arith)), rows_each P one n (drop k l) (length-drop k l ∙ omega arith))

-- ---- any words hold a formed state
slots_of : (l : List ℕ) → Each SlotFits (map entry_of_word l)
slots_of [] = tt
slots_of (x ∷ l) = (omega arith, slots_of l)

queue_formed : (l : List ℕ) → length l ≡ 33 → FormedQueue (queue_of l)
unfolding queue_of
queue_formed l h = (length-map (take 32 l) entry_of_word ∙ length-take-le 32 l (omega arith), slots_of (take 32 l))

pub decode_formed : (w : List ℕ) → length w ≡ mission_words → Formed (decode w)
unfolding decode state_of
decode_formed w l =
    record {
      mission =
          record {
            sized = decode_sized w;
            queues =
                rows_each queue_of queue_words 33 FormedQueue queue_formed 8 (cut sections w 3) (section_length w l 3 (omega arith) (omega arith));
          };
      memory = pairs_length w;
      counters = counters_length w l;
    }

-- ---- a formed state has its words
slots_fit : (es : List Entry) → Each SlotFits es → Slots es
slots_fit [] h = tt
slots_fit (e ∷ es) h = (h.0, slots_fit es h.1)

queues_spelt : (qs : List Queue) → Each FormedQueue qs → Each (Spelt queue_of queue_words 33) qs
queues_spelt qs = each_so qs (λ q h. (queue_length q h.0, queue_record q h.0 (slots_fit q.entries h.1)))

module _ (s : State) (formed : Formed s) where
  abbrev m : Mission
  m = s.mission

  abbrev sized : Sized m
  sized = formed.mission.sized

  groups : Kept group_of group_words 4 16 m.groups
  groups = kept group_of group_words 4 16 m.groups (many m sized 0) (each m.groups (λ x. (refl, refl)))

  paths : Kept path_of path_words 4 16 m.paths
  paths = kept path_of path_words 4 16 m.paths (many m sized 1) (each m.paths (λ x. (refl, refl)))

  queues : Kept queue_of queue_words 33 8 m.queues
  queues = kept queue_of queue_words 33 8 m.queues (many m sized 2) (queues_spelt m.queues formed.mission.queues)

  pairs : Kept pair_place_of pair_words 5 64 s.memory.pairs
  pairs = kept pair_place_of pair_words 5 64 s.memory.pairs formed.memory (each s.memory.pairs (λ x. (refl, refl)))

  written : List (List ℕ)
  written =
      (s.number ∷ [])
      ∷ flat group_words m.groups
      ∷ flat path_words m.paths
      ∷ flat queue_words m.queues
      ∷ s.counters
      ∷ (s.memory.last ∷ [])
      ∷ flat pair_words s.memory.pairs
      ∷ []

  lengths : map length written ≡ sections
  unfolding written
  lengths = rw (groups.0, paths.0, queues.0, formed.counters, pairs.0)

  pub words_length : length (encode s) ≡ mission_words
  unfolding encode total written
  words_length = joined_length written ∙ ap total lengths

  pub words_hold : decode (encode s) ≡ s
  unfolding decode encode state_of written
  words_hold =
      ap state_of (ap (λ (ns : List ℕ). cuts ns (joined written)) (sym lengths) ∙ cut_again written)
      ∙ rw (groups.1, paths.1, queues.1, pairs.1)

-- ---- and a board with eight ports
module _ (b : Board) (sized : SizedBoard b) where
  ports : Kept owned_of owned_words 5 8 b.ports
  ports = kept owned_of owned_words 5 8 b.ports sized (each b.ports (λ x. (refl, refl)))

  board_written_lem : List (List ℕ)
  board_written_lem = (b.router ∷ []) ∷ flat owned_words b.ports ∷ (b.lifetime ∷ []) ∷ (b.drop ∷ []) ∷ []

  board_lengths : map length board_written_lem ≡ board_sections
  unfolding board_written_lem
  board_lengths = rw ports.0

  pub board_length : length (encode_board b) ≡ board_words
  unfolding encode_board total board_written_lem
  board_length = joined_length board_written_lem ∙ ap total board_lengths

  pub board_holds : decode_board (encode_board b) ≡ b
  unfolding decode_board encode_board board_of board_written_lem
  board_holds =
      ap board_of (ap (λ (ns : List ℕ). cuts ns (joined board_written_lem)) (sym board_lengths) ∙ cut_again board_written_lem)
      ∙ rw ports.1
