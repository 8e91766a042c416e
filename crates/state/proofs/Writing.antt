-- What the code leaves of the board, or of the state, where it writes a part of the words: every other part, and what was written. Assumes nothing.
use native.Mathlib.Omega.{arith}
use Prim.Native.Nat.{ℕ, ◌+◌, ◌-◌, ◌*◌, ◌%◌, ◌^◌, ◌<◌}
use mathlib.Core.Path.{◌≡◌, refl, ap, ◌∙◌}
use mathlib.Core.List.{List, ◌++◌}
use lib.ListN.{length, take, drop, get_or, set}
use lib.Seq.{get_or-set_same}
use Rattle.queue.specs.declared.Queue.{Queue}
use Rattle.records.specs.declared.OwnedPort.{OwnedPort}
use Rattle.records.specs.declared.Group.{Group}
use Rattle.records.specs.declared.PathPlace.{PathPlace}
use Rattle.records.specs.declared.PairPlace.{PairPlace}
use Rattle.words.specs.Cut.{cut}
use Rattle.words.proofs.Sections.{record_written, word_written}
use Rattle.state.specs.Relay.{counter_in, all_groups, all_paths, all_queues, put_group, put_path, put_queue, put_last, put_pair, with_counter, added}
use Rattle.state.specs.Seen.{Board, put_router, put_owned, put_lifetime, put_drop, on_mission, on_memory, on_counters}
use Rattle.state.specs.Layout.{board_sections, board_words, board_of, decode_board, owned_of, owned_words}
use Rattle.state.specs.Layout.{sections, mission_words, state_of, decode, group_of, group_words, path_of, path_words, pair_place_of, pair_words, queue_of, queue_words}
use Rattle.state.proofs.Records.{Slots, owned_record, owned_length, group_record, group_length, path_record, path_length}
use Rattle.state.proofs.Records.{pair_record, pair_length, queue_record, queue_length}
use Rattle.state.proofs.Words.{board_section_length, section_length}
use Rattle.state.proofs.Reading.{counter_read}

-- words in place of those of record i, in records of k words that begin at word a, as the code leaves them
abbrev pub left : ℕ → ℕ → ℕ → List ℕ → List ℕ → List ℕ
left a k i w vs = take (a + i * k) w ++ (vs ++ drop (a + i * k + k - (a + i * k)) (drop (a + i * k) w))

-- ---- the board
module _ (w : List ℕ) (l : length w ≡ board_words) where
  pub router_written : (x : ℕ) → decode_board (set w 0 x) ≡ put_router (decode_board w) x
  unfolding decode_board board_of
  router_written x =
      let one : 0 < length (cut board_sections w 0) = rw (board_section_length w l 0 (omega arith) (omega arith)) (omega arith) in
      ap board_of (word_written board_sections w 0 (omega arith) (omega arith) 0 x (omega arith))
      ∙ ap (put_router (decode_board w)) (get_or-set_same (cut board_sections w 0) 0 x 0 one)

  pub owned_written : (p : ℕ) (x : OwnedPort) (vs : List ℕ) → p < 8 → vs ≡ owned_words x
      → decode_board (left 1 5 p w vs) ≡ put_owned (decode_board w) p x
  unfolding decode_board board_of
  owned_written p x vs h e =
      let anew : List OwnedPort → Board = λ (ps : List OwnedPort). record { router = (decode_board w).router; ports = ps; lifetime = (decode_board w).lifetime; drop = (decode_board w).drop } in
      record_written board_sections w 1 (omega arith) owned_of 5 8 refl board_of anew (λ s. refl) (omega arith)
      p x vs h (ap length e ∙ owned_length x) (ap owned_of e ∙ owned_record x)

  pub lifetime_written : (x : ℕ) → decode_board (set w 41 x) ≡ put_lifetime (decode_board w) x
  unfolding decode_board board_of
  lifetime_written x =
      let one : 0 < length (cut board_sections w 2) = rw (board_section_length w l 2 (omega arith) (omega arith)) (omega arith) in
      ap board_of (word_written board_sections w 2 (omega arith) (omega arith) 0 x (omega arith))
      ∙ ap (put_lifetime (decode_board w)) (get_or-set_same (cut board_sections w 2) 0 x 0 one)

  pub drop_written : (x : ℕ) → decode_board (set w 42 x) ≡ put_drop (decode_board w) x
  unfolding decode_board board_of
  drop_written x =
      let one : 0 < length (cut board_sections w 3) = rw (board_section_length w l 3 (omega arith) (omega arith)) (omega arith) in
      ap board_of (word_written board_sections w 3 (omega arith) (omega arith) 0 x (omega arith))
      ∙ ap (put_drop (decode_board w)) (get_or-set_same (cut board_sections w 3) 0 x 0 one)

-- ---- a mission's state
module _ (w : List ℕ) (l : length w ≡ mission_words) where
  pub group_written : (i : ℕ) (x : Group) (vs : List ℕ) → i < 16 → vs ≡ group_words x
      → decode (left 1 4 i w vs) ≡ on_mission (λ m. put_group m i x) (decode w)
  unfolding decode state_of
  group_written i x vs h e =
      record_written sections w 1 (omega arith) group_of 4 16 refl state_of (λ gs. on_mission (λ m. all_groups m gs) (decode w)) (λ s. refl) (omega arith)
      i x vs h (ap length e ∙ group_length x) (ap group_of e ∙ group_record x)

  pub path_written : (i : ℕ) (x : PathPlace) (vs : List ℕ) → i < 16 → vs ≡ path_words x
      → decode (left 65 4 i w vs) ≡ on_mission (λ m. put_path m i x) (decode w)
  unfolding decode state_of
  path_written i x vs h e =
      record_written sections w 2 (omega arith) path_of 4 16 refl state_of (λ ps. on_mission (λ m. all_paths m ps) (decode w)) (λ s. refl) (omega arith)
      i x vs h (ap length e ∙ path_length x) (ap path_of e ∙ path_record x)

  pub queue_written : (p : ℕ) (x : Queue) (vs : List ℕ) → length x.entries ≡ 32 → Slots x.entries → p < 8 → vs ≡ queue_words x
      → decode (left 129 33 p w vs) ≡ on_mission (λ m. put_queue m p x) (decode w)
  unfolding decode state_of
  queue_written p x vs wide held h e =
      record_written sections w 3 (omega arith) queue_of 33 8 refl state_of (λ qs. on_mission (λ m. all_queues m qs) (decode w)) (λ s. refl) (omega arith)
      p x vs h (ap length e ∙ queue_length x wide) (ap queue_of e ∙ queue_record x wide held)

  counter_written : (i x : ℕ) → i < 18 → decode (set w (393 + i) x) ≡ on_counters (λ l. with_counter l i x) (decode w)
  unfolding decode state_of
  counter_written i x h = ap state_of (word_written sections w 4 (omega arith) (omega arith) i x h)

  pub counter_added : (i n : ℕ) → i < 18
      → decode (set w (393 + i) ((get_or w (393 + i) 0 + n) % 2 ^ 32)) ≡ on_counters (λ l. added l i n) (decode w)
  counter_added i n h = rw (counter_read w i h) (counter_written i ((counter_in (decode w).counters i + n) % 2 ^ 32) h)

  pub last_written : (x : ℕ) → decode (set w 411 x) ≡ on_memory (λ k. put_last k x) (decode w)
  unfolding decode state_of
  last_written x =
      let one : 0 < length (cut sections w 5) = rw (section_length w l 5 (omega arith) (omega arith)) (omega arith) in
      ap state_of (word_written sections w 5 (omega arith) (omega arith) 0 x (omega arith))
      ∙ ap (λ (t : ℕ). on_memory (λ k. put_last k t) (decode w)) (get_or-set_same (cut sections w 5) 0 x 0 one)

  pub pair_written : (i : ℕ) (x : PairPlace) (vs : List ℕ) → i < 64 → vs ≡ pair_words x
      → decode (left 412 5 i w vs) ≡ on_memory (λ k. put_pair k i x) (decode w)
  unfolding decode state_of
  pair_written i x vs h e =
      record_written sections w 6 (omega arith) pair_place_of 5 64 refl state_of
      (λ ps. on_memory (λ k. record { last = k.last; pairs = ps }) (decode w)) (λ s. refl) (omega arith)
      i x vs h (ap length e ∙ pair_length x) (ap pair_place_of e ∙ pair_record x)
