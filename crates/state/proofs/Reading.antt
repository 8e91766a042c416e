-- What the code reads from a part of the words is that part of the board, or of the state. Assumes nothing.
use native.Mathlib.Omega.{arith}
use Prim.Native.Nat.{ℕ, ◌+◌, ◌-◌, ◌*◌, ◌<◌}
use mathlib.Core.Path.{◌≡◌, refl}
use mathlib.Core.List.{List}
use lib.ListN.{take, drop, get_or}
use Rattle.queue.specs.declared.Queue.{Queue}
use Rattle.records.specs.declared.OwnedPort.{OwnedPort}
use Rattle.records.specs.declared.Group.{Group}
use Rattle.records.specs.declared.PathPlace.{PathPlace}
use Rattle.records.specs.declared.PairPlace.{PairPlace}
use Rattle.words.proofs.Sections.{record_read, word_read}
use Rattle.state.specs.Relay.{group_at, path_at, queue_at, counter_in, pair_at}
use Rattle.state.specs.Seen.{owned_at}
use Rattle.state.specs.Layout.{board_sections, board_of, decode_board, owned_of, sections, state_of, decode, group_of, path_of, queue_of, pair_place_of}

-- the k words of record i, in records that begin at word a, as the code takes them
abbrev pub taken : ℕ → ℕ → ℕ → List ℕ → List ℕ
taken a k i w = take (a + i * k + k - (a + i * k)) (drop (a + i * k) w)

module _ (w : List ℕ) where
  -- ---- the board
  pub router_read : get_or w 0 0 ≡ (decode_board w).router
  unfolding decode_board board_of
  router_read = word_read board_sections w 0 (omega arith) 0 (omega arith)

  pub owned_read : (p : ℕ) (x : OwnedPort) → p < 8 → x ≡ owned_of (taken 1 5 p w) → x ≡ owned_at (decode_board w) p
  unfolding decode_board board_of
  owned_read p x h e = record_read board_sections w 1 (omega arith) owned_of 5 8 refl p _ x h e

  pub lifetime_read : get_or w 41 0 ≡ (decode_board w).lifetime
  unfolding decode_board board_of
  lifetime_read = word_read board_sections w 2 (omega arith) 0 (omega arith)

  pub drop_read : get_or w 42 0 ≡ (decode_board w).drop
  unfolding decode_board board_of
  drop_read = word_read board_sections w 3 (omega arith) 0 (omega arith)

  -- ---- a mission's state
  pub number_read : get_or w 0 0 ≡ (decode w).number
  unfolding decode state_of
  number_read = word_read sections w 0 (omega arith) 0 (omega arith)

  pub group_read : (i : ℕ) (x : Group) → i < 16 → x ≡ group_of (taken 1 4 i w) → x ≡ group_at (decode w).mission i
  unfolding decode state_of
  group_read i x h e = record_read sections w 1 (omega arith) group_of 4 16 refl i _ x h e

  pub path_read : (i : ℕ) (x : PathPlace) → i < 16 → x ≡ path_of (taken 65 4 i w) → x ≡ path_at (decode w).mission i
  unfolding decode state_of
  path_read i x h e = record_read sections w 2 (omega arith) path_of 4 16 refl i _ x h e

  pub queue_read : (p : ℕ) (x : Queue) → p < 8 → x ≡ queue_of (taken 129 33 p w) → x ≡ queue_at (decode w).mission p
  unfolding decode state_of
  queue_read p x h e = record_read sections w 3 (omega arith) queue_of 33 8 refl p _ x h e

  pub counter_read : (i : ℕ) → i < 18 → get_or w (393 + i) 0 ≡ counter_in (decode w).counters i
  unfolding decode state_of
  counter_read i h = word_read sections w 4 (omega arith) i h

  pub last_read : get_or w 411 0 ≡ (decode w).memory.last
  unfolding decode state_of
  last_read = word_read sections w 5 (omega arith) 0 (omega arith)

  pub pair_read : (i : ℕ) (x : PairPlace) → i < 64 → x ≡ pair_place_of (taken 412 5 i w) → x ≡ pair_at (decode w).memory i
  unfolding decode state_of
  pair_read i x h e = record_read sections w 6 (omega arith) pair_place_of 5 64 refl i _ x h e
