-- How many places each part of a board and of a mission has: page 01, "Numbers that hold everywhere". Any words have as many, and no update
-- changes it. Assumes nothing.
use native.Mathlib.Omega.{arith}
use Prim.Native.Nat.{ℕ}
use mathlib.Core.Path.{◌≡◌, refl, ap, ◌∙◌}
use mathlib.Core.List.{List, [], ◌∷◌}
use lib.ListN.{length, get_or, length-set, length-map}
use Rattle.queue.specs.declared.Queue.{Queue}
use Rattle.records.specs.declared.OwnedPort.{OwnedPort}
use Rattle.records.specs.declared.Group.{Group}
use Rattle.records.specs.declared.PathPlace.{PathPlace}
use Rattle.words.specs.Cut.{cut}
use Rattle.words.proofs.Pieces.{rows_length}
use Rattle.state.specs.Relay.{Mission, put_group, put_path, put_queue, with_counter}
use Rattle.state.specs.Seen.{Board, put_router, put_owned, put_lifetime, put_drop, ports_seen, all_ports}
use Rattle.state.specs.Layout.{board_sections, board_of, decode_board, owned_of}
use Rattle.state.specs.Layout.{sections, mission_words, state_of, decode, group_of, path_of, queue_of, pair_place_of}
use Rattle.state.proofs.Words.{section_length}

-- groups, paths, queues
abbrev pub sizes : Mission → List ℕ
sizes m = length m.groups ∷ length m.paths ∷ length m.queues ∷ []

abbrev pub numbers : List ℕ
numbers = 16 ∷ 16 ∷ 8 ∷ []

abbrev pub Sized : Mission → Type 0
Sized m = sizes m ≡ numbers

-- how many of one kind, by its place in the list: `many m s 0 : length m.groups ≡ 16`
pub many : (m : Mission) → Sized m → (kind : ℕ) → get_or (sizes m) kind 0 ≡ get_or numbers kind 0
many m s kind = ap (λ (l : List ℕ). get_or l kind 0) s

-- a board has eight ports
abbrev pub SizedBoard : Board → Type 0
SizedBoard b = length b.ports ≡ 8

-- ---- any words
module _ (w : List ℕ) where
  pub board_sized : SizedBoard (decode_board w)
  unfolding decode_board board_of
  board_sized = rows_length owned_of 5 8 (cut board_sections w 1)

  pub counters_length : length w ≡ mission_words → length (decode w).counters ≡ 18
  unfolding decode state_of
  counters_length l = section_length w l 4 (omega arith) (omega arith)

  pub pairs_length : length (decode w).memory.pairs ≡ 64
  unfolding decode state_of
  pairs_length = rows_length pair_place_of 5 64 (cut sections w 6)

  pub decode_sized : Sized (decode w).mission
  unfolding decode state_of
  decode_sized =
      rw (
        rows_length group_of 4 16 (cut sections w 1),
        rows_length path_of 4 16 (cut sections w 2),
        rows_length queue_of 33 8 (cut sections w 3),
      )

-- ---- any update
module _ (b : Board) where
  pub router_sizes : (x : ℕ) → length (put_router b x).ports ≡ length b.ports
  router_sizes x = refl

  pub lifetime_sizes : (x : ℕ) → length (put_lifetime b x).ports ≡ length b.ports
  lifetime_sizes x = refl

  pub drop_sizes : (x : ℕ) → length (put_drop b x).ports ≡ length b.ports
  drop_sizes x = refl

  pub owned_sizes : (i : ℕ) (x : OwnedPort) → length (put_owned b i x).ports ≡ length b.ports
  owned_sizes i x = rw length-set

module _ (m : Mission) where
  pub group_sizes : (i : ℕ) (x : Group) → sizes (put_group m i x) ≡ sizes m
  group_sizes i x = rw length-set

  pub path_sizes : (i : ℕ) (x : PathPlace) → sizes (put_path m i x) ≡ sizes m
  path_sizes i x = rw length-set

  pub queue_sizes : (i : ℕ) (x : Queue) → sizes (put_queue m i x) ≡ sizes m
  queue_sizes i x = rw length-set

pub counter_sizes : (cs : List ℕ) (i x : ℕ) → length (with_counter cs i x) ≡ length cs
counter_sizes cs i x = rw length-set

-- ---- what is seen of a board
module _ (b : Board) (s : SizedBoard b) where
  pub seen_length : (n : ℕ) → length (ports_seen n b) ≡ 8
  unfolding ports_seen
  seen_length n = length-map b.ports _ ∙ s

  pub all_length : length (all_ports b) ≡ 8
  unfolding all_ports
  all_length = length-map b.ports _ ∙ s
