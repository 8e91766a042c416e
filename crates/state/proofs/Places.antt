-- What an update changes and what it leaves. What was written is read back; another place of the same kind, and every other part, stays.
-- The two laws of a list's place say it once; where the part is another one, nothing is to be shown. Assumes nothing.
use Prim.Native.Nat.{ℕ, ◌+◌, ◌%◌, ◌^◌, ◌<◌}
use native.Mathlib.Nat.{add_assoc, mod-add-mod, mod-eq_of_lt}
use mathlib.Core.Path.{◌≡◌, ap, ◌∙◌}
use mathlib.Core.Logic.{◌≢◌}
use mathlib.Core.List.{List}
use lib.ListN.{length, set}
use lib.Seq.{get_or-set_same, get_or-set_other, set-set}
use Rattle.queue.specs.declared.Queue.{Queue}
use Rattle.records.specs.declared.OwnedPort.{OwnedPort}
use Rattle.records.specs.declared.Group.{Group}
use Rattle.records.specs.declared.PathPlace.{PathPlace}
use Rattle.records.specs.declared.PairPlace.{PairPlace}
use Rattle.state.specs.Relay.{Mission, Memory, Relay, pair_at, group_at, path_at, queue_at, group_in, path_in, queue_in, counter_in}
use Rattle.state.specs.Relay.{put_pair, put_group, put_path, put_queue, with_group, with_path, with_queue, with_counter, added}
use Rattle.state.specs.Seen.{Board, owned_at, put_owned}
use Rattle.state.proofs.Sizes.{Sized, SizedBoard, many}

-- ---- what was written is read back
module _ (b : Board) (s : SizedBoard b) (i : ℕ) where
  pub owned_back : (x : OwnedPort) → i < 8 → owned_at (put_owned b i x) i ≡ x
  owned_back x h = get_or-set_same b.ports i x _ (rw s h)

module _ (m : Mission) (s : Sized m) (i : ℕ) where
  pub put_group_back : (x : Group) → i < 16 → group_at (put_group m i x) i ≡ x
  put_group_back x h = get_or-set_same m.groups i x _ (rw (many m s 0) h)

  pub put_path_back : (x : PathPlace) → i < 16 → path_at (put_path m i x) i ≡ x
  put_path_back x h = get_or-set_same m.paths i x _ (rw (many m s 1) h)

  pub put_queue_back : (x : Queue) → i < 8 → queue_at (put_queue m i x) i ≡ x
  put_queue_back x h = get_or-set_same m.queues i x _ (rw (many m s 2) h)

module _ (r : Relay) (s : Sized r.mission) (i : ℕ) where
  pub group_back : (x : Group) → i < 16 → group_in (with_group r i x) i ≡ x
  group_back x h = put_group_back r.mission s i x h

  pub path_back : (x : PathPlace) → i < 16 → path_in (with_path r i x) i ≡ x
  path_back x h = put_path_back r.mission s i x h

  pub queue_back : (x : Queue) → i < 8 → queue_in (with_queue r i x) i ≡ x
  queue_back x h = put_queue_back r.mission s i x h

module _ (k : Memory) (s : length k.pairs ≡ 64) (i : ℕ) where
  pub pair_back : (x : PairPlace) → i < 64 → pair_at (put_pair k i x) i ≡ x
  pair_back x h = get_or-set_same k.pairs i x _ (rw s h)

module _ (cs : List ℕ) (s : length cs ≡ 18) (i : ℕ) where
  pub counter_back : (x : ℕ) → i < 18 → counter_in (with_counter cs i x) i ≡ x
  counter_back x h = get_or-set_same cs i x 0 (rw s h)

  -- A counter counts modulo 2^32: n more is n more, and comes round to 0 after 2^32 - 1.
  pub counted : (n : ℕ) → i < 18 → counter_in (added cs i n) i ≡ (counter_in cs i + n) % 2 ^ 32
  counted n h = counter_back _ h

  pub counted_below : (n : ℕ) → i < 18 → counter_in cs i + n < 2 ^ 32 → counter_in (added cs i n) i ≡ counter_in cs i + n
  counted_below n h b = counted n h ∙ mod-eq_of_lt b

  -- One count after the other is the sum of both.
  pub counted_twice : (m n : ℕ) → i < 18 → added (added cs i m) i n ≡ added cs i (m + n)
  counted_twice m n h =
      set-set cs i _ _
      ∙ ap (set cs i)
      (ap (λ (t : ℕ). (t + n) % 2 ^ 32) (counted m h)
      ∙ mod-add-mod (counter_in cs i + m) (2 ^ 32) n
      ∙ ap (λ (t : ℕ). t % 2 ^ 32) (add_assoc (counter_in cs i) m n))

-- ---- another place of the same kind stays
pub owned_left : (b : Board) (i j : ℕ) → j ≢ i → (x : OwnedPort) → owned_at (put_owned b i x) j ≡ owned_at b j
owned_left b i j other x = get_or-set_other b.ports i j x _ other

module _ (r : Relay) (i j : ℕ) (other : j ≢ i) where
  pub group_left : (x : Group) → group_in (with_group r i x) j ≡ group_in r j
  group_left x = get_or-set_other r.mission.groups i j x _ other

  pub path_left : (x : PathPlace) → path_in (with_path r i x) j ≡ path_in r j
  path_left x = get_or-set_other r.mission.paths i j x _ other

  pub queue_left : (x : Queue) → queue_in (with_queue r i x) j ≡ queue_in r j
  queue_left x = get_or-set_other r.mission.queues i j x _ other

pub pair_left : (k : Memory) (i j : ℕ) → j ≢ i → (x : PairPlace) → pair_at (put_pair k i x) j ≡ pair_at k j
pair_left k i j other x = get_or-set_other k.pairs i j x _ other

pub counter_left : (cs : List ℕ) (i j : ℕ) → j ≢ i → (x : ℕ) → counter_in (with_counter cs i x) j ≡ counter_in cs j
counter_left cs i j other x = get_or-set_other cs i j x 0 other
