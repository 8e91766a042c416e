-- Every queue that puts and takes make of a fresh one is sound: at most 32 wait, in order, and the places behind them are free. So two
-- such queues in which the same entries wait are equal. Assumes nothing.
use Prim.Native.Nat.{ℕ, zero, suc, ◌+◌, ◌-◌, ◌<◌}
use mathlib.Core.Path.{◌≡◌, refl, sym, ap, ◌∙◌}
use mathlib.Core.List.{List, [], ◌∷◌, ◌++◌}
use native.Mathlib.Numerals.{sub-one}
use native.Mathlib.Omega.{arith}
use lib.ListN.{length, drop, replicate, replicate-append-replicate, take-append-drop}
use borrow.Author.Tests.{lt-ltb}
use Rattle.queue.specs.Queue.{free, fresh, waiting, precedence_of, put_of, take_of, Bounded, Sound}
use Rattle.queue.specs.declared.Entry.{Entry}
use Rattle.queue.specs.declared.Queue.{Queue}
use Rattle.queue.specs.declared.Put.{Put}
use Rattle.queue.specs.declared.Taken.{Taken}
use Rattle.queue.proofs.Compare.{by_order}
use Rattle.queue.proofs.Each.{order_later}
use Rattle.queue.proofs.Order.{insert_sorted}
use Rattle.queue.proofs.Cases.{put_room, put_full, take_none, take_first}
use Rattle.queue.proofs.Waiting.{count_waiting, put_waiting, put_behind, put_bounded, take_waiting, take_behind, take_bounded}

pub fresh_sound : Sound fresh
unfolding fresh
fresh_sound = record { bounded = record { places = refl; fits = omega arith }; sorted = tt; clean = refl }

abbrev Free : ℕ → List Entry → Type 0
Free n l = l ≡ replicate n free

free_fewer : (n : ℕ) → Free (n - 1) (drop 1 (replicate n free))
free_fewer zero = refl
free_fewer (suc n) = ap (λ (k : ℕ). replicate k free) (sym (sub-one (suc n)))

free_more : (n : ℕ) → Free (n + 1) (replicate n free ++ (free ∷ []))
free_more n = replicate-append-replicate n 1 free

-- 32 places, these entries in front
filled : List Entry → List Entry
filled l = l ++ replicate (32 - length l) free

module _ (q : Queue) (sound : Sound q) where
  abbrev bounded : Bounded q
  bounded = sound.bounded

  pub put_sound : (e : Entry) → Sound (put_of q e).queue
  put_sound e = by_order q.count 32 taken_in (λ full. rw (put_full q e full) sound)
    where
      taken_in : q.count < 32 → Sound (put_of q e).queue
      taken_in room =
          let below : length (waiting q) < 32 = omega (arith, count_waiting q bounded) in
          let count : (put_of q e).queue.count ≡ q.count + 1 = ap (λ (p : Put). p.queue.count) (put_room q e room) in
          let fewer : 32 - q.count - 1 ≡ 32 - (q.count + 1) = omega arith in
          record {
            bounded = put_bounded q bounded e;
            sorted = rw (put_waiting q bounded e, lt-ltb _ _ below) (insert_sorted precedence_of e (waiting q) sound.sorted);
            clean = put_behind q bounded e below ∙ rw (sound.clean, count, ← fewer) (free_fewer (32 - q.count));
          }

  pub take_sound : Sound (take_of q).queue
  take_sound = by_order 0 q.count handed_out_lem (λ none. rw (take_none q (omega arith)) sound)
    where
      handed_out_lem : 0 < q.count → Sound (take_of q).queue
      handed_out_lem some =
          let present : 0 < length (waiting q) = omega (arith, count_waiting q bounded) in
          let first = take_first q free some bounded.fits (omega (arith, bounded.places)) in
          let count : (take_of q).queue.count ≡ q.count - 1 = ap (λ (t : Taken). t.queue.count) first in
          let more : 32 - q.count + 1 ≡ 32 - (q.count - 1) = omega (arith, bounded.fits) in
          record {
            bounded = take_bounded q bounded;
            sorted = rw (take_waiting q bounded) (order_later _ (waiting q) sound.sorted);
            clean = take_behind q bounded present ∙ rw (sound.clean, count, ← more) (free_more (32 - q.count));
          }

  whole : q.entries ≡ filled (waiting q)
  unfolding filled
  whole = sym (take-append-drop q.count q.entries) ∙ rw (sound.clean, count_waiting q bounded)

pub same_waiting : (q r : Queue) → Sound q → Sound r → waiting q ≡ waiting r → q ≡ r
same_waiting q r sound-q sound-r same =
    let entries : q.entries ≡ r.entries = whole q sound-q ∙ ap filled same ∙ sym (whole r sound-r) in
    let count : q.count ≡ r.count = sym (count_waiting q sound-q.bounded) ∙ ap length same ∙ count_waiting r sound-r.bounded in
    λ i. record { entries = entries i; count = count i }
