-- What a put and a take answer, case by case, for any queue at all. Assumes nothing.
use Prim.Native.Nat.{ℕ, zero, suc, ◌+◌, ◌-◌, ◌≤◌, ◌<◌}
use mathlib.Core.Bool.{true, false}
use mathlib.Core.Path.{◌≡◌, refl, ap}
use mathlib.Core.List.{List, [], ◌∷◌, ◌++◌}
use native.Mathlib.Nat.{not-suc-le-zero}
use native.Mathlib.Omega.{arith}
use lib.ListN.{length, take, drop, get_or}
use borrow.Author.Tests.{lt-ltb, le-ltb}
use Rattle.queue.specs.Queue.{waiting, insert, put_of, moved_up, taken_from, take_of}
use Rattle.queue.specs.declared.Entry.{Entry}
use Rattle.queue.specs.declared.Queue.{Queue}
use Rattle.queue.specs.declared.Put.{Put}
use Rattle.std.proofs.Common.{Some, None}
use Rattle.queue.specs.declared.Taken.{Taken}

module _ (q : Queue) where
  abbrev pub dropped : Put
  dropped = record { queue = q; took = false }

  -- a put with fewer than 32 waiting
  abbrev pub taken_in : Entry → Put
  taken_in e =
      record { queue = record { entries = insert e (waiting q) ++ drop (q.count + 1) q.entries; count = q.count + 1 }; took = true }

  pub put_room : (e : Entry) → q.count < 32 → put_of q e ≡ taken_in e
  unfolding put_of
  put_room e h = rw (lt-ltb _ _ h)

  pub put_full : (e : Entry) → 32 ≤ q.count → put_of q e ≡ dropped
  unfolding put_of
  put_full e h = rw (le-ltb _ _ h)

  abbrev pub handed_none : Taken
  handed_none = record { queue = q; head = None }

  abbrev pub handed_out : Entry → Taken
  handed_out first = record { queue = record { entries = moved_up q.entries; count = q.count - 1 }; head = Some first }

  pub take_over : 32 < q.count → take_of q ≡ handed_none
  unfolding take_of
  take_over h = rw (lt-ltb _ _ h)

  pub take_none : q.count ≡ 0 → take_of q ≡ handed_none
  unfolding take_of
  take_none h = rw (le-ltb 32 q.count (omega arith)) (ap (λ (n : ℕ). taken_from q (take n q.entries)) h)

  -- the first of at least one
  front : (n : ℕ) (l : List Entry) (d : Entry) → 0 < n → 0 < length l → taken_from q (take n l) ≡ handed_out (get_or l 0 d)
  front zero l d h k = absurd (not-suc-le-zero h)
  front (suc n) [] d h k = absurd (not-suc-le-zero k)
  front (suc n) (x ∷ l) d h k = refl

  pub take_first : (d : Entry) → 0 < q.count → q.count ≤ 32 → 0 < length q.entries → take_of q ≡ handed_out (get_or q.entries 0 d)
  unfolding take_of
  take_first d h k l = rw (le-ltb 32 q.count k) (front q.count q.entries d h l)
