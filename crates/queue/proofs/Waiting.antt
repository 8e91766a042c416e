-- What a put and a take do to the entries that wait and to the places behind them, whatever those hold and in whatever order they stand:
-- page 01, "One received datagram, step by step", its end. A count over 32 is in `Cases`. Assumes nothing.
use Prim.Native.Nat.{ℕ, zero, suc, ◌+◌, ◌≤◌, ◌<◌}
use mathlib.Core.Bool.{false}
use mathlib.Core.Path.{◌≡◌, refl, sym, ap, ◌∙◌}
use mathlib.Core.Logic.{◌↔◌}
use mathlib.Core.List.{List, [], ◌∷◌, ◌++◌}
use native.Mathlib.Nat.{not-suc-le-zero, le_of_suc-le-suc}
use native.Mathlib.Numerals.{sub-one}
use native.Mathlib.Omega.{arith}
use lib.Dec.{ltb}
use lib.ListN.{length, take, drop, length-append, length-drop}
use lib.Seq.{length-take-le, take_at, drop_at, drop-drop, take-append-le, drop-append-le}
use borrow.Author.Tests.{lt-ltb, le-ltb, ltb-false}
use Rattle.checks.specs.Order.{pick}
use Rattle.queue.specs.Queue.{free, waiting, behind, precedence_of, insert, put_of, taken_from, take_of, head_of, Bounded}
use Rattle.queue.specs.declared.Entry.{Entry}
use Rattle.queue.specs.declared.Queue.{Queue}
use Rattle.queue.specs.declared.Taken.{Taken}
use Rattle.queue.proofs.Compare.{by_order}
use Rattle.queue.proofs.Order.{insert_length}
use Rattle.queue.proofs.Cases.{taken_in, put_room, put_full}

-- ---- where n entries of l wait: what a take leaves

abbrev left : ℕ → List Entry → Queue
left n l = (taken_from (record { entries = l; count = n }) (take n l)).queue

left_waiting : (n : ℕ) (l : List Entry) → n ≤ length l → waiting (left n l) ≡ drop 1 (take n l)
left_waiting zero l h = refl
left_waiting (suc n) [] h = absurd (not-suc-le-zero h)
left_waiting (suc n) (x ∷ l) h = rw (sub-one (suc n)) (take-append-le n l (free ∷ []) (le_of_suc-le-suc h))

left_behind : (n : ℕ) (l : List Entry) → 0 < n → n ≤ length l → behind (left n l) ≡ drop n l ++ (free ∷ [])
left_behind zero l some h = absurd (not-suc-le-zero some)
left_behind (suc n) [] some h = absurd (not-suc-le-zero h)
left_behind (suc n) (x ∷ l) some h = rw (sub-one (suc n)) (drop-append-le n l (free ∷ []) (le_of_suc-le-suc h))

left_bounded : (n : ℕ) (l : List Entry) → length l ≡ 32 → n ≤ 32 → Bounded (left n l)
left_bounded zero l places fits = record { places = places; fits = fits }
left_bounded (suc n) [] places fits = absurd (omega arith)
left_bounded (suc n) (x ∷ l) places fits = record { places = length-append l (free ∷ []) ∙ omega arith; fits = omega arith }

module _ (q : Queue) (bounded : Bounded q) where
  within : q.count ≤ length q.entries
  within = omega (arith, bounded.places, bounded.fits)

  pub count_waiting : length (waiting q) ≡ q.count
  count_waiting = length-take-le q.count q.entries within

  -- ---- a put

  module _ (e : Entry) where
    in_length : length (insert e (waiting q)) ≡ q.count + 1
    in_length = insert_length precedence_of e (waiting q) ∙ omega (arith, count_waiting)

    abbrev rest : List Entry
    rest = drop (q.count + 1) q.entries

    pub put_took : (put_of q e).took ≡ ltb (length (waiting q)) 32
    put_took =
        by_order q.count 32
        (λ room. rw (put_room q e room, count_waiting) (sym (lt-ltb _ _ room)))
        (λ full. rw (put_full q e full, count_waiting) (sym (le-ltb _ _ full)))

    pub put_drops : ((put_of q e).took ≡ false) ↔ (length (waiting q) ≡ 32)
    put_drops = (dropped, full)
      where
        dropped : (put_of q e).took ≡ false → length (waiting q) ≡ 32
        dropped h = let above : 32 ≤ length (waiting q) = ltb-false _ _ (sym put_took ∙ h) in omega (arith, count_waiting, bounded.fits)

        full : length (waiting q) ≡ 32 → (put_of q e).took ≡ false
        full h = put_took ∙ le-ltb (length (waiting q)) 32 (omega arith)

    pub put_waiting : waiting (put_of q e).queue ≡ pick (ltb (length (waiting q)) 32) (insert e (waiting q)) (waiting q)
    put_waiting =
        by_order q.count 32
        (λ room. rw (put_room q e room, count_waiting, lt-ltb _ _ room) (take_at (insert e (waiting q)) rest (q.count + 1) in_length))
        (λ full. rw (put_full q e full, count_waiting, le-ltb _ _ full))

    -- the newcomer's place is the first of those behind
    pub put_behind : length (waiting q) < 32 → behind (put_of q e).queue ≡ drop 1 (behind q)
    put_behind h =
        let room : q.count < 32 = omega (arith, count_waiting) in
        rw (put_room q e room) (drop_at (insert e (waiting q)) rest (q.count + 1) in_length ∙ sym (drop-drop 1 q.count q.entries))

    pub put_bounded : Bounded (put_of q e).queue
    put_bounded = by_order q.count 32 (λ room. rw (put_room q e room) (more room)) (λ full. rw (put_full q e full) bounded)
      where
        more : q.count < 32 → Bounded (taken_in q e).queue
        more room =
            record {
              places = length-append (insert e (waiting q)) rest ∙ omega (arith, in_length, length-drop (q.count + 1) q.entries, bounded.places);
              fits = omega arith;
            }

  -- ---- a take

  taken : take_of q ≡ taken_from q (waiting q)
  unfolding take_of
  taken = rw (le-ltb 32 q.count bounded.fits)

  pub take_head : (take_of q).head ≡ head_of (waiting q)
  take_head = ap (λ (t : Taken). t.head) taken ∙ head_of_lem (waiting q)
    where
      head_of_lem : (l : List Entry) → (taken_from q l).head ≡ head_of l
      head_of_lem [] = refl
      head_of_lem (x ∷ l) = refl

  pub take_waiting : waiting (take_of q).queue ≡ drop 1 (waiting q)
  take_waiting = rw taken (left_waiting q.count q.entries within)

  -- all places have moved up, and a free one has come in
  pub take_behind : 0 < length (waiting q) → behind (take_of q).queue ≡ behind q ++ (free ∷ [])
  take_behind some = rw taken (left_behind q.count q.entries (omega (arith, count_waiting)) within)

  pub take_bounded : Bounded (take_of q).queue
  take_bounded = rw taken (left_bounded q.count q.entries bounded.places bounded.fits)
