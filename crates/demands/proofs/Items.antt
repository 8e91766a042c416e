-- What a batch leaves of the answers and of the output, item by item (page 02, W-201): each answer in its place, each item's output in its 400 octets, and all else
-- as lent. Assumes nothing.
use native.Mathlib.Omega.{arith}
use Prim.Native.Nat.{ℕ, zero, suc, ◌+◌, ◌*◌, ◌<◌, ◌≤◌}
use mathlib.Core.Path.{◌≡◌, refl, sym, ap, ◌∙◌}
use mathlib.Core.Bool.{Bool, true, false}
use mathlib.Core.List.{List, [], ◌∷◌, ◌++◌}
use lib.ListN.{length, get_or, take, drop, length-set}
use lib.Seq.{take-suc-set, take_all, drop-drop}
use lib.Dec.{eqb}
use borrow.Author.Tests.{eqb-true, eqb-false}
use Rattle.octets.specs.Octets.{pasted}
use Rattle.words.specs.Cut.{total}
use Rattle.routes.specs.declared.Record.{Record}
use Rattle.state.specs.Seen.{Board, State}
use Rattle.judge.specs.Ending.{output_room}
use Rattle.relay.specs.Outgoing.{sent_output}
use Rattle.relay.specs.Received.{heard_ending}
use Rattle.relay.specs.Hearing.{sent_in}
use Rattle.lent_state.specs.View.{Lent, Held, Other, lent_board, by_lent, told_board}
use Rattle.batch.specs.Items.{Lists, start_of, octets_at, room_at}
use Rattle.batch.specs.Many.{items_held, answer_at, items_answered, items_sent}
use Rattle.batch.proofs.Sent.{pasted_length, pasted_rest}
use Rattle.batch.proofs.Stretches.{room_length}
use Rattle.demands.proofs.Output.{sent_as_many}
use Rattle.demands.proofs.Stretches.{pasted_here, pasted_after}

-- ---- where all items end: the sum of the lengths
start_behind : (k : ℕ) (ks : List ℕ) (i : ℕ) → start_of (k ∷ ks) (suc i) ≡ k + start_of ks i
unfolding start_of
start_behind k ks zero = omega arith
start_behind k ks (suc i) = omega (arith, start_behind k ks i)

pub all_octets_lem : (ks : List ℕ) → start_of ks (length ks) ≡ total ks
unfolding start_of total
all_octets_lem [] = refl
all_octets_lem (k ∷ ks) = start_behind k ks (length ks) ∙ ap (λ (n : ℕ). k + n) (all_octets_lem ks)

-- ---- what f is of the k numbers from i on
abbrev pub values_from : {A : Type 0} → (ℕ → A) → ℕ → ℕ → List A
values_from f i zero = []
values_from f i (suc k) = f i ∷ values_from f (suc i) k

module _ {A : Type 0} (f : ℕ → A) where
  values_more : (i k : ℕ) → values_from f i (suc k) ≡ values_from f i k ++ (f (i + k) ∷ [])
  values_more i zero = ap (λ (n : ℕ). f n ∷ []) (omega arith)
  values_more i (suc k) = ap (λ (l : List A). f i ∷ l) (values_more (suc i) k ∙ ap (λ (n : ℕ). values_from f (suc i) k ++ (f n ∷ [])) (omega arith))

  value_at : (i k j : ℕ) (d : A) → j < k → get_or (values_from f i k) j d ≡ f (i + j)
  value_at i zero j d h = absurd (omega (arith, h))
  value_at i (suc k) zero d h = ap f (omega arith)
  value_at i (suc k) (suc j) d h = value_at (suc i) k j d (omega (arith, h)) ∙ ap f (omega arith)

  pub value_first : (k j : ℕ) (d : A) → j < k → get_or (values_from f 0 k) j d ≡ f j
  value_first k j d h = value_at 0 k j d h ∙ ap f (omega arith)

-- ---- what an item sends on is as long as its room
sent_held : (x : Board) (s : State) (rs : List Record) (p second : ℕ) (octets o : List ℕ)
    → length (sent_output (heard_ending x s rs p second octets (length o)) octets o) ≡ length o
unfolding heard_ending
sent_held x s rs p second octets o =
    sent_as_many (record { board = x; number = s.number; mission = s.mission; memory = s.memory }) rs p second octets o

sent_length : (b : List ℕ) (l : Lent State) (rs : List Record) (p second : ℕ) (octets o : List ℕ)
    → length (sent_in b l rs p second octets o) ≡ length o
unfolding told_board
sent_length b l rs p second octets o = by (lent_board b) l
  where
    by : (v : Lent Board) (k : Lent State)
        → length (by_lent (λ (x : Board). by_lent (λ (s : State). sent_output (heard_ending x s rs p second octets (length o)) octets o) o k) o v) ≡ length o
    by (Held x) (Held s) = sent_held x s rs p second octets o
    by (Held x) (Other w) = refl
    by (Other w) k = refl

module _ (b : List ℕ) (l : Lent State) (rs : List Record) (x : Lists) where
  -- ---- the answers
  abbrev pub answers_of : ℕ → ℕ → List ℕ
  answers_of i k = values_from (answer_at b l rs x) i k

  answers_length : (n : List ℕ) (i : ℕ) → length (items_answered b l rs x n i) ≡ length n
  unfolding items_answered
  answers_length n zero = refl
  answers_length n (suc i) = length-set (items_answered b l rs x n i) i (answer_at b l rs x i) ∙ answers_length n i

  answers_first : (n : List ℕ) (i : ℕ) → i ≤ length n → take i (items_answered b l rs x n i) ≡ answers_of 0 i
  unfolding items_answered
  answers_first n zero h = refl
  answers_first n (suc i) h =
      let before = items_answered b l rs x n i in
      take-suc-set before i (answer_at b l rs x i) (omega (arith, h, answers_length n i))
      ∙ ap (λ (z : List ℕ). z ++ (answer_at b l rs x i ∷ [])) (answers_first n i (omega (arith, h)))
      ∙ ap (λ (k : ℕ). answers_of 0 i ++ (answer_at b l rs x k ∷ [])) (omega arith)
      ∙ sym (values_more (answer_at b l rs x) 0 i)

  -- where there are as many answers as items
  pub answers_are : (n : List ℕ) (k : ℕ) → length n ≡ k → items_answered b l rs x n k ≡ answers_of 0 k
  answers_are n k same =
      sym (take_all k (items_answered b l rs x n k) (omega (arith, same, answers_length n k))) ∙ answers_first n k (omega (arith, same))

  -- ---- the output
  module _ (o : List ℕ) where
    abbrev pub sent_at : ℕ → List ℕ
    sent_at i = sent_in b (items_held b l rs x i) rs (get_or x.ports i 0) (get_or x.seconds i 0) (octets_at x.lengths x.octets i) (room_at o i)

    -- so it is after i items
    pub record WrittenBy (i : ℕ) : Type 0 where
      pub long : length (items_sent b l rs x o i) ≡ length o
      pub rest : drop (output_room * i) (items_sent b l rs x o i) ≡ drop (output_room * i) o
      pub items : (j : ℕ) → j < i → room_at (items_sent b l rs x o i) j ≡ sent_at j

    module _ (i : ℕ) (before : WrittenBy i) (wide : output_room * suc i ≤ length o) (long : length (sent_at i) ≡ output_room) where
      abbrev had : List ℕ
      had = items_sent b l rs x o i

      abbrev at : ℕ
      at = output_room * i

      room : at + length (sent_at i) ≤ length had
      room = omega (arith, wide, long, before.long)

      next : at + length (sent_at i) ≡ output_room * suc i
      next = omega (arith, long)

      more_rest : drop (output_room * suc i) (pasted had at (sent_at i)) ≡ drop (output_room * suc i) o
      more_rest =
          ap (λ (n : ℕ). drop n (pasted had at (sent_at i))) (sym next)
          ∙ pasted_rest had (sent_at i) at room
          ∙ sym (drop-drop (length (sent_at i)) at had)
          ∙ ap (drop (length (sent_at i))) before.rest
          ∙ drop-drop (length (sent_at i)) at o
          ∙ ap (λ (n : ℕ). drop n o) next

      this_item : room_at (pasted had at (sent_at i)) i ≡ sent_at i
      this_item = ap (λ (n : ℕ). take n (drop at (pasted had at (sent_at i)))) (sym long) ∙ pasted_here had (sent_at i) at room

      more_items : (j : ℕ) → j < suc i → room_at (pasted had at (sent_at i)) j ≡ sent_at j
      more_items j h = by (eqb j i) refl
        where
          by : (t : Bool) → eqb j i ≡ t → room_at (pasted had at (sent_at i)) j ≡ sent_at j
          by true e = ap (λ (k : ℕ). room_at (pasted had at (sent_at i)) k) (eqb-true j i e) ∙ this_item ∙ ap sent_at (sym (eqb-true j i e))
          by false e =
              let earlier : j < i = omega (arith, h, eqb-false j i e) in
              pasted_after had (sent_at i) at (output_room * j) output_room (omega (arith, room)) (omega (arith, earlier)) ∙ before.items j earlier

      written_more : WrittenBy (suc i)
      unfolding items_sent
      written_more = record { long = pasted_length had (sent_at i) at room ∙ before.long; rest = more_rest; items = more_items }

    written_none : WrittenBy 0
    unfolding items_sent
    written_none = record { long = refl; rest = refl; items = λ j h. absurd (omega (arith, h)) }

    pub written : (k : ℕ) → output_room * k ≤ length o → ((i : ℕ) → i < k → length (sent_at i) ≡ output_room) → WrittenBy k
    written zero wide long = written_none
    written (suc i) wide long =
        written_more i (written i (omega (arith, wide)) (λ j h. long j (omega (arith, h)))) wide (long i (omega arith))

    pub sent_long : (i : ℕ) → output_room * suc i ≤ length o → length (sent_at i) ≡ output_room
    sent_long i wide = sent_length b (items_held b l rs x i) rs _ _ (octets_at x.lengths x.octets i) (room_at o i) ∙ room_length o i wide
