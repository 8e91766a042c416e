-- What a call makes of one port's queue. Assumes nothing.
use native.Mathlib.Omega.{arith}
use Prim.Native.Nat.{ℕ, zero, suc, ◌+◌, ◌≤◌, ◌<◌}
use mathlib.Core.Path.{◌≡◌, refl, sym, ap, ◌∙◌}
use mathlib.Core.Bool.{Bool, true, false, not}
use mathlib.Core.Logic.{◌≢◌, ⊎_elim}
use mathlib.Core.List.{List, [], ◌∷◌}
use native.Mathlib.Nat.{eq-or-lt_of_le, le_of_suc-le-suc}
use lib.Bits.{bit_and}
use lib.Dec.{eqb, ltb}
use lib.ListN.{length, take, length-set}
use lib.Seq.{get_or-set_same, get_or-set_other}
use Rattle.checks.specs.Order.{pick}
use Rattle.checks.proofs.Bools.{true_false}
use Rattle.checks.proofs.Laws.{either}
use Rattle.sets.specs.Sets.{in_set, only_port}
use Rattle.queue.specs.Queue.{put_of, take_of, taken_from, waiting}
use Rattle.queue.specs.declared.Entry.{Entry}
use Rattle.std.proofs.Common.{Some, None}
use Rattle.queue.specs.declared.Queue.{Queue}
use Rattle.state.specs.Relay.{Relay, queue_in}
use Rattle.relay.specs.Outgoing.{entered, entered_if, entered_all}
use Rattle.survey.proofs.Bits.{only_in}

-- the eight queues
abbrev pub Eight : Relay → Type 0
Eight r = length r.mission.queues ≡ 8

-- ---- entering
pub eight_entered : (took : ℕ) (e : Entry) (n : ℕ) (r : Relay) → Eight r → Eight (entered_all r took e n)
unfolding entered_all entered_if
eight_entered took e zero r h = h
eight_entered took e (suc q) r h =
    let l = eight_entered took e q r h in
    either Eight (eqb (bit_and took (only_port q)) 0) l (length-set (entered_all r took e q).mission.queues q _ ∙ l)

module _ (p : ℕ) (inside : p < 8) (took : ℕ) (e : Entry) where
  -- another port's entry leaves the queue
  other_port : (r : Relay) (q : ℕ) → p ≢ q → queue_in (entered_if r took e q) p ≡ queue_in r p
  unfolding entered_if
  other_port r q h =
      either (λ (s : Relay). queue_in s p ≡ queue_in r p) (eqb (bit_and took (only_port q)) 0) refl (get_or-set_other r.mission.queues q p _ _ h)

  -- the port's own entry is put where it is in the set
  abbrev pub put_if : Queue → Queue
  put_if q = pick (in_set p took) (put_of q e).queue q

  own_case : (t : Bool) (r : Relay) → Eight r → queue_in (pick (not t) r (entered r p e)) p ≡ pick t (put_of (queue_in r p) e).queue (queue_in r p)
  own_case true r h = get_or-set_same r.mission.queues p _ _ (rw h inside)
  own_case false r h = refl

  own_port : (r : Relay) → Eight r → queue_in (entered_if r took e p) p ≡ put_if (queue_in r p)
  unfolding entered_if
  own_port r h = rw (only_in p took inside) (own_case (in_set p took) r h)

  before_it : (n : ℕ) (r : Relay) → n ≤ p → queue_in (entered_all r took e n) p ≡ queue_in r p
  unfolding entered_all
  before_it zero r h = refl
  before_it (suc q) r h = other_port (entered_all r took e q) q (λ z. omega arith) ∙ before_it q r (omega arith)

  pub entered_queue : (n : ℕ) (r : Relay) → Eight r → p < n → queue_in (entered_all r took e n) p ≡ put_if (queue_in r p)
  unfolding entered_all
  entered_queue zero r h l = absurd (omega arith)
  entered_queue (suc q) r h l =
      ⊎_elim
      (λ (z : p ≡ q).
      ap (λ (n : ℕ). queue_in (entered_if (entered_all r took e n) took e n) p) (sym z)
      ∙ own_port (entered_all r took e p) (eight_entered took e p r h)
      ∙ ap put_if (before_it p r (omega arith)))
      (λ (z : p < q). other_port (entered_all r took e q) q (λ w. omega arith) ∙ entered_queue q r h z)
      (eq-or-lt_of_le (le_of_suc-le-suc l))

-- ---- how many wait
pub put_count : (q : Queue) (e : Entry) → ltb q.count 32 ≡ true → (put_of q e).queue.count ≡ q.count + 1
unfolding put_of
put_count q e h = simp (h)

nothing_first : {X : Type 0} (e : Entry) → None ≡ Some e → X
nothing_first e h = true_false cc

one_waits : (q : Queue) (l : List Entry) (e : Entry) (n : ℕ) → (taken_from q (take n l)).head ≡ Some e → 0 < n
one_waits q l e zero h = nothing_first e h
one_waits q l e (suc n) h = omega arith

one_less : (q : Queue) (w : List Entry) (e : Entry) → 0 < q.count → (taken_from q w).head ≡ Some e → q.count ≡ 1 + (taken_from q w).queue.count
one_less q [] e h k = nothing_first e k
one_less q (x ∷ xs) e h k = omega arith

take_case : (t : Bool) (q : Queue) (e : Entry)
    → (pick t (record { queue = q; head = None }) (taken_from q (waiting q))).head ≡ Some e
    → q.count ≡ 1 + (pick t (record { queue = q; head = None }) (taken_from q (waiting q))).queue.count
take_case true q e h = nothing_first e h
take_case false q e h = one_less q (waiting q) e (one_waits q q.entries e q.count h) h

pub take_count : (q : Queue) (e : Entry) → (take_of q).head ≡ Some e → q.count ≡ 1 + (take_of q).queue.count
unfolding take_of
take_count q e h = take_case (ltb 32 q.count) q e h
