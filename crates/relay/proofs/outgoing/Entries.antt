-- One entry put, or none, and one port after the other. Assumes nothing.
use native.Mathlib.Omega.{arith}
use native.Mathlib.Numerals.{add-one}
use Prim.Native.Nat.{ℕ, zero, suc, ◌+◌, ◌≤◌}
use mathlib.Core.Path.{◌≡◌, refl, sym, ap, ◌∙◌}
use mathlib.Core.Bool.{Bool, true, false}
use lib.Bits.{bit_and, and_zero_l}
use lib.Dec.{eqb}
use borrow.Author.Tests.{eq-eqb, ne_eqb}
use Rattle.checks.specs.Order.{pick}
use Rattle.checks.proofs.Bools.{true_false}
use Rattle.sets.specs.Sets.{only_port}
use Rattle.queue.specs.Queue.{put_of}
use Rattle.queue.specs.declared.Entry.{Entry}
use Rattle.queue.specs.declared.Queue.{Queue}
use Rattle.queue.specs.declared.Put.{Put}
use Rattle.state.specs.Relay.{Mission, Relay, queue_at, put_queue, with_mission}
use Rattle.state.specs.Seen.{Board, State, seated, on_mission, on_seated}
use Rattle.relay.specs.Outgoing.{entered, entered_if, entered_all}

pub one_entered :
    (b : Board) (s : State) (p : ℕ) (e : Entry) {t : State} {q : Queue} {put : Put}
    → q ≡ queue_at s.mission p
    → put ≡ put_of q e
    → t ≡ on_mission (λ m. put_queue m p put.queue) s
    → t ≡ on_seated b (λ r. entered r p e) s
one_entered b s p e eq ep et =
    et
    ∙ ap (λ (x : Queue). on_mission (λ m. put_queue m p x) s) (ap (λ (x : Put). x.queue) (ep ∙ ap (λ (x : Queue). put_of x e) eq))

module _ (b : Board) (s : State) (took : ℕ) (e : Entry) (p : ℕ) {port : ℕ} (only : port ≡ only_port p) where
  pub not_in : bit_and took port ≡ 0 → s ≡ on_seated b (λ r. entered_if r took e p) s
  unfolding entered_if
  not_in h = rw (← only) (simp (eq-eqb _ 0 h))

  pub is_in : {t : State} → (bit_and took port ≡ 0 → ⊥) → t ≡ on_seated b (λ r. entered r p e) s → t ≡ on_seated b (λ r. entered_if r took e p) s
  unfolding entered_if
  is_in h et = rw (← only) (simp (ne_eqb _ 0 h) et)

-- ---- entering changes the mission's part alone
keeps_if : (t : Bool) (x r : Relay) (m : Mission) → x ≡ with_mission r x.mission → pick t x (with_mission x m) ≡ with_mission r (pick t x (with_mission x m)).mission
keeps_if true x r m h = h
keeps_if false x r m h = ap (λ (y : Relay). with_mission y m) h

keeps : (r : Relay) (took : ℕ) (e : Entry) (n : ℕ) → entered_all r took e n ≡ with_mission r (entered_all r took e n).mission
unfolding entered_all entered_if
keeps r took e zero = refl
keeps r took e (suc p) = keeps_if (eqb (bit_and took (only_port p)) 0) (entered_all r took e p) r _ (keeps r took e p)

-- ---- the walk
pub nobody_yet : (b : Board) (s : State) (took : ℕ) (e : Entry) → s ≡ on_seated b (λ r. entered_all r took e 0) s
unfolding entered_all
nobody_yet b s took e = refl

pub one_further :
    (b : Board) (s : State) (took : ℕ) (e : Entry) (p : ℕ) {t u : State}
    → t ≡ on_seated b (λ r. entered_all r took e p) s
    → u ≡ on_seated b (λ r. entered_if r took e p) t
    → u ≡ on_seated b (λ r. entered_all r took e (p + 1)) s
unfolding entered_all
one_further b s took e p et eu =
    eu
    ∙ ap (on_seated b (λ r. entered_if r took e p)) et
    ∙ ap (λ (x : Relay). on_seated b (λ r. entered_if x took e p) s) (sym (keeps (seated b s) took e p))
    ∙ sym (ap (λ (n : ℕ). on_seated b (λ r. entered_all r took e n) s) (add-one p))

pub all_entered :
    (b : Board) (s : State) (took : ℕ) (e : Entry) (p : ℕ) {t : State}
    → 8 ≤ p
    → p ≤ 8
    → t ≡ on_seated b (λ r. entered_all r took e p) s
    → t ≡ on_seated b (λ r. entered_all r took e 8) s
all_entered b s took e p h l et =
    et ∙ ap (λ (n : ℕ). on_seated b (λ r. entered_all r took e n) s) (let z : p ≡ 8 = omega arith in z)

-- no port took
none_case : (t : Bool) (r r' : Relay) → t ≡ true → pick t r r' ≡ r
none_case true r r' h = refl
none_case false r r' h = true_false (sym h)

pub none_entered : (r : Relay) (e : Entry) (n : ℕ) → entered_all r 0 e n ≡ r
unfolding entered_all entered_if
none_entered r e zero = refl
none_entered r e (suc p) =
    none_case (eqb (bit_and 0 (only_port p)) 0) (entered_all r 0 e p) (entered (entered_all r 0 e p) p e)
    (eq-eqb (bit_and 0 (only_port p)) 0 (and_zero_l (only_port p)))
    ∙ none_entered r e p
